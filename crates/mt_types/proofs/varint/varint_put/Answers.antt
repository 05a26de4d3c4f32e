use Rattle.std.proofs.Common.{arith, ◌≡◌, ◌<◌, ◌+◌, ◌*◌, ◌^◌, ◌≤◌, ◌∙◌, length, subst, ℕ, take, drop, ◌++◌}
use Rattle.std.proofs.lemmas.List.{drop-set-lt}
use Rattle.mt_types.specs.Leb128.{leb128}
use Rattle.mt_types.proofs.Leb128Lemmas.{put_last, put_more, less_room, kept_on}
use Rattle.mt_types.proofs.varint.varint_put.Goals as goal

pub returns-then-rest-lt128-clause-size : goal.returns-then-rest-lt128-clause-size
returns-then-rest-lt128-clause-size c =
    (put_last c.args.value c.loop-i.rest c.loop-i.i c.loop-i.into c.args.into.now (omega arith) c.if-rest-lt128.true c.loop-i.invariant.encoded c.loop-i.invariant.kept).0

pub returns-then-rest-lt128-clause-written : goal.returns-then-rest-lt128-clause-written
returns-then-rest-lt128-clause-written c =
    (put_last c.args.value c.loop-i.rest c.loop-i.i c.loop-i.into c.args.into.now (omega arith) c.if-rest-lt128.true c.loop-i.invariant.encoded c.loop-i.invariant.kept).1

pub loop-i-preserved : goal.loop-i-preserved
loop-i-preserved c =
    let h = c.loop-i.invariant in
    let within : c.loop-i.i < length c.loop-i.into = omega arith in
    record {
      encoded = put_more c.args.value c.loop-i.rest c.loop-i.i c.loop-i.into within c.if-rest-lt128.false h.encoded;
      kept = drop-set-lt (c.loop-i.i + 1) c.loop-i.into c.loop-i.i _ (omega arith) ∙ kept_on c.loop-i.into c.args.into.now c.loop-i.i h.kept;
      room = less_room c.args.value c.loop-i.rest c.loop-i.i h.room;
    }

pub returns-clause-size : goal.returns-clause-size
returns-clause-size c =
    let nine : c.loop-i.i ≡ 9 = omega arith in
    let room : c.loop-i.rest * 128 ^ 9 ≤ c.args.value = subst (λ (n : ℕ). c.loop-i.rest * 128 ^ n ≤ c.args.value) nine c.loop-i.invariant.room in
    (put_last c.args.value c.loop-i.rest 9 c.loop-i.into c.args.into.now (omega arith) (omega arith) (subst (λ (n : ℕ). leb128 c.args.value ≡ take n c.loop-i.into ++ leb128 c.loop-i.rest) nine c.loop-i.invariant.encoded)
    (subst (λ (n : ℕ). drop n c.loop-i.into ≡ drop n c.args.into.now) nine c.loop-i.invariant.kept)).0

pub returns-clause-written : goal.returns-clause-written
returns-clause-written c =
    let nine : c.loop-i.i ≡ 9 = omega arith in
    let room : c.loop-i.rest * 128 ^ 9 ≤ c.args.value = subst (λ (n : ℕ). c.loop-i.rest * 128 ^ n ≤ c.args.value) nine c.loop-i.invariant.room in
    (put_last c.args.value c.loop-i.rest 9 c.loop-i.into c.args.into.now (omega arith) (omega arith) (subst (λ (n : ℕ). leb128 c.args.value ≡ take n c.loop-i.into ++ leb128 c.loop-i.rest) nine c.loop-i.invariant.encoded)
    (subst (λ (n : ℕ). drop n c.loop-i.into ≡ drop n c.args.into.now) nine c.loop-i.invariant.kept)).1
