use Rattle.std.proofs.Common.{arith, ℕ, ◌≡◌, ◌≤◌, ◌*◌, ◌^◌, ◌∙◌, ap, sym, subst, ◌<◌, ◌+◌, get_or, refl, lit<, add-one}
use Rattle.std.proofs.Math.Nat.{pow-suc}
use Rattle.mt_types.specs.Leb128.{leb128}
use Rattle.mt_types.proofs.Leb128Lemmas.{GoesOn, ComesFrom, is_short, is_padded, is_long, is_got, weight_room, goes_on_more, comes_from_more, still_below, still_fits, tenth}
use Rattle.mt_types.proofs.varint.varint_get.Goals as goal
use Rattle.mt_types.proofs.varint.varint_get.Goals.{else-byte-eq0-via-then-byte-eq0+else-i-gt0, else-byte-eq0-via-else-byte-eq0}

pub returns-then-i-bytes : goal.returns-then-i-bytes
returns-then-i-bytes c =
    let h = c.loop-i.invariant in
    let room : 128 ^ c.loop-i.i ≤ 128 ^ 9 = weight_room c.loop-i.i 9 (omega arith) in
    is_short c.loop-i.value c.loop-i.weight c.loop-i.i c.args.bytes.now (omega arith) h.below (omega arith) h.on

pub returns-then-i-gt0 : goal.returns-then-i-gt0
returns-then-i-gt0 c =
    is_padded c.loop-i.value c.loop-i.weight c.loop-i.i c.args.bytes.now c.if-i-bytes.false (sym c.from-byte.ensures ∙ c.if-byte-eq0.true) c.if-i-gt0.true c.loop-i.invariant.from

pub returns-then-byte-lt128 : goal.returns-then-byte-lt128
returns-then-byte-lt128 c =
    let h = c.loop-i.invariant in
    let room : 128 ^ c.loop-i.i ≤ 128 ^ 8 = weight_room c.loop-i.i 8 (omega arith) in
    is_got c.loop-i.value c.loop-i.weight c.loop-i.i c.from-byte.result c.args.bytes.now c.if-i-bytes.false (sym c.from-byte.ensures) c.if-byte-lt128.true (λ more. omega (arith, c.else-byte-eq0.either))
    (still_fits c.loop-i.value c.loop-i.weight c.from-byte.result c.if-byte-lt128.true h.below (omega (arith, h.weight))) h.on

pub overflow_mul-weight : goal.overflow_mul-weight
overflow_mul-weight c = let room : 128 ^ c.loop-i.i ≤ 128 ^ 8 = weight_room c.loop-i.i 8 (omega arith) in omega (arith, c.loop-i.invariant.weight)

pub loop-i-preserved : goal.loop-i-preserved
loop-i-preserved c =
    let h = c.loop-i.invariant in
    let byte : c.from-byte.result < 256 = omega (arith, c.type_inv.bytes c.loop-i.i) in
    record {
      weight = ap (λ n. n * 128) h.weight ∙ sym (rw add-one (pow-suc 128 c.loop-i.i));
      below = still_below c.loop-i.value c.loop-i.weight c.from-byte.result c.if-byte-lt128.false byte h.below;
      within = omega arith;
      on = goes_on_more c.loop-i.value c.loop-i.weight c.loop-i.i c.from-byte.result c.args.bytes.now c.if-i-bytes.false (sym c.from-byte.ensures) c.if-byte-lt128.false byte h.on;
      from = comes_from_more c.loop-i.value c.loop-i.weight c.loop-i.i c.from-byte.result c.args.bytes.now c.if-i-bytes.false (sym c.from-byte.ensures) c.if-byte-lt128.false h.from;
    }

pub returns-then-bytes-le9 : goal.returns-then-bytes-le9
returns-then-bytes-le9 c =
    let h = c.loop-i.invariant in
    let room : 128 ^ c.loop-i.i ≤ 128 ^ 9 = weight_room c.loop-i.i 9 (omega arith) in
    is_short c.loop-i.value c.loop-i.weight c.loop-i.i c.args.bytes.now (omega arith) h.below (omega arith) h.on

pub returns-then-bytes-ne1 : goal.returns-then-bytes-ne1
returns-then-bytes-ne1 c =
    let h = c.loop-i.invariant in
    let nine : c.loop-i.i ≡ 9 = omega arith in
    let weight = tenth c.loop-i.weight c.loop-i.i h.weight nine in
    let from : ComesFrom c.loop-i.value (2 ^ 63) 9 c.args.bytes.now =
    subst (λ (n : ℕ). ComesFrom c.loop-i.value (2 ^ 63) n c.args.bytes.now) nine (subst (λ (w : ℕ). ComesFrom c.loop-i.value w c.loop-i.i c.args.bytes.now) weight h.from) in
    is_long c.loop-i.value 9 (get_or c.args.bytes.now 9 0) c.args.bytes.now c.if-bytes-le9.false refl c.if-bytes-ne1.true from

pub returns : goal.returns
returns c =
    let h = c.loop-i.invariant in
    let nine : c.loop-i.i ≡ 9 = omega arith in
    let weight = tenth c.loop-i.weight c.loop-i.i h.weight nine in
    let on : GoesOn c.loop-i.value c.loop-i.weight 9 c.args.bytes.now = subst (λ (n : ℕ). GoesOn c.loop-i.value c.loop-i.weight n c.args.bytes.now) nine h.on in
    let got = is_got c.loop-i.value c.loop-i.weight 9 1 c.args.bytes.now c.if-bytes-le9.false c.if-bytes-ne1.false (lit< tt) (λ _. lit< tt) (omega arith) on in
    let one : c.loop-i.value + c.loop-i.weight * 1 ≡ c.loop-i.value + c.loop-i.weight = omega arith in
    (omega arith, got.1, got.2 ∙ ap leb128 one)
