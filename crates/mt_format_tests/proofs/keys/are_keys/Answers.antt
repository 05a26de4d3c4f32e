use Rattle.std.proofs.Common.{◌≡◌, ◌<◌, true, length, subst}
use Rattle.std.specs.Prelude.{All}
use Rattle.std.proofs.lemmas.List.{take_all}
use Rattle.std.proofs.lemmas.List.Elements.{All-more}
use Rattle.mt_item.specs.ItemTypes.{is_scalar}
use Rattle.mt_defs.specs.Metadata.{column_at}
use Rattle.mt_format_tests.proofs.keys.are_keys.Goals as goal

pub loop-key-preserved : goal.loop-key-preserved
loop-key-preserved c =
    let columns = c.args.columns.now in
    let i = c.loop-key.key-index in
    record {
      known = All-more (λ i. i < length columns) c.args.keys.now i 0 c.loop-key-test.true c.loop-key.invariant.known (c.is_key.ensures.known c.if-not-is_key.false);
      scalar = All-more (λ i. is_scalar (column_at columns i).ty ≡ true) c.args.keys.now i 0 c.loop-key-test.true c.loop-key.invariant.scalar (c.is_key.ensures.scalar c.if-not-is_key.false);
    }

pub returns : goal.returns
returns c = λ is.
    let columns = c.args.columns.now in
    let all = take_all c.loop-key.key-index c.args.keys.now c.loop-key-test.false in
    record {
      known = subst (All (λ i. i < length columns)) all c.loop-key.invariant.known;
      scalar = subst (All (λ i. is_scalar (column_at columns i).ty ≡ true)) all c.loop-key.invariant.scalar;
    }
