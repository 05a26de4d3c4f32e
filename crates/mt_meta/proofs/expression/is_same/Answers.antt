use Rattle.std.proofs.Common.{ap, ◌∙◌}
use Rattle.mt_types.specs.Order.{value_cmp}
use Rattle.mt_defs.specs.Rows.{cell}
use Rattle.mt_meta.proofs.PartitionLemmas.{tie_is}
use Rattle.mt_meta.proofs.expression.is_same.Goals as goal

pub returns-in-Plain : goal.returns-in-Plain
returns-in-Plain c =
    let a = c.cell.ensures in
    let b = c.cell-in-Plain.ensures in
    let tie = tie_is (cell c.args.a.now c.in-Plain.i) (cell c.args.b.now c.in-Plain.i) c.compare.result (c.compare.ensures ∙ ap (λ v. value_cmp v c.cell-in-Plain.result.now) a ∙ ap (value_cmp (cell c.args.a.now c.in-Plain.i)) b) in
    rw (c.eq.ensures, c.in-Plain.is) tie
