use Rattle.std.proofs.Common.{◌≤◌, length, ap, sym, ◌∙◌, arith}
use Rattle.std.proofs.lemmas.List.{get_or_past}
use Rattle.mt_types.specs.Order.{value_cmp}
use Rattle.mt_types.specs.declared.value.Value.TheVariants.{Null}
use Rattle.mt_columns.proofs.CompareLemmas.{null_ties}
use Rattle.mt_columns.proofs.column.Column.compare_null_to.Goals as goal

pub returns-else-index-len : goal.returns-else-index-len
returns-else-index-len c =
    let past : length c.args.self.now.values ≤ c.args.index = omega (arith, c.if-index-len.false, c.len.ensures) in
    sym null_ties ∙ ap (value_cmp Null) (sym (get_or_past c.args.self.now.values c.args.index Null past))
