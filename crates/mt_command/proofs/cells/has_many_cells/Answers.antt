use Rattle.std.proofs.Common.{◌+◌, ◌*◌, ◌≤◌, length, sym, ap, subst, ◌∙◌, arith}
use Rattle.std.specs.Prelude.{nat_le}
use Rattle.std.proofs.lemmas.Bool.{leb-true}
use Rattle.mt_types.proofs.StepLemmas.{both_true}
use Rattle.mt_table.specs.declared.limits.TheConstants.{MAX_CELLS}
use Rattle.mt_table.specs.declared.projection.Projection.TheVariants.{Normal, Grouped}
use Rattle.mt_table.specs.Kept.{keeps_grouped}
use Rattle.mt_defs.specs.Writer.{projection_rows}
use Rattle.mt_command.specs.Targets.{has_many_cells}
use Rattle.mt_command.proofs.CellLemmas.{read_at, grouped_width, grouped_few, grouped_many, normal_few}
use Rattle.mt_command.proofs.cells.has_many_cells.Goals as goal

pub overflow_add-columns : goal.overflow_add-columns
overflow_add-columns c =
    let at = read_at c.args.table.now c.as_slice.result.now c.args.projection c.index-as_slice-projection.result (Grouped c.in-Grouped.name c.in-Grouped.keys c.in-Grouped.aggs) c.as_slice.ensures c.requires.there c.index-as_slice-projection.is c.in-Grouped.is in
    let few = grouped_width c.args.table.now c.args.projection c.in-Grouped.name c.in-Grouped.keys c.in-Grouped.aggs at in
    let keys = c.len.ensures in
    let aggs = c.len-in-Grouped.ensures in
    omega (arith, few, keys, aggs)

pub returns-then-are_few : goal.returns-then-are_few
returns-then-are_few c =
    let at = read_at c.args.table.now c.as_slice.result.now c.args.projection c.index-as_slice-projection.result (Grouped c.in-Grouped.name c.in-Grouped.keys c.in-Grouped.aggs) c.as_slice.ensures c.requires.there c.index-as_slice-projection.is c.in-Grouped.is in
    let kept = (both_true _ (keeps_grouped c.args.table.now.columns c.in-Grouped.keys c.in-Grouped.aggs) at.kept).1 in
    let test = leb-true (length c.args.rows.now * (c.len.result + c.len-in-Grouped.result)) MAX_CELLS (sym c.are_few.ensures ∙ c.if-are_few.true) in
    let keyed = subst (λ n. length c.args.rows.now * (n + c.len-in-Grouped.result) ≤ MAX_CELLS) c.len.ensures test in
    let few = subst (λ n. length c.args.rows.now * (length c.in-Grouped.keys + n) ≤ MAX_CELLS) c.len-in-Grouped.ensures keyed in
    sym (ap (has_many_cells c.args.table.now c.args.rows.now) at.same ∙ grouped_few c.args.table.now c.in-Grouped.name c.in-Grouped.keys c.in-Grouped.aggs c.args.rows.now kept c.requires.fit few)

pub returns-in-Normal : goal.returns-in-Normal
returns-in-Normal c =
    let at = read_at c.args.table.now c.as_slice.result.now c.args.projection c.index-as_slice-projection.result (Normal c.in-Normal.name c.in-Normal.columns c.in-Normal.sort) c.as_slice.ensures c.requires.there c.index-as_slice-projection.is c.in-Normal.is in
    sym (ap (has_many_cells c.args.table.now c.args.rows.now) at.same ∙ normal_few c.args.table.now c.in-Normal.name c.in-Normal.columns c.in-Normal.sort c.args.rows.now c.requires.fit c.requires.few)

pub returns-in_ok-stored-in-Grouped : goal.returns-in_ok-stored-in-Grouped
returns-in_ok-stored-in-Grouped c =
    let table = c.args.table.now in
    let rows = c.args.rows.now in
    let projection = Grouped c.in-Grouped.name c.in-Grouped.keys c.in-Grouped.aggs in
    let at = read_at table c.as_slice.result.now c.args.projection c.index-as_slice-projection.result projection c.as_slice.ensures c.requires.there c.index-as_slice-projection.is c.in-Grouped.is in
    let kept = (both_true _ (keeps_grouped table.columns c.in-Grouped.keys c.in-Grouped.aggs) at.kept).1 in
    let stored = c.len-in-Grouped-2.ensures ∙ ap (λ l. length l) (c.in_ok-stored-in-Grouped.ensures.written ∙ ap (λ p. projection_rows table p rows) at.same) in
    let is = c.are_few-in-Grouped.ensures ∙ ap (λ n. nat_le (n * (c.len.result + c.len-in-Grouped.result)) MAX_CELLS) stored
    ∙ ap (λ n. nat_le (length (projection_rows table projection rows) * (n + c.len-in-Grouped.result)) MAX_CELLS) c.len.ensures
    ∙ ap (λ n. nat_le (length (projection_rows table projection rows) * (length c.in-Grouped.keys + n)) MAX_CELLS) c.len-in-Grouped.ensures in
    grouped_many table c.in-Grouped.name c.in-Grouped.keys c.in-Grouped.aggs rows c.are_few-in-Grouped.result kept c.requires.fit is ∙ ap (has_many_cells table rows) (sym at.same)
