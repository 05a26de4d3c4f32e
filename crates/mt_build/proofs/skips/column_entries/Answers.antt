use Rattle.std.proofs.Common.{ap, ◌∙◌}
use Rattle.mt_defs.specs.Metadata.{column_at}
use Rattle.mt_granules.proofs.CellLemmas.{column_there}
use Rattle.mt_build.proofs.SkipLemmas.{column_read, has_values, values_fit}
use Rattle.mt_build.proofs.skips.column_entries.Goals as goal

pub column_values-requires : goal.column_values-requires
column_values-requires c =
    let skip = c.args.skip.now in
    column_there (column_at c.args.table.now.columns skip.column).ty skip.column c.args.rows.now (has_values c.args.table.now.columns skip c.args.rows.now c.requires.skip c.requires.fit)

pub entries-requires-clause-fit : goal.entries-requires-clause-fit
entries-requires-clause-fit c =
    values_fit c.args.table.now.columns c.as_slice.result.now c.args.skip.now c.args.rows.now c.index-as_slice-column.result c.as_slice-2.result.now c.in_ok-values.values.items
    c.requires.skip c.requires.fit c.as_slice.ensures c.as_slice-2.ensures.value c.in_ok-values.ensures

pub returns : goal.returns
returns c =
    c.entries.ensures.entries c.args.table.now c.args.rows.now
    (ap (λ (column : _). column.ty) (column_read c.args.table.now.columns c.as_slice.result.now c.args.skip.now.column c.index-as_slice-column.result c.as_slice.ensures c.requires.skip.known))
    (c.as_slice-2.ensures.value ∙ c.in_ok-values.ensures)
