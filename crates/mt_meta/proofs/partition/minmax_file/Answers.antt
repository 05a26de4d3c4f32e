use Rattle.std.proofs.Common.{sym, ◌∙◌, ap, subst, get_or}
use Rattle.std.specs.Prelude.{All}
use Rattle.mt_meta.specs.PartitionKeys.{HasValueOf}
use Rattle.mt_meta.proofs.PartitionLemmas.{rows_have}
use Rattle.mt_meta.proofs.partition.minmax_file.Goals as goal

pub minmax_bytes-requires-clause-fit : goal.minmax_bytes-requires-clause-fit
minmax_bytes-requires-clause-fit c =
    let at = c.index-as_slice-column_index in
    let is = at.is ∙ ap (λ columns. get_or columns c.args.column_index at.result) c.as_slice.ensures in
    subst (λ column. All (HasValueOf column.ty c.args.column_index) c.args.rows.now) (sym is) (rows_have c.args.table.now.columns c.args.column_index at.result c.args.rows.now c.requires.known c.requires.fit)
