use Rattle.std.proofs.Common.{ap, ◌∙◌}
use Rattle.std.specs.List.{list_all}
use Rattle.mt_types.specs.Fits.{fits_of}
use Rattle.mt_codec.specs.Runs.{values_of}
use Rattle.mt_granules.proofs.CellLemmas.{column_fit}
use Rattle.mt_granules.proofs.columns.encode_column.Goals as goal

pub encode_runs-requires-clause-fit : goal.encode_runs-requires-clause-fit
encode_runs-requires-clause-fit c =
    ap (λ cells. list_all (fits_of c.args.ty.now) (values_of cells)) c.deref.ensures.value
    ∙ ap (list_all (fits_of c.args.ty.now)) c.in_ok-cells.ensures ∙ column_fit c.args.ty.now c.args.column_index c.args.rows.now c.requires.values
