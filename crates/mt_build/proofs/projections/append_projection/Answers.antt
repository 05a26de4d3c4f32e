use Rattle.std.proofs.Common.{◌++◌, get_or, map, sym, subst, ap, ◌∙◌, All}
use Rattle.std.proofs.lemmas.List.{get_or_default}
use Rattle.mt_table.specs.declared.definition.PartDef.{PartDef}
use Rattle.mt_table.specs.Stored.{no_projection, projection_at}
use Rattle.mt_defs.specs.Projections.{inner_of}
use Rattle.mt_defs.specs.Rows.{RowFits}
use Rattle.mt_defs.specs.Writer.{file_below, projection_rows}
use Rattle.mt_meta.specs.Definitions.{IsDefinition}
use Rattle.mt_build.proofs.AppendLemmas.{projection_appended}
use Rattle.mt_meta.proofs.InnerLemmas.{inner_is, projections_kept}
use Rattle.mt_build.proofs.ProjectionRowLemmas.{projection_fits}
use Rattle.mt_build.proofs.projections.append_projection.Goals as goal

pub definition_files-requires-clause-definition : goal.definition_files-requires-clause-definition
definition_files-requires-clause-definition c =
    let table = c.args.table.now in
    subst IsDefinition (sym c.in_ok-definition.ensures) (inner_is table (projection_at table c.args.projection) (projections_kept table c.args.projection no_projection c.requires.there))

pub definition_files-requires-clause-fit : goal.definition_files-requires-clause-fit
definition_files-requires-clause-fit c =
    let table = c.args.table.now in
    let projection = projection_at table c.args.projection in
    let kept = projections_kept table c.args.projection no_projection c.requires.there in
    let fit : All (RowFits (inner_of table projection).columns) (projection_rows table projection c.args.rows.now) = projection_fits table projection c.args.rows.now kept c.requires.fit in
    let rows : All (RowFits (inner_of table projection).columns) c.as_slice.result.now = subst (All (RowFits (inner_of table projection).columns)) (sym (c.as_slice.ensures ∙ c.in_ok-stored.ensures.written)) fit in
    subst (λ (definition : PartDef). All (RowFits definition.columns) c.as_slice.result.now) (sym c.in_ok-definition.ensures) rows

pub returns : goal.returns
returns c =
    let table = c.args.table.now in
    projection_appended table c.args.rows.now (projection_at table c.args.projection) c.index-as_slice-projection.result c.in_ok-definition.definition c.in_ok-stored.stored c.as_slice.result.now c.in_ok-below.below.items c.args.files.now.items c.append_below.new.files.items c.in_ok-prefix.prefix
    (c.index-as_slice-projection.is ∙ ap (λ read. get_or read c.args.projection c.index-as_slice-projection.result) c.as_slice-2.ensures ∙ get_or_default table.projections c.args.projection c.index-as_slice-projection.result no_projection c.requires.there) c.in_ok-definition.ensures c.as_slice.ensures c.in_ok-stored.ensures.written c.in_ok-below.ensures c.in_ok-prefix.ensures (c.in_ok-append_below.ensures ∙ ap (λ prefix. c.args.files.now.items ++ map (file_below prefix) c.in_ok-below.below.items) c.as_slice-3.ensures)
