use Rattle.std.proofs.Common.{◌≡◌, List, ap, sym, subst, ◌∙◌}
use Rattle.std.specs.Prelude.{IfOk}
use Rattle.mt_fault.specs.declared.file.FileBytes.{FileBytes}
use Rattle.mt_defs.specs.Granules.{AreGranules}
use Rattle.mt_defs.specs.WrittenGranules.{is_small, written_granules}
use Rattle.mt_meta.specs.Definitions.{IsDefinition}
use Rattle.mt_meta.proofs.DefinitionLemmas.{base_is}
use Rattle.mt_layout.proofs.HoldLemmas.{granules_hold}
use Rattle.mt_build.proofs.AppendLemmas.{folder_is}
use Rattle.mt_build.proofs.folder.build.Goals as goal

pub files_with-requires-clause-definition : goal.files_with-requires-clause-definition
files_with-requires-clause-definition g c = subst IsDefinition (sym c.in_ok-base.ensures) (base_is c.args.table.now)

pub files_with-requires-clause-cut : goal.files_with-requires-clause-cut
files_with-requires-clause-cut g c =
    subst (λ granules. AreGranules granules c.args.rows.now) (sym c.in_ok-layout.ensures.granules) (granules_hold c.args.table.now.settings c.as_slice.result.now c.args.rows.now)

pub returns : goal.returns
returns g c =
    let table = c.args.table.now in
    let rows = c.args.rows.now in
    let P : List FileBytes → Type 0 = λ files. IfOk c.sort_files.result (λ sorted. sorted ≡ files) in
    subst P (folder_is table rows c.in_ok-base.base c.in_ok-layout.layout c.in_ok-files.files.items c.append_partition.new.files.items c.append_skips.new.files.items c.append_projections.new.files.items c.in_ok-base.ensures
    (c.in_ok-layout.ensures.granules ∙ ap (λ columns. written_granules table.settings columns rows) c.as_slice.ensures) (c.in_ok-layout.ensures.compact ∙ ap (λ columns. is_small table.settings columns rows) c.as_slice.ensures)
    c.in_ok-files.ensures c.in_ok-append_partition.ensures c.in_ok-append_skips.ensures c.in_ok-append_projections.ensures) c.sort_files.ensures
