use Rattle.std.proofs.Common.{◌≡◌, List, map, take, sym, ap, subst, ◌∙◌}
use Rattle.std.specs.Prelude.{All}
use Rattle.std.proofs.lemmas.Result.{err_from_is_err_and}
use Rattle.mt_table.specs.declared.column.Column.{Column}
use Rattle.mt_defs.specs.Folder.{folder_of}
use Rattle.mt_defs.specs.PrimaryIndex.{index_name, index_rows, key_bytes}
use Rattle.mt_defs.specs.Rows.{Row, RowFits}
use Rattle.mt_definition.specs.DefinitionReading.{index_keys}
use Rattle.mt_granules.specs.FileFaults.{file_reading}
use Rattle.mt_fault.specs.Results.{Gives}
use Rattle.mt_definition.specs.RowRefs.{rows_in}
use Rattle.mt_definition.specs.RowsReading.{keys_reading}
use Rattle.mt_fault.proofs.FaultLemmas.{fails_then, gives_then}
use Rattle.mt_definition.proofs.KeyLemmas.{index_fits}
use Rattle.mt_definition.proofs.primary_index.check_index.Goals as goal

pub returns-in_err-bytes : goal.returns-in_err-bytes
returns-in_err-bytes c =
    let p = err_from_is_err_and c.from_residual.result c.from_residual.ensures.1 in
    rw (p.1, p.2) (fails_then c.in_err-bytes.field-0.0 (file_reading (folder_of c.args.files.now) index_name) (keys_reading 0 (index_keys c.args.definition.now c.args.accepted.now)) c.in_err-bytes.ensures)

pub check_keys-requires-clause-fit : goal.check_keys-requires-clause-fit
check_keys-requires-clause-fit c =
    let rows = ap rows_in c.as_slice-5.ensures.value ∙ c.in-Ok.ensures ∙ ap (λ (rs : List Row). index_rows rs c.as_slice-3.result.now) c.as_slice-2.ensures ∙ ap (index_rows c.args.accepted.now.rows) c.as_slice-3.ensures in
    subst (λ (columns : List Column). All (RowFits columns) (rows_in c.as_slice-5.result.now)) (sym c.as_slice-4.ensures)
    (subst (All (RowFits c.args.definition.now.columns)) (sym rows) (index_fits (RowFits c.args.definition.now.columns) c.args.accepted.now.rows c.args.accepted.now.granules c.requires.fit))

pub returns : goal.returns
returns c =
    let def = c.args.definition.now in
    let rows = ap rows_in c.as_slice-5.ensures.value ∙ c.in-Ok.ensures ∙ ap (λ (rs : List Row). index_rows rs c.as_slice-3.result.now) c.as_slice-2.ensures ∙ ap (index_rows c.args.accepted.now.rows) c.as_slice-3.ensures in
    let key = c.split_at.ensures.front ∙ ap (take def.primary) c.as_slice.ensures in
    let keys : map (key_bytes c.as_slice-4.result.now c.split_at.result.0.now) (rows_in c.as_slice-5.result.now) ≡ index_keys def c.args.accepted.now =
    ap (λ (columns : List Column). map (key_bytes columns c.split_at.result.0.now) (rows_in c.as_slice-5.result.now)) c.as_slice-4.ensures
    ∙ ap (λ some. map (key_bytes def.columns some) (rows_in c.as_slice-5.result.now)) key ∙ ap (map (key_bytes def.columns (take def.primary def.sort))) rows in
    gives_then c.in_ok-bytes.bytes.now c.check_keys.result (file_reading (folder_of c.args.files.now) index_name) (keys_reading 0 (index_keys def c.args.accepted.now)) c.in_ok-bytes.ensures
    (subst (λ some. Gives c.check_keys.result (keys_reading 0 some c.in_ok-bytes.bytes.now)) keys c.check_keys.ensures)
