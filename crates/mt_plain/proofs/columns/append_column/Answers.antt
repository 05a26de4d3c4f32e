use Rattle.std.proofs.Common.{◌≡◌, List, subst}
use Rattle.std.specs.Prelude.{OnOk}
use Rattle.mt_fault.specs.declared.file.FileBytes.{FileBytes}
use Rattle.mt_plain.proofs.ColumnLemmas.{column_files}
use Rattle.mt_plain.proofs.columns.append_column.Goals as goal

pub returns : goal.returns
returns c =
    let P : List FileBytes → Type 0 = λ files. OnOk c.append_file-2.result (c.append_file-2.new.files.items ≡ files) in
    subst P (column_files c.args.column_index c.args.name.now c.args.rows.now c.args.granules.now _ _ c.args.files.now.items _ c.requires.name c.in_ok-stream.ensures c.in_ok-append_file.ensures) c.append_file-2.ensures
