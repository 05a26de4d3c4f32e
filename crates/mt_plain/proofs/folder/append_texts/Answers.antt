use Rattle.std.proofs.Common.{◌≡◌, List, subst}
use Rattle.std.specs.Prelude.{OnOk}
use Rattle.mt_fault.specs.declared.file.FileBytes.{FileBytes}
use Rattle.mt_plain.proofs.FolderLemmas.{texts_are}
use Rattle.mt_plain.proofs.IndexLemmas.{key_numbers}
use Rattle.mt_plain.proofs.folder.append_texts.Goals as goal

pub primary_index-requires : goal.primary_index-requires
primary_index-requires c = key_numbers c.args.table.now c.key_of.result c.args.rows.now c.requires c.key_of.ensures

pub returns : goal.returns
returns c =
    let P : List FileBytes → Type 0 = λ files. OnOk c.append_file-3.result (c.append_file-3.new.files.items ≡ files) in
    subst P (texts_are c.args.table.now c.args.rows.now _ _ _ _ _ c.args.granules.now c.key_of.result c.args.files.now.items _ _ c.requires.form c.names_of.ensures c.key_of.ensures
    c.in_ok-columns.ensures c.in_ok-count.ensures c.in_ok-index.ensures c.in_ok-append_file.ensures c.in_ok-append_file-2.ensures) c.append_file-3.ensures
