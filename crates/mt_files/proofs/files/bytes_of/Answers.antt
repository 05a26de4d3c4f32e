use Rattle.std.proofs.Common.{sym}
use Rattle.mt_defs.specs.Folder.{folder_of}
use Rattle.mt_granules.proofs.FileByteLemmas.{file_is_read}
use Rattle.mt_files.proofs.files.bytes_of.Goals as goal

pub returns-in-Some : goal.returns-in-Some
returns-in-Some c = file_is_read (folder_of c.args.files.now) c.args.name.now c.in-Some.bytes.now (sym c.in-Some.ensures) c.know_bytes.ensures
