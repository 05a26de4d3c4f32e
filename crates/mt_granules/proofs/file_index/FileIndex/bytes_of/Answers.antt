use Rattle.std.proofs.Common.{sym}
use Rattle.mt_granules.specs.FileFolder.{indexed_folder}
use Rattle.mt_granules.proofs.FileByteLemmas.{file_is_read}
use Rattle.mt_granules.proofs.file_index.FileIndex.bytes_of.Goals as goal

pub returns-in-Some : goal.returns-in-Some
returns-in-Some c = file_is_read (indexed_folder c.args.self.now) c.args.name.now c.in-Some.bytes.now (sym c.in-Some.ensures) c.know_bytes.ensures
