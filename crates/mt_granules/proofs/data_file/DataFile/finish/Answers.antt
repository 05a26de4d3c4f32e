use Rattle.mt_granules.proofs.DataFileLemmas.{complete_marks, finished}
use Rattle.mt_granules.proofs.data_file.DataFile.finish.Goals as goal

pub write_marks-requires : goal.write_marks-requires
write_marks-requires c =
    complete_marks c.args.per_granule c.args.granules.now _ c.args.self.marks _ _ c.requires.some c.requires.few c.requires.complete c.in_ok-places.ensures c.in_ok-with_last.ensures

pub returns : goal.returns
returns c = λ runs are is.
    finished c.args.per_granule runs c.args.granules.now _ _ _ c.args.self _ _ are is c.bytes.view_is c.len.ensures c.in_ok-places.ensures c.in_ok-with_last.ensures c.in_ok-write_marks.ensures
