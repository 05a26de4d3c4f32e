use Rattle.mt_shelf.proofs.writing.put_file.Goals as goal

pub unreachable-requires : goal.unreachable-requires
unreachable-requires g c = c.in-Err.ensures.cases.0 (rw c.as_slice.ensures c.requires.utf8)
