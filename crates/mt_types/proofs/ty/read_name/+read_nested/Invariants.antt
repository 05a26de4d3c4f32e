use Rattle.mt_types.proofs.ty.read_name.+read_nested.Given as goal

abbrev pub decreases-read_nested : goal.decreases-read_nested
decreases-read_nested l = l.arrays
