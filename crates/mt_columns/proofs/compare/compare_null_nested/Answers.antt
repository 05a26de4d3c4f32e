use Rattle.std.proofs.Common.{sym}
use Rattle.mt_columns.proofs.CompareLemmas.{null_to_array}
use Rattle.mt_columns.proofs.compare.compare_null_nested.Goals as goal

pub returns-in-Some : goal.returns-in-Some
returns-in-Some c = sym (null_to_array c.args.levels.now c.in-Some.field-0-0.now c.in-Some.field-0-1.now c.args.leaf.now.values c.in-Some.ensures.cases.0 c.requires.nested c.args.index c.requires.there)
