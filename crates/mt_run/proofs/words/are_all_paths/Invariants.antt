use Rattle.std.proofs.Common.{drop}
use Rattle.mt_run.proofs.InputLemmas.{Decide}
use Rattle.mt_run.proofs.words.are_all_paths.Given as goal

-- what is left decides
abbrev pub invariant-loop-word : goal.invariant-loop-word
invariant-loop-word l = Decide (drop l.word-index l.words) l.words
