use Rattle.std.proofs.Common.{sym, ◌∙◌}
use Rattle.mt_run.proofs.InputLemmas.{paths_of}
use Rattle.mt_run.proofs.words.are_inputs.Goals as goal

pub returns-then-inputs-le-MAX_INPUTS-clause-paths : goal.returns-then-inputs-le-MAX_INPUTS-clause-paths
returns-then-inputs-le-MAX_INPUTS-clause-paths c = λ yes_all. paths_of c.args.inputs.now (sym c.are_all_paths.ensures ∙ yes_all)
