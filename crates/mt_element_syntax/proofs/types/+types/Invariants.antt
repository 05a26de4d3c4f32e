use Rattle.std.proofs.Common.{◌+◌, ◌-◌, ◌*◌}
use Rattle.mt_tokens.specs.Tokens.{plains}
use Rattle.mt_phrases.specs.Readers.{chain}
use Rattle.mt_phrases.proofs.LoopLemmas.{Goes}
use Rattle.mt_element_syntax.specs.Reading.{arg_at, type_at}
use Rattle.mt_element_syntax.proofs.types.+types.Given as goal

abbrev pub decreases-type_text : goal.decreases-type_text
decreases-type_text l = 5 * l.depth

abbrev pub decreases-arg : goal.decreases-arg
decreases-arg l = 5 * l.depth + 1

abbrev pub decreases-args : goal.decreases-args
decreases-args l = 5 * l.depth + 2

abbrev pub decreases-closed_args : goal.decreases-closed_args
decreases-closed_args l = 5 * l.depth + 3

abbrev pub decreases-nested_type : goal.decreases-nested_type
decreases-nested_type l = 5 * l.depth + 4

abbrev pub invariant-args-loop : goal.invariant-args-loop
invariant-args-loop l =
    Goes (arg_at (type_at l.fn.depth)) (l.end - l.counter) l.args (plains l.rest) (chain (arg_at (type_at l.fn.depth)) (plains l.fn.tokens))
