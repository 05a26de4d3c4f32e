use Rattle.std.proofs.Common.{◌-◌}
use Rattle.mt_tokens.specs.Tokens.{plains}
use Rattle.mt_syntax.specs.Reading.{parens_and_clauses_at}
use Rattle.mt_syntax.proofs.ClauseLoop.{GoesClauses}
use Rattle.mt_syntax.proofs.clauses.read_clauses.Given as goal

abbrev pub invariant-loop : goal.invariant-loop
invariant-loop l =
    GoesClauses (l.end - l.counter) l.clauses (plains l.rest) (parens_and_clauses_at (plains l.fn.tokens))
