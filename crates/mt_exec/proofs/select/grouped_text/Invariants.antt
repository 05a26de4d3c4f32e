use Rattle.std.proofs.Common.{take}
use Rattle.mt_fold.specs.Gathered.{Gathers, Suits}
use Rattle.mt_exec.proofs.select.grouped_text.Given as goal

-- the rows so far are gathered
abbrev pub invariant-loop-row : goal.invariant-loop-row
invariant-loop-row l = record {
  suits : Suits l.partial l.query;
  gathers : Gathers l.partial l.query (take l.row l.rows);
}
