use Rattle.std.proofs.Common.{◌≡◌, ◌++◌}
use Rattle.std.specs.Prelude.{replicate}
use Rattle.mt_defs.specs.WrittenFrames.{mark_at}
use Rattle.mt_granules.proofs.data_file.with_end.Given as goal

abbrev pub invariant-loop : goal.invariant-loop
invariant-loop l = l.all ≡ l.initial.all ++ replicate l.counter (mark_at l.end)
