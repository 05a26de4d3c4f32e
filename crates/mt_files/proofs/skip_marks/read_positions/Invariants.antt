use Rattle.std.proofs.Common.{◌≡◌, ◌++◌, ◌*◌, drop}
use Rattle.std.specs.Prelude.{None, Ok}
use Rattle.mt_types.specs.Steps.{◌>>=◌}
use Rattle.mt_files.specs.SkipMarks.{positions_reading}
use Rattle.mt_files.proofs.skip_marks.read_positions.Given as goal

-- what is left decides
abbrev pub invariant-loop-index : goal.invariant-loop-index
invariant-loop-index l =
    (positions_reading l.file l.per_entry l.frames.end l.frames.list (l.index * l.per_entry) l.former (drop l.index l.marks) >>= λ later. Ok (l.positions ++ later))
    ≡ positions_reading l.file l.per_entry l.frames.end l.frames.list 0 None l.marks
