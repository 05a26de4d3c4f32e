-- What the readers of marks give.
use Rattle.std.specs.Prelude.{◌≡◌, ℕ, Option, Some, None, Result, Ok, Err}
use Rattle.mt_fault.specs.declared.fault.Why.{Why}
use Rattle.mt_marks.specs.declared.marks.Marks.{Marks}
use Rattle.mt_marks.specs.declared.fault.MarksError.{MarksError}
use Rattle.mt_marks.specs.declared.fault.MarksError.TheVariants.{At, NoMemory}

-- a fault is the reading's, out of memory aside
abbrev pub MarksFailAs : MarksError → Result Marks (Option ℕ × Why) → Type 0
MarksFailAs (At granule why) reading = reading ≡ Err (granule, why)
MarksFailAs NoMemory reading = Unit {0}

-- the marks are those that the file is read as
abbrev pub GivesMarks : Result Marks MarksError → Result Marks (Option ℕ × Why) → Type 0
GivesMarks (Ok marks) reading = reading ≡ Ok marks
GivesMarks (Err e) reading = MarksFailAs e reading

-- the rules hold, or the fault is the first broken one; it takes no memory
abbrev pub GivesRules : Result (Unit {0}) MarksError → Result (Unit {0}) (ℕ × Why) → Type 0
GivesRules (Ok done) reading = reading ≡ Ok tt
GivesRules (Err (At None why)) reading = ⊥
GivesRules (Err (At (Some granule) why)) reading = reading ≡ Err (granule, why)
GivesRules (Err NoMemory) reading = ⊥
