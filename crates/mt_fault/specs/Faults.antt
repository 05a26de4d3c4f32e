-- Faults of a part's files: which file, where in it, and why: docs/FORMAT.md, "The first fault".
use Rattle.std.specs.Prelude.{ℕ, Option, Some, None, List, Result, Ok, Err}
use Rattle.mt_fault.specs.declared.fault.Why.{Why}
use Rattle.mt_fault.specs.declared.fault.Fault.{Fault}

-- what is read of a folder's files, or their first fault
abbrev pub Judged : Type 0 → Type 0
Judged A = Result A Fault

-- of a whole file
abbrev pub file_fault : List ℕ → Why → Fault
file_fault file reason = record { file = file; granule = None; at = None; why = reason }

-- in a granule
abbrev pub granule_fault : List ℕ → ℕ → Why → Fault
granule_fault file granule reason = record { file = file; granule = Some granule; at = None; why = reason }

-- at an offset of its frames
abbrev pub offset_fault : List ℕ → ℕ → Why → Fault
offset_fault file offset reason = record { file = file; granule = None; at = Some offset; why = reason }

-- what is wrong, as a fault
abbrev pub blame : {A E : Type 0} → (E → Fault) → Result A E → Judged A
blame fault (Ok x) = Ok x
blame fault (Err e) = Err (fault e)
