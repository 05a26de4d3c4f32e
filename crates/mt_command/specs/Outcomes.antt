-- Steps whose outcome a relation gives: a value, or the first refusal.
use Rattle.std.specs.Prelude.{◌≡◌, ◌⊎◌, false, Result, Ok, Err}
use Rattle.mt_fault.specs.declared.fault.Fault.{Fault}
use Rattle.mt_command.specs.Status.{is_outside_fault}
use Rattle.mt_command.specs.declared.status.Status.{Status}

-- which outcome some steps have
abbrev pub Outcomes : Type 0 → Type 1
Outcomes A = Result A Status → Type 0

-- this outcome
abbrev pub gives : {A : Type 0} → Result A Status → Outcomes A
gives reading outcome = outcome ≡ reading

-- the next steps, where the first ones have a value, or the refusal of the first ones
infixl 10 ◌>>=◌
abbrev pub ◌>>=◌ : {A B : Type 0} → Outcomes A → (A → Outcomes B) → Outcomes B
(first >>= next) outcome = ((x : _) × first (Ok x) × next x outcome) ⊎ ((status : Status) × first (Err status) × (outcome ≡ Err status))

-- what checks answer, with their first fault as a refusal
abbrev pub refused_by : {A : Type 0} → (Fault → Status) → (Result A Fault → Type 0) → Outcomes A
refused_by status_for checks (Ok x) = checks (Ok x)
refused_by status_for checks (Err status) = (fault : Fault) × checks (Err fault) × (status ≡ status_for fault)

-- a call returns an outcome of these steps, unless it ends from outside
abbrev pub ReturnsOutcome : {A : Type 0} → Result A Status → Outcomes A → Type 0
ReturnsOutcome (Ok x) steps = steps (Ok x)
ReturnsOutcome (Err status) steps = is_outside_fault status ≡ false → steps (Err status)
