-- What a run returns, the exit codes, and the errors of the layers below as statuses.
use Rattle.std.specs.Prelude.{◌≡◌, ◌⊎◌, ℕ, Bool, true, false, Option, None, Some, Result, Ok, Err}
use Rattle.mt_shelf.specs.declared.causes.CallError.{CallError}
use Rattle.mt_shelf.specs.declared.causes.CallError.TheVariants as call
use Rattle.mt_tsv.specs.declared.fault.RowError.{RowError}
use Rattle.mt_tsv.specs.declared.fault.RowError.TheVariants as row
use Rattle.mt_table.specs.declared.limits.TheConstants.{MAX_ROWS, MAX_CELLS}
use Rattle.mt_command.specs.declared.status.What.TheVariants as what
use Rattle.mt_command.specs.declared.status.Status.{Status}
use Rattle.mt_command.specs.declared.status.Status.TheVariants.{Done, AtFault, BadRows, TooMuch, SourceFault, ShelfFault, SinkFault, NoMemory}

-- the code that the program ends with
abbrev pub code_of : Status → ℕ
code_of Done = 0
code_of (AtFault part fault) = 1
code_of SourceFault = 3
code_of ShelfFault = 3
code_of SinkFault = 3
code_of NoMemory = 4
code_of status = 2

-- a fault of an object, or out of memory: no refusal of the words, the files or the input
abbrev pub is_outside_fault : Status → Bool
is_outside_fault SourceFault = true
is_outside_fault ShelfFault = true
is_outside_fault SinkFault = true
is_outside_fault NoMemory = true
is_outside_fault status = false

-- a value, or the first refusal; a step follows only where all before it have a value
infixl 10 ◌>>=◌
abbrev pub ◌>>=◌ : {A B : Type 0} → Result A Status → (A → Result B Status) → Result B Status
(Ok x) >>= f = f x
(Err status) >>= f = Err status

-- a reader's value, or its error as a refusal
abbrev pub refused_by : {A E : Type 0} → (E → Status) → Result A E → Result A Status
refused_by status_for (Ok x) = Ok x
refused_by status_for (Err error) = Err (status_for error)

-- a call returns this value or this refusal, unless it ends from outside
abbrev pub GivesOutcome : {A : Type 0} → Result A Status → Result A Status → Type 0
GivesOutcome (Ok x) wanted = wanted ≡ Ok x
GivesOutcome (Err status) wanted = is_outside_fault status ≡ false → wanted ≡ Err status

-- the refusal of steps, if they refuse
abbrev pub refusal : {A : Type 0} → Result A Status → Option Status
refusal (Ok x) = None
refusal (Err status) = Some status

-- this refusal, or out of memory for the name in it
abbrev pub IsNamed : Status → Status → Type 0
IsNamed wanted status = (status ≡ wanted) ⊎ (status ≡ NoMemory)

-- a shelf's error
abbrev pub status_of_shelf : CallError → Status
status_of_shelf call.Failed = ShelfFault
status_of_shelf call.NoMemory = NoMemory

-- a source's error
abbrev pub status_of_source : CallError → Status
status_of_source call.Failed = SourceFault
status_of_source call.NoMemory = NoMemory

-- an output's error
abbrev pub status_of_sink : CallError → Status
status_of_sink call.Failed = SinkFault
status_of_sink call.NoMemory = NoMemory

-- why lines are no rows
abbrev pub status_of_rows : RowError → Status
status_of_rows (row.At line why) = BadRows line why
status_of_rows row.Rows = TooMuch what.Rows MAX_ROWS
status_of_rows row.Cells = TooMuch what.Cells MAX_CELLS
status_of_rows row.NoMemory = NoMemory
