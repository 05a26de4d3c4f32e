-- Why calls that reach outside fail. A count of faults never falls, and stands still at its last value.
use Rattle.std.specs.Prelude.{◌≡◌, ℕ, ◌+◌, ◌-◌, ◌^◌, ◌≤◌, min, max, Result, OnOk, OnErr, IsErrOf}
use Rattle.mt_shelf.specs.declared.causes.CallError.{CallError}
use Rattle.mt_shelf.specs.declared.causes.CallError.TheVariants.{Failed, NoMemory}
use Rattle.mt_shelf.specs.declared.error.ReadError.{ReadError}
use Rattle.mt_shelf.specs.declared.error.ReadError.TheVariants as read
use Rattle.mt_fault.specs.declared.error.FileError.{FileError}
use Rattle.mt_fault.specs.declared.error.FileError.TheVariants as file

-- the count has risen, or stands at its last value
abbrev pub Rose : ℕ → ℕ → Type 0
Rose before now = min (before + 1) (2 ^ 64 - 1) ≤ now

-- a count that grew by more, or stands at its last value
abbrev pub grown_count : ℕ → ℕ → ℕ
grown_count count more = max count (min (count + more) (2 ^ 64 - 1))

-- what a call whose one error is a fault does to the count
pub record FailsByFault {T E : Type 0} (before now : ℕ) (result : Result T E) : Type 0 where
  pub later : before ≤ now
  pub failed : OnErr result (Rose before now)
  pub kept : OnOk result (now ≡ before)

-- what a call does to the count that may run out of memory too
pub record HasCause {T : Type 0} (before now : ℕ) (result : Result T CallError) : Type 0 where
  pub later : before ≤ now
  pub failed : IsErrOf result Failed → Rose before now
  pub memory : IsErrOf result NoMemory → now ≡ before
  pub kept : OnOk result (now ≡ before)

-- why files in memory weren't read, as the error of a reader that asks a shelf too
abbrev pub read_error : FileError → ReadError
read_error (file.AtFault fault) = read.AtFault fault
read_error file.NoMemory = read.NoMemory
