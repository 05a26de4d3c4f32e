-- What the readers of files give.
use Rattle.std.specs.Prelude.{◌≡◌, Result, Ok, Err}
use Rattle.mt_fault.specs.declared.fault.Fault.{Fault}
use Rattle.mt_fault.specs.declared.error.FileError.{FileError}
use Rattle.mt_fault.specs.declared.error.FileError.TheVariants.{AtFault, NoMemory}
use Rattle.mt_fault.specs.Faults.{Judged}

-- the error is this fault, out of memory aside
abbrev pub IsFault : Fault → FileError → Type 0
IsFault fault (AtFault found) = found ≡ fault
IsFault fault NoMemory = Unit {0}

-- a fault is the reading's, out of memory aside
abbrev pub FailsAs : {A : Type 0} → FileError → Judged A → Type 0
FailsAs (AtFault fault) reading = reading ≡ Err fault
FailsAs NoMemory reading = Unit {0}

-- what is returned shows what the files are read as
abbrev pub Shows : {A B : Type 0} → (A → B) → Result A FileError → Judged B → Type 0
Shows view (Ok found) reading = reading ≡ Ok (view found)
Shows view (Err e) reading = FailsAs e reading

-- what is returned is what the files are read as
abbrev pub Gives : {A : Type 0} → Result A FileError → Judged A → Type 0
Gives = Shows (λ found. found)
