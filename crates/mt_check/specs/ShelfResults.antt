-- What the check of a part on a shelf returns.
use Rattle.std.specs.Prelude.{◌≡◌, Result, Ok, Err}
use Rattle.mt_fault.specs.declared.fault.Fault.{Fault}
use Rattle.mt_shelf.specs.declared.error.ReadError.{ReadError}
use Rattle.mt_shelf.specs.declared.error.ReadError.TheVariants.{AtFault, Shelf, NoMemory}

-- what was returned is what was read, unless the shelf failed or memory ran out
abbrev pub GivesFrom : {A : Type 0} → Result A ReadError → Result A Fault → Type 0
GivesFrom (Ok x) reading = reading ≡ Ok x
GivesFrom (Err (AtFault fault)) reading = reading ≡ Err fault
GivesFrom (Err Shelf) reading = Unit {0}
GivesFrom (Err NoMemory) reading = Unit {0}
