-- What is known of a shelf's faults after a call that reads.
use Rattle.std.specs.Prelude.{◌≡◌, ℕ, Result, Ok, Err}
use Rattle.mt_shelf.specs.Causes.{Rose}
use Rattle.mt_shelf.specs.declared.error.ReadError.{ReadError}
use Rattle.mt_shelf.specs.declared.error.ReadError.TheVariants.{AtFault, Shelf, NoMemory}

-- the count of faults rose where the shelf failed, and else stayed
abbrev pub ReadFails : {A : Type 0} → ℕ → ℕ → Result A ReadError → Type 0
ReadFails before now (Ok x) = now ≡ before
ReadFails before now (Err (AtFault fault)) = now ≡ before
ReadFails before now (Err Shelf) = Rose before now
ReadFails before now (Err NoMemory) = now ≡ before
