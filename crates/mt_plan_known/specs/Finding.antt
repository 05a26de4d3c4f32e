-- What a reader gives where its definition is a relation.
use Rattle.std.specs.Prelude.{Result, Ok, Err}
use Rattle.mt_fault.specs.declared.error.FileError.{FileError}
use Rattle.mt_fault.specs.declared.error.FileError.TheVariants.{AtFault, NoMemory}

-- what is found is what is so, and a fault says that nothing is so, out of memory aside
abbrev pub Finds : {A : Type 0} → (A → Type 0) → Result A FileError → Type 0
Finds Is (Ok found) = Is found
Finds {A} Is (Err (AtFault fault)) = (found : A) → Is found → ⊥
Finds Is (Err NoMemory) = Unit {0}
