-- Steps with faults that the readers of a folder share: docs/FORMAT.md, "The first fault".
use Rattle.std.specs.Prelude.{ℕ, List, ◌++◌, Option, Some, None, Result, Ok, Err}
use Rattle.mt_fault.specs.declared.fault.Fault.{Fault}

-- nothing was found, or what was found is a fault
abbrev pub none_found : {A : Type 0} → Option A → (A → Fault) → Result Unit Fault
none_found None fault = Ok tt
none_found (Some x) fault = Err (fault x)

-- the same below a folder: files are named with the folder's name in front
abbrev pub named_below : {A : Type 0} → List ℕ → Result A Fault → Result A Fault
named_below prefix (Ok x) = Ok x
named_below prefix (Err fault) = Err (record { file = prefix ++ fault.file; granule = fault.granule; at = fault.at; why = fault.why })
