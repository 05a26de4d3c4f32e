-- What the checks of a projection's folder answer.
use Rattle.std.specs.Prelude.{◌≡◌, ℕ, List, ◌++◌}
use Rattle.mt_fault.specs.declared.error.FileError.{FileError}
use Rattle.mt_fault.specs.declared.error.FileError.TheVariants.{AtFault, NoMemory}
use Rattle.mt_fault.specs.Results.{IsFault}

-- an error of a folder below a prefix: its fault names the file after the prefix
abbrev pub IsBelow : List ℕ → FileError → FileError → Type 0
IsBelow prefix (AtFault fault) error = IsFault (record { file = prefix ++ fault.file; granule = fault.granule; at = fault.at; why = fault.why }) error
IsBelow prefix NoMemory error = error ≡ NoMemory
