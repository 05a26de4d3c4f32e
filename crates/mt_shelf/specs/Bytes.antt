-- Lists of numbers that are bytes.
use Rattle.std.specs.Prelude.{◌≡◌, ◌<◌, ℕ, List, All, Some}
use Rattle.std.specs.FinMap.{get}
use Rattle.mt_shelf.specs.Files.{Files}
use Rattle.mt_fault.specs.declared.file.FileBytes.{FileBytes}

-- each number is a byte
abbrev pub AreBytes : List ℕ → Type 0
AreBytes = All (λ byte. byte < 256)

-- each file is a list of bytes
abbrev pub HasBytes : Files → Type 0
HasBytes files = (path bytes : List ℕ) → get files path ≡ Some bytes → AreBytes bytes

-- the same of files in a list
abbrev pub AllHoldBytes : List FileBytes → Type 0
AllHoldBytes = All (λ file. AreBytes file.bytes)
