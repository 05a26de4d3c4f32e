-- The names of a column's files, from a level of arrays on: docs/FORMAT.md, "Substreams".
use Rattle.std.specs.Prelude.{ℕ, List, ◌++◌, map}
use Rattle.mt_types.specs.declared.ty.Ty.{Ty}
use Rattle.mt_types.specs.declared.ty.Ty.TheFolds.{fold-Ty}
use Rattle.mt_defs.specs.FileNames.{suffix_step}

-- the suffixes of a type inside so many arrays
abbrev pub suffixes_from : Ty → ℕ → List (List ℕ)
suffixes_from = fold-Ty (ℕ → List (List ℕ)) suffix_step

-- a beginning with each of these suffixes
abbrev pub names_with : List ℕ → List (List ℕ) → List (List ℕ)
names_with beginning suffixes = map (λ suffix. beginning ++ suffix) suffixes
