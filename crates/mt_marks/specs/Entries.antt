-- The entries of marks that stand one after another in a list: docs/FORMAT.md, "Marks".
use Rattle.std.specs.Prelude.{◌≡◌, ℕ, zero, suc, ◌*◌, ◌^◌, ◌≤◌, ◌<◌, All, List, [], ◌∷◌, length, take, drop}
use Rattle.mt_defs.specs.declared.mark.Mark.{Mark}
use Rattle.mt_marks.specs.declared.marks.TheConstants.{MAX_PER_GRANULE}
use Rattle.mt_marks.specs.declared.marks.Marks.{Marks}

-- an entry: the marks of a granule, and its rows
pub record Entry : Type 0 where
  pub marks : List Mark
  pub rows : ℕ

-- runs of so many marks, for so many entries
abbrev pub mark_runs : ℕ → ℕ → List Mark → List (List Mark)
mark_runs per_granule zero places = []
mark_runs per_granule (suc entries) places = take per_granule places ∷ mark_runs per_granule entries (drop per_granule places)

-- the marks of each entry
abbrev pub entry_marks : Marks → List (List Mark)
entry_marks marks = mark_runs marks.per_granule (length marks.rows) marks.places

-- each entry has its marks, from 1 to 256
pub record AreMarks (marks : Marks) : Type 0 where
  pub some : 1 ≤ marks.per_granule
  pub few : marks.per_granule ≤ MAX_PER_GRANULE
  pub complete : length marks.places ≡ length marks.rows * marks.per_granule

-- the entries of marks and of rows in lists
abbrev pub entries_in : ℕ → List Mark → List ℕ → List Entry
entries_in per_granule places [] = []
entries_in per_granule places (rows ∷ more) = record { marks = take per_granule places; rows = rows } ∷ entries_in per_granule (drop per_granule places) more

-- the entries of a marks file
abbrev pub entries_of : Marks → List Entry
entries_of marks = entries_in marks.per_granule marks.places marks.rows

-- the numbers fit their eight bytes
pub record HaveWords (marks : Marks) : Type 0 where
  pub offsets : All (λ mark. mark.offset < 2 ^ 64) marks.places
  pub inners : All (λ mark. mark.inner < 2 ^ 64) marks.places
  pub rows : All (λ count. count < 2 ^ 64) marks.rows
