-- Listings whose names rise.
use Rattle.std.specs.Prelude.{Bool, true, List, [], ◌∷◌}
use Rattle.std.specs.Ordering.{nat_cmp, is_lt}
use Rattle.std.specs.Cmp.Lexicographic.{slice_cmp}
use Rattle.mt_shelf.specs.declared.file.Entry.{Entry}

-- the entry's name is less than that of the first of the others
abbrev pub is_before_others : Entry → List Entry → Bool
is_before_others entry [] = true
is_before_others entry (first ∷ others) = is_lt (slice_cmp nat_cmp entry.name first.name)
