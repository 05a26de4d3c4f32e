-- The order of rows by the columns of a key, each row beside the ranks of its first two.
use Rattle.std.specs.Prelude.{◌≡◌, ℕ, ◌+◌, ◌<◌, false, List, [], ◌∷◌, map, slice_index_or, if◌then◌else◌}
use Rattle.std.specs.Borrow.{Bor}
use Rattle.std.specs.Ordering.{is_gt, ordering_then, nat_cmp}
use Rattle.std.specs.declared.cmp.Ordering.{Ordering}
use Rattle.mt_types.specs.declared.value.Value.{Value}
use Rattle.mt_types.specs.declared.value.Value.TheVariants.{Null}
use Rattle.mt_types.specs.Order.{values_cmp}
use Rattle.mt_columns.specs.Nesting.{Columned}
use Rattle.mt_blocks.specs.declared.rank.Scale.{Scale}
use Rattle.mt_blocks.specs.declared.rank.Scale.TheVariants.{Texts}
use Rattle.mt_blocks.specs.declared.sort.Place.{Place}
use Rattle.mt_blocks.specs.declared.sort.Scales.{Scales}
use Rattle.mt_blocks.specs.Ranks.{is_decided, rank_in, scale_of}

-- the key of a row: its values in some columns
abbrev pub key_at : List (Bor Columned) → ℕ → List Value
key_at columns index = map (λ column. slice_index_or column.now.values index Null) columns

-- rows compare by their keys, from left to right
abbrev pub index_cmp : List (Bor Columned) → ℕ → ℕ → Ordering
index_cmp columns a b = values_cmp (key_at columns a) (key_at columns b)

-- no row is above the next
abbrev pub NeverFalls : (ℕ → ℕ → Ordering) → (count : ℕ) → Type 0
NeverFalls R count = (index : ℕ) → index + 1 < count → is_gt (R index (index + 1)) ≡ false

-- the rank of a row's value in the first column
abbrev pub first_rank : List (Bor Columned) → ℕ → ℕ
first_rank [] index = 0
first_rank (column ∷ columns) index = rank_in column.now index

-- the rank of a row's value in the next column, where the rank before leaves one value
abbrev pub rank_after : Scale → (rank : ℕ) → List (Bor Columned) → ℕ → ℕ
rank_after scale rank others index = if is_decided scale rank then first_rank others index else 0

-- the rank of a row's value in the second column, or 0 where the first is not decided
abbrev pub second_rank : List (Bor Columned) → (rank : ℕ) → ℕ → ℕ
second_rank [] rank index = 0
second_rank (column ∷ columns) rank index = rank_after (scale_of column.now) rank columns index

-- a row's index beside its ranks
abbrev pub place_at : List (Bor Columned) → ℕ → Place
place_at columns index = record { rank = first_rank columns index; second = second_rank columns (first_rank columns index) index; index = index }

-- the scale of the first column
abbrev pub first_scale : List (Bor Columned) → Scale
first_scale [] = Texts
first_scale (column ∷ columns) = scale_of column.now

-- the scales of the first two columns
abbrev pub scales_of : List (Bor Columned) → Scales
scales_of [] = record { first = Texts; second = Texts }
scales_of (column ∷ columns) = record { first = scale_of column.now; second = first_scale columns }

-- the columns without the first, where this rank leaves one value of it
abbrev pub untold_behind : List (Bor Columned) → Scale → (rank : ℕ) → List (Bor Columned)
untold_behind [] scale rank = []
untold_behind (column ∷ columns) scale rank = if is_decided scale rank then columns else column ∷ columns

-- the columns without those, of the first two, of which these ranks leave one value
abbrev pub untold : List (Bor Columned) → Scales → (rank second : ℕ) → List (Bor Columned)
untold [] scales rank second = []
untold (column ∷ columns) scales rank second = if is_decided scales.first rank then untold_behind columns scales.second second else column ∷ columns

-- what the ranks of a place don't tell of its row's key
abbrev pub untold_key : List (Bor Columned) → Scales → Place → List Value
untold_key columns scales p = key_at (untold columns scales p.rank p.second) p.index

-- by the second rank, and where it ties by what the ranks don't tell
abbrev pub tied_cmp : List (Bor Columned) → Scales → Place → Place → Ordering
tied_cmp columns scales a b = ordering_then (nat_cmp a.second b.second) (values_cmp (untold_key columns scales a) (untold_key columns scales b))

-- by rank, by the second, and where both tie by what they don't tell
abbrev pub place_cmp : List (Bor Columned) → Scales → Place → Place → Ordering
place_cmp columns scales a b = ordering_then (nat_cmp a.rank b.rank) (tied_cmp columns scales a b)
