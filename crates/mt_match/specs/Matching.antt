-- Whether an entry of a skip index lets a condition be true: docs/LANGUAGE.md, "Masks and covers" (ClickHouse: IMergeTreeIndexCondition).
use Rattle.std.specs.Prelude.{◌≡◌, ℕ, Bool, true, ◌||◌, ◌==◌, List, length, Option, Some, IfSome}
use Rattle.std.specs.List.{list_any}
use Rattle.mt_types.specs.declared.ty.Ty.{Ty}
use Rattle.mt_types.specs.declared.value.Value.{Value}
use Rattle.mt_table.specs.declared.skip.SkipKind.{SkipKind}
use Rattle.mt_table.specs.declared.skip.SkipKind.TheVariants.{Minmax, Set}
use Rattle.mt_defs.specs.SkipIndexes.{IsEntry}
use Rattle.mt_query.specs.declared.cond.Cond.{Cond}
use Rattle.mt_cond.specs.Intervals.{between_sides}
use Rattle.mt_cond.specs.Masks.{mask_of}

-- the condition may be true where the column's value is between two
abbrev pub may_between : Cond → (column : ℕ) → (low high : Value) → Bool
may_between cond column low high = (mask_of cond (between_sides column low high)).may_true

-- it may be true where the column's value is one of these; none of them may stand for any
abbrev pub may_among : Cond → (column : ℕ) → List Value → Bool
may_among cond column values = list_any (λ value. may_between cond column value value) values || (length values == 0)

-- it may be true where the column's values are those of which the entry is
abbrev pub entry_may : Cond → (column : ℕ) → (kind : SkipKind) → (ty : Ty) → (bytes : List ℕ) → IsEntry kind ty bytes → Bool
entry_may cond column Minmax ty bytes entry = may_between cond column entry.low entry.high
entry_may cond column (Set max_rows) ty bytes entry = may_among cond column entry.values

-- whether it may be true, of the entry that the bytes are; or nothing, where they are none
pub record JudgesEntry (cond : Cond) (column : ℕ) (kind : SkipKind) (ty : Ty) (bytes : List ℕ) (may : Option Bool) : Type 0 where
  pub found : IfSome may (λ b. (entry : IsEntry kind ty bytes) × (b ≡ entry_may cond column kind ty bytes entry))
  pub only : (entry : IsEntry kind ty bytes) → may ≡ Some (entry_may cond column kind ty bytes entry)
