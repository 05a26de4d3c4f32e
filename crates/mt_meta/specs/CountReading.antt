-- count.txt, read: docs/FORMAT.md, "Metadata" and "Limits".
use Rattle.std.specs.Prelude.{◌≡◌, ℕ, ◌*◌, ◌≤◌, nat_le, ◌==◌, ◌&&◌, not, Bool, false, List, [], ◌∷◌, Result, Ok}
use Rattle.std.specs.Fmt.{decimal}
use Rattle.std.specs.Str.{all_ascii_digits}
use Rattle.std.specs.Str.Parse.{digits_value}
use Rattle.mt_table.specs.declared.limits.TheConstants.{MAX_ROWS, MAX_CELLS}
use Rattle.mt_meta.specs.declared.count.CountWhy.{CountWhy}
use Rattle.mt_meta.specs.declared.count.CountWhy.TheVariants.{Syntax, TooLong}
use Rattle.mt_types.specs.Steps.{◌>>=◌, require}

-- a decimal number from 1 on without leading zeros
abbrev pub is_count_text : List ℕ → Bool
is_count_text [] = false
is_count_text (first ∷ rest) = not (first == 48) && all_ascii_digits (first ∷ rest)

-- the rows that a text counts, or why it counts none (2.2 to 2.4)
unfoldable pub count_reading : (columns : ℕ) → List ℕ → Result ℕ CountWhy
count_reading columns text = do
  _ ← require (is_count_text text) Syntax
  _ ← require (nat_le (digits_value 10 text) MAX_ROWS) TooLong
  _ ← require (nat_le (digits_value 10 text * columns) MAX_CELLS) TooLong
  Ok (digits_value 10 text)

-- a text counts so many rows of so many columns: their number in decimal, within the limits
pub record Counts (columns rows : ℕ) (text : List ℕ) : Type 0 where
  pub some : 1 ≤ rows
  pub few_rows : rows ≤ MAX_ROWS
  pub few_cells : rows * columns ≤ MAX_CELLS
  pub decimal : text ≡ decimal rows
