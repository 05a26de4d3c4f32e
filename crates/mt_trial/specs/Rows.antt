-- The rows of a trial, by its number: docs/CLI.md, "trial".
use Rattle.std.specs.Prelude.{ℕ, ◌+◌, ◌*◌, ◌/◌, ◌%◌, ◌^◌, ◌==◌, pos, List, [], ◌∷◌, ◌++◌, map, filter, codes}
use Rattle.std.specs.Fmt.{decimal}
use Rattle.std.specs.List.{range_with_len}
use Rattle.mt_types.specs.declared.value.Value.TheVariants.{Num, Text}
use Rattle.mt_defs.specs.Rows.{Row}
use Rattle.mt_trial.specs.declared.rows.TheConstants.{FIRST_DAY, STEP}

-- the number of row i, from 0
abbrev pub x_at : (number i : ℕ) → ℕ
x_at number i = (number + STEP * i) % 2 ^ 32

-- `s` and a number
abbrev pub text_of_number : ℕ → List ℕ
text_of_number k = codes "s" ++ decimal k

-- the row of a number: one of the 31 days of a month, k below 100, v below 1000, and the text of k
abbrev pub row_of_number : ℕ → Row
row_of_number x = Num (pos (FIRST_DAY + x % 31)) ∷ Num (pos (x % 100)) ∷ Num (pos (x / 100 % 1000)) ∷ Text (text_of_number (x % 100)) ∷ []

-- row i of a trial
abbrev pub trial_row : (number i : ℕ) → Row
trial_row number i = row_of_number (x_at number i)

-- the places, from 0, of so many rows that leave a remainder by 2: the even ones, or the odd ones
abbrev pub half_places : (rows remainder : ℕ) → List ℕ
half_places rows remainder = filter (λ i. i % 2 == remainder) (range_with_len 0 rows)

-- the rows of a trial at even places, or at odd ones
abbrev pub half_rows : (number rows remainder : ℕ) → List Row
half_rows number rows remainder = map (trial_row number) (half_places rows remainder)
