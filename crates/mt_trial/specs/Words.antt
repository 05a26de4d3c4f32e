-- The words NUMBER and ROWS of `trial`: docs/CLI.md.
use Rattle.std.specs.Prelude.{ℕ, ◌+◌, ◌-◌, ◌*◌, ◌^◌, nat_le, nat_lt, ◌==◌, Bool, ◌&&◌, List, [], ◌∷◌, Option, None, Some, option_and_then, if◌then◌else◌}
use Rattle.mt_trial.specs.declared.rows.TheConstants.{MAX_TRIAL_ROWS}

-- a digit in ASCII, with which the number stays below 2 ^ 64
abbrev pub is_next_number_digit : (value byte : ℕ) → Bool
is_next_number_digit value byte = nat_le 48 byte && nat_le byte 57 && nat_lt (value * 10 + (byte - 48)) (2 ^ 64)

-- a number with one digit more
abbrev pub with_number_digit : (value byte : ℕ) → Option ℕ
with_number_digit value byte = if is_next_number_digit value byte then Some (value * 10 + (byte - 48)) else None

-- a number with these digits more
abbrev pub digits_after : (value : ℕ) → List ℕ → Option ℕ
digits_after value [] = Some value
digits_after value (byte ∷ word) = option_and_then (λ next. digits_after next word) (with_number_digit value byte)

-- a number below 2 ^ 64 in decimal, without sign and leading zeros
abbrev pub number_in_word : List ℕ → Option ℕ
number_in_word [] = None
number_in_word (byte ∷ []) = digits_after 0 (byte ∷ [])
number_in_word (byte ∷ next ∷ word) = if byte == 48 then None else digits_after 0 (byte ∷ next ∷ word)

-- from 2 to 1,048,576
abbrev pub is_row_count : ℕ → Bool
is_row_count rows = nat_le 2 rows && nat_le rows MAX_TRIAL_ROWS

-- such a number
abbrev pub rows_if : Option ℕ → Option ℕ
rows_if None = None
rows_if (Some rows) = if is_row_count rows then Some rows else None

-- a number of rows in decimal
abbrev pub row_count_in : List ℕ → Option ℕ
row_count_in word = rows_if (number_in_word word)
