-- Numbers: docs/LANGUAGE.md, "Tokens".
use Rattle.std.specs.Prelude.{ℕ, ◌^◌, List, length, Option, Some, None, nat_lt, ◌&&◌, if◌then◌else◌}
use Rattle.std.specs.Str.{all_ascii_digits}
use Rattle.std.specs.Str.Parse.{digits_value}

-- the number of one or more digits, if it is below a limit
abbrev pub number_below : (limit : ℕ) → List ℕ → Option ℕ
number_below limit digits =
    let number = digits_value 10 digits in
    if nat_lt 0 (length digits) && all_ascii_digits digits && nat_lt number limit
    then Some number else None

-- the number of one or more digits, if it is below 2^64
unfoldable pub number_of : List ℕ → Option ℕ
number_of digits = number_below (2 ^ 64) digits

-- the number of one or more digits, if it is below 2^128
unfoldable pub wide_number_of : List ℕ → Option ℕ
wide_number_of digits = number_below (2 ^ 128) digits
