-- The numbers of literals: docs/LANGUAGE.md, "Queries".
use Rattle.std.specs.Prelude.{ℕ, ◌^◌, ℤ, pos, neg_ℤ, List, Option, Some, None, nat_le, option_and_then, if◌then◌else◌}
use Rattle.mt_tokens.specs.Numbers.{wide_number_of}

-- the number behind a minus, if 128 bits signed have it
abbrev pub negated : (magnitude : ℕ) → Option ℤ
negated magnitude = if nat_le magnitude (2 ^ 127) then Some (neg_ℤ (pos magnitude)) else None

-- the number of a minus and digits, if 128 bits signed have it
abbrev pub negative_of : List ℕ → Option ℤ
negative_of digits = option_and_then negated (wide_number_of digits)
