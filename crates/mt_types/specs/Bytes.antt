-- What a text is made of.
use Rattle.std.specs.Prelude.{ℕ, Bool, nat_lt}

-- a number that is a byte
abbrev pub is_byte : ℕ → Bool
is_byte n = nat_lt n 256
