-- The numbers of a text are bytes, as those of a slice of `u8` are.
use Rattle.std.proofs.Common.{◌≡◌, ℕ, ◌<◌, Bool, true, List, [], ◌∷◌, get_or, suc, Fits, w8, refl, ap, sym, ◌∙◌, arith}
use Rattle.std.specs.Prelude.{◌&&◌}
use Rattle.std.specs.List.{list_all}
use Rattle.std.proofs.Math.Bool.{and-true}
use Rattle.std.proofs.lemmas.Bool.{and_from, lt-ltb}
use Rattle.mt_types.specs.Bytes.{is_byte}

-- what fits 8 bits
byte : (n : ℕ) → Fits w8 n → n < 256
byte n fits = omega (arith, fits)

-- all numbers of a slice
pub all_bytes : (bytes : List ℕ) → ((i : ℕ) → Fits w8 (get_or bytes i 0)) → list_all is_byte bytes ≡ true
all_bytes [] each = refl
all_bytes (b ∷ bytes) each = and_from (is_byte b) (list_all is_byte bytes) (lt-ltb b 256 (byte b (each 0))) (all_bytes bytes (λ i. each (suc i)))

-- so a test of the text need not ask for them
pub test_of_bytes : (test : Bool) (bytes : List ℕ) → ((i : ℕ) → Fits w8 (get_or bytes i 0)) → test ≡ (test && list_all is_byte bytes)
test_of_bytes test bytes each = sym (ap (λ all. test && all) (all_bytes bytes each) ∙ and-true test)
