-- What is known of an input is bytes.
use Rattle.std.proofs.Common.{◌≡◌, ◌<◌, ℕ, true, List, [], ◌∷◌, Option, Some, IfSome, refl, subst}
use Rattle.std.specs.List.{list_all}
use Rattle.std.proofs.lemmas.Bool.{and_from, lt-ltb}
use Rattle.std.proofs.lemmas.List.Elements.{All-head, All-tail}
use Rattle.mt_types.specs.Bytes.{is_byte}
use Rattle.mt_shelf.specs.Bytes.{AreBytes}

are_tested : (bytes : List ℕ) → AreBytes bytes → list_all is_byte bytes ≡ true
are_tested [] are = refl
are_tested (byte ∷ bytes) are =
    let Small : ℕ → Type 0 = λ byte. byte < 256 in
    and_from (is_byte byte) (list_all is_byte bytes) (lt-ltb byte 256 (All-head Small byte bytes are)) (are_tested bytes (All-tail Small byte bytes are))

pub known_bytes : (known : Option (List ℕ)) (input : List ℕ) → known ≡ Some input → IfSome known AreBytes → list_all is_byte input ≡ true
known_bytes known input is are = are_tested input (subst (λ o. IfSome o AreBytes) is are)
