-- A line that begins with some bytes, and the line of a column.
use Rattle.std.proofs.Common.{◌≡◌, ℕ, true, false, List, ◌++◌, length, take, drop, sym, ap, ◌∙◌, inl, inr}
use Rattle.std.specs.Str.{bytes_eq}
use Rattle.std.proofs.lemmas.Bool.{cases_Bool}
use Rattle.std.proofs.lemmas.Slice.Eq.{bytes_eq-Decides}
use Rattle.std.proofs.lemmas.List.{take-append-drop}
use Rattle.std.proofs.Math.Seq.{take-append_seam, drop-append_seam}
use Rattle.std.specs.Cmp.{both_ways}

split_is : (prefix line : List ℕ) → bytes_eq (take (length prefix) line) prefix ≡ true → prefix ++ drop (length prefix) line ≡ line
split_is prefix line e =
    ap (λ front. front ++ drop (length prefix) line) (sym ((bytes_eq-Decides (take (length prefix) line) prefix).0 e)) ∙ take-append-drop (length prefix) line

-- the line begins with the prefix: then what follows it decides
pub prefix_is : (prefix after line : List ℕ) → bytes_eq (take (length prefix) line) prefix ≡ true → bytes_eq (drop (length prefix) line) after ≡ bytes_eq line (prefix ++ after)
prefix_is prefix after line e =
    both_ways _ _
    (λ h. (bytes_eq-Decides line (prefix ++ after)).1 (sym (split_is prefix line e) ∙ ap (λ rest. prefix ++ rest) ((bytes_eq-Decides (drop (length prefix) line) after).0 h)))
    (λ h. (bytes_eq-Decides (drop (length prefix) line) after).1 (ap (drop (length prefix)) ((bytes_eq-Decides line (prefix ++ after)).0 h) ∙ drop-append_seam prefix after))

-- or it doesn't
pub prefix_not : (prefix after line : List ℕ) → bytes_eq (take (length prefix) line) prefix ≡ false → false ≡ bytes_eq line (prefix ++ after)
prefix_not prefix after line e =
    elim (cases_Bool (bytes_eq line (prefix ++ after))) [
      | inl is ↦ let same = (bytes_eq-Decides line (prefix ++ after)).0 is in
          let whole : take (length prefix) line ≡ prefix = ap (take (length prefix)) same ∙ take-append_seam prefix after in
          absurd (let t = (bytes_eq-Decides (take (length prefix) line) prefix).1 whole in cc (t, e))
      | inr not ↦ sym not
    ]
