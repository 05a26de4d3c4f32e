use Rattle.std.proofs.Common.{◌≡◌, ℕ, List, ◌++◌, append_assoc}
use Rattle.mt_frame.proofs.writing.append_frame.Goals as goal

-- five appends are one
five_appends : (out a b c d e : List ℕ) (c' d' x y z w all : List ℕ) → c' ≡ c → d' ≡ d
    → x ≡ out ++ a → y ≡ x ++ b → z ≡ y ++ c' → w ≡ z ++ d' → all ≡ w ++ e
    → all ≡ out ++ (a ++ (b ++ (c ++ (d ++ e))))
five_appends out a b c d e c' d' x y z w all f g p q r s t = rw (t, s, r, q, p, f, g) (simp append_assoc)

pub returns-clause-ok : goal.returns-clause-ok
returns-clause-ok c =
    five_appends _ _ _ _ _ _ _ _ _ _ _ _ _ c.to_le_bytes.ensures c.to_le_bytes-2.ensures
    c.in_ok-extend_from_slice.ensures.items c.in_ok-extend_from_slice-2.ensures.items
    c.in_ok-extend_from_slice-3.ensures.items c.in_ok-extend_from_slice-4.ensures.items c.in_ok-extend_from_slice-5.ensures.items
