-- Places from 0 on.
use Rattle.std.proofs.Common.{◌≡◌, ℕ, zero, suc, ◌+◌, arith, List, [], ◌∷◌, ◌++◌, ap, sym, ◌∙◌}
use Rattle.std.specs.List.{range_with_len}

more_is_suc : (n : ℕ) → n + 1 ≡ suc n
more_is_suc n = omega arith

pub from_more : (a n : ℕ) → range_with_len a (n + 1) ≡ range_with_len a n ++ (a + n) ∷ []
from_more a zero = let same : a ≡ a + 0 = omega arith in ap (λ x. x ∷ []) same
from_more a (suc n) =
    let same : a + 1 + n ≡ a + suc n = omega arith in
    ap (range_with_len a) (more_is_suc (suc n)) ∙ ap (λ m. a ∷ range_with_len (a + 1) m) (sym (more_is_suc n))
    ∙ ap (λ xs. a ∷ xs) (from_more (a + 1) n) ∙ ap (λ x. a ∷ (range_with_len (a + 1) n ++ x ∷ [])) same

-- one place more
pub range_more : (n : ℕ) (old new : List ℕ) → new ≡ old ++ n ∷ [] → old ≡ range_with_len 0 n → new ≡ range_with_len 0 (n + 1)
range_more n old new more so_far =
    let same : n ≡ 0 + n = omega arith in
    more ∙ ap (λ xs. xs ++ n ∷ []) so_far ∙ ap (λ x. range_with_len 0 n ++ x ∷ []) same ∙ sym (from_more 0 n)
