-- Lists that begin others.
use Rattle.std.proofs.Common.{◌≡◌, ℕ, ◌+◌, ◌<◌, ◌≤◌, arith, true, false, List, [], ◌∷◌, length, refl, ap, sym, ◌∙◌, get_or, drop}
use Rattle.std.specs.Prelude.{◌&&◌}
use Rattle.std.specs.Str.{bytes_eq}
use Rattle.std.proofs.lemmas.List.{drop_all, drop_more}
use Rattle.mt_facts.proofs.Truth.{and_false}
use Rattle.mt_table.specs.Names.{begins}

-- a longer list begins no shorter one
pub too_long : (first names : List (List ℕ)) → length names < length first → false ≡ begins first names
too_long [] names h = absurd (omega (arith, h))
too_long (x ∷ xs) [] h = refl
too_long (x ∷ xs) (y ∷ ys) h = sym (ap (λ r. bytes_eq x y && r) (sym (too_long xs ys (omega (arith, h)))) ∙ and_false (bytes_eq x y))

-- the tests at the next names
pub at_place : (first names : List (List ℕ)) (i : ℕ) (d e : List ℕ) → i < length first → length first ≤ length names
    → begins (drop i first) (drop i names) ≡ (bytes_eq (get_or first i d) (get_or names i e) && begins (drop (i + 1) first) (drop (i + 1) names))
at_place first names i d e h fits =
    ap (λ xs. begins xs (drop i names)) (drop_more first i d h)
    ∙ ap (begins (get_or first i d ∷ drop (i + 1) first)) (drop_more names i e (omega (arith, h, fits)))

pub other_name : (first names : List (List ℕ)) (i : ℕ) (x y d e : List ℕ) → i < length first → length first ≤ length names → x ≡ get_or first i d → y ≡ get_or names i e
    → bytes_eq x y ≡ false → begins (drop i first) (drop i names) ≡ begins first names → false ≡ begins first names
other_name first names i x y d e h fits is is' differ so_far =
    sym (at_place first names i d e h fits ∙ ap (λ b. b && begins (drop (i + 1) first) (drop (i + 1) names)) (sym (ap (λ n. bytes_eq n y) is ∙ ap (bytes_eq (get_or first i d)) is') ∙ differ)) ∙ so_far

pub same_name : (first names : List (List ℕ)) (i : ℕ) (x y d e : List ℕ) → i < length first → length first ≤ length names → x ≡ get_or first i d → y ≡ get_or names i e
    → bytes_eq x y ≡ true → begins (drop i first) (drop i names) ≡ begins first names → begins (drop (i + 1) first) (drop (i + 1) names) ≡ begins first names
same_name first names i x y d e h fits is is' same so_far =
    sym (at_place first names i d e h fits ∙ ap (λ b. b && begins (drop (i + 1) first) (drop (i + 1) names)) (sym (ap (λ n. bytes_eq n y) is ∙ ap (bytes_eq (get_or first i d)) is') ∙ same)) ∙ so_far

pub no_more : (first names : List (List ℕ)) (i : ℕ) → length first ≤ i → begins (drop i first) (drop i names) ≡ begins first names → true ≡ begins first names
no_more first names i h so_far = sym (ap (λ xs. begins xs (drop i names)) (drop_all i first h)) ∙ so_far
