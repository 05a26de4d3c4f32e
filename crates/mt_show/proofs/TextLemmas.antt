-- Lines, one after another.
use Rattle.std.proofs.Common.{◌≡◌, ℕ, ◌+◌, List, ◌∷◌, ◌++◌, drop, get_or, length, sym, ap, ◌∙◌, ◌<◌, arith}
use Rattle.std.specs.Prelude.{OnOk, Result, Ok, Err}
use Rattle.std.proofs.lemmas.List.{append_assoc, drop_more}
use Rattle.mt_show.specs.Text.{pair_lines}

-- the line of one pair more
pub pairs_step : {X Y : Type 0} (line : X → Y → List ℕ) (xs : List X) (ys : List Y) (i : ℕ) (x : X) (e : Y) (out new whole : List ℕ) → length ys ≡ length xs → i < length ys → x ≡ get_or xs i x
    → new ≡ out ++ line x (get_or ys i e) → out ++ pair_lines line (drop i xs) (drop i ys) ≡ whole → new ++ pair_lines line (drop (i + 1) xs) (drop (i + 1) ys) ≡ whole
pairs_step {X} {Y} line xs ys i x e out new whole long known is_x made so_far =
    let rest = pair_lines line (drop (i + 1) xs) (drop (i + 1) ys) in
    let y = get_or ys i e in
    let first : drop i xs ≡ x ∷ drop (i + 1) xs = drop_more xs i x (omega (arith, long, known)) ∙ ap (λ (z : X). z ∷ drop (i + 1) xs) (sym is_x) in
    let second : drop i ys ≡ y ∷ drop (i + 1) ys = drop_more ys i e known in
    let both : pair_lines line (drop i xs) (drop i ys) ≡ line x y ++ rest =
    ap (λ (l : List X). pair_lines line l (drop i ys)) first ∙ ap (λ (l : List Y). pair_lines line (x ∷ drop (i + 1) xs) l) second in
    ap (λ (l : List ℕ). l ++ rest) made ∙ append_assoc out (line x y) rest ∙ ap (λ (l : List ℕ). out ++ l) (sym both) ∙ so_far

-- four texts that were appended, one after another
pub four_appended : {A E : Type 0} (result : Result A E) (old a b c new first second third last : List ℕ) → a ≡ old ++ first → b ≡ a ++ second → c ≡ b ++ third → OnOk result (new ≡ c ++ last) → OnOk result (new ≡ old ++ (((first ++ second) ++ third) ++ last))
four_appended (Err e) old a b c new first second third last is_a is_b is_c is_new = tt
four_appended (Ok x) old a b c new first second third last is_a is_b is_c is_new =
    is_new ∙ ap (λ (l : List ℕ). l ++ last) (is_c ∙ ap (λ (l : List ℕ). l ++ third) (is_b ∙ ap (λ (l : List ℕ). l ++ second) is_a ∙ append_assoc old first second) ∙ append_assoc old (first ++ second) third)
    ∙ append_assoc old ((first ++ second) ++ third) last
