-- The names of a path, found from its end.
use Rattle.std.proofs.Common.{◌≡◌, ◌≢◌, ◌<◌, ◌≤◌, ◌-◌, ℕ, suc, Bool, true, ◌&&◌, subst, List, [], ◌∷◌, length, take, drop, get_or, refl, sym, ◌∙◌, ap, arith, drop-cons}
use Rattle.std.proofs.lemmas.Bool.Decides.{nat_tests}
use Rattle.std.proofs.Math.Seq.{drop-length}
use Rattle.std.specs.List.{list_all}
use Rattle.mt_shelf.specs.Paths.{path_names, onto_first_name, is_entry_name, is_relative}

-- from i on the first name ends at end, and good says whether the other names are good
pub record Split (path : List ℕ) (i end : ℕ) (good : Bool) : Type 0 where
  pub more : List (List ℕ)
  pub names : path_names (drop i path) ≡ take (end - i) (drop i path) ∷ more
  pub rest : list_all is_entry_name more ≡ good
  pub order : i ≤ end
  pub inside : end ≤ length path

nothing_left : (path : List ℕ) (rest : List ℕ) (n : ℕ) → rest ≡ [] → path_names rest ≡ take n rest ∷ []
nothing_left path rest n is = rw is (nothing n)
  where
    nothing : (n : ℕ) → path_names [] ≡ take n [] ∷ []
    nothing n = grind arith

pub at_end : (path : List ℕ) → Split path (length path) (length path) true
at_end path = record { more = []; names = nothing_left path (drop (length path) path) (length path - length path) (drop-length path); rest = refl; order = omega arith; inside = omega arith }

slash : (c : ℕ) (rest : List ℕ) → c ≡ 47 → path_names (c ∷ rest) ≡ [] ∷ path_names rest
slash c rest is = grind (arith, nat_tests)

other : (c : ℕ) (rest : List ℕ) → c ≢ 47 → path_names (c ∷ rest) ≡ onto_first_name c (path_names rest)
other c rest differs = grind (arith, nat_tests)

at_slash_suc : (path : List ℕ) (j end : ℕ) (good b : Bool) → Split path (suc j) end good → j < length path → get_or path j 0 ≡ 47 → b ≡ (is_entry_name (take (end - suc j) (drop (suc j) path)) && good) → Split path j j b
at_slash_suc path j end good b s inside is same = record {
  more = take (end - suc j) (drop (suc j) path) ∷ s.more;
  names = rw (drop-cons path j 0) (slash (get_or path j 0) (drop (suc j) path) is ∙ ap (λ (names : List (List ℕ)). [] ∷ names) s.names ∙ none);
  rest = ap (λ (g : Bool). is_entry_name (take (end - suc j) (drop (suc j) path)) && g) s.rest ∙ sym same;
  order = omega arith;
  inside = omega arith;
}
  where
    none : [] ∷ take (end - suc j) (drop (suc j) path) ∷ s.more ≡ take (j - j) (get_or path j 0 ∷ drop (suc j) path) ∷ take (end - suc j) (drop (suc j) path) ∷ s.more
    none = let zero_is : j - j ≡ 0 = omega arith in rw zero_is refl

at_other_suc : (path : List ℕ) (j end : ℕ) (good : Bool) → Split path (suc j) end good → j < length path → get_or path j 0 ≢ 47 → Split path j end good
at_other_suc path j end good s inside differs = record {
  more = s.more;
  names = rw (drop-cons path j 0) (other (get_or path j 0) (drop (suc j) path) differs ∙ ap (onto_first_name (get_or path j 0)) s.names ∙ longer);
  rest = s.rest;
  order = let o : suc j ≤ end = s.order in omega arith;
  inside = s.inside;
}
  where
    longer : (get_or path j 0 ∷ take (end - suc j) (drop (suc j) path)) ∷ s.more ≡ take (end - j) (get_or path j 0 ∷ drop (suc j) path) ∷ s.more
    longer = let o : suc j ≤ end = s.order in let one_more : end - j ≡ suc (end - suc j) = omega arith in rw one_more refl

pub at_start : (path : List ℕ) (end : ℕ) (good : Bool) → Split path 0 end good → is_relative path ≡ (is_entry_name (take end path) && good)
at_start path end good s = ap (list_all is_entry_name) s.names ∙ ap (λ (g : Bool). is_entry_name (take (end - 0) path) && g) s.rest ∙ (let e : end - 0 ≡ end = omega arith in rw e refl)

pub at_slash : (path : List ℕ) (i j end : ℕ) (good b : Bool) → i ≡ suc j → Split path i end good → j < length path → get_or path j 0 ≡ 47 → b ≡ (is_entry_name (take (end - i) (drop i path)) && good) → Split path j j b
at_slash path i j end good b e s inside is same =
    let P : ℕ → Type 0 = λ k. Split path k end good in
    let Q : ℕ → Type 0 = λ k. b ≡ (is_entry_name (take (end - k) (drop k path)) && good) in
    at_slash_suc path j end good b (subst P e s) inside is (subst Q e same)

pub at_other : (path : List ℕ) (i j end : ℕ) (good : Bool) → i ≡ suc j → Split path i end good → j < length path → get_or path j 0 ≢ 47 → Split path j end good
at_other path i j end good e s inside differs = let P : ℕ → Type 0 = λ k. Split path k end good in at_other_suc path j end good (subst P e s) inside differs
