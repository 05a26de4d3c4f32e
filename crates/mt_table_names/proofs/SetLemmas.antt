-- Names that differ, taken from the front on.
use Rattle.std.proofs.Common.{◌≡◌, ℕ, ◌+◌, ◌<◌, ◌≤◌, arith, Bool, true, false, nat_lt, List, [], ◌∷◌, ◌++◌, length, map, refl, ap, sym, ◌∙◌, get_or, take, drop}
use Rattle.std.specs.Prelude.{cond, if◌then◌else◌, not, ◌&&◌, ◌||◌, Some, None}
use Rattle.std.specs.List.{list_any, list_all, position, position_or_len, prefix_len}
use Rattle.std.specs.Str.{bytes_eq}
use Rattle.std.proofs.lemmas.Bool.{ltb-false}
use Rattle.std.proofs.lemmas.List.{map-append, drop_all, drop_more, take_more, take_all}
use Rattle.std.proofs.lemmas.List.Folds.{list_any-append}
use Rattle.std.proofs.lemmas.List.Sums.{prefix_len-le-length}
use Rattle.std.proofs.lemmas.Slice.Eq.{bytes_eq-Decides}
use Rattle.mt_facts.proofs.Truth.{and_true}
use Rattle.mt_table.specs.Names.{is_among, names_differ}

pub len_map : {A B : Type 0} (test : B → Bool) (f : A → B) (xs : List A) → prefix_len test (map f xs) ≡ prefix_len (λ x. test (f x)) xs
len_map test f [] = refl
len_map test f (x ∷ xs) = ap (λ n. cond (test (f x)) (1 + n) 0) (len_map test f xs)

-- the place that `position` found, or the length
pub found_at : {A : Type 0} (test : A → Bool) (xs : List A) (i : ℕ) → position test xs ≡ Some i → i ≡ position_or_len test xs
found_at test xs i = chosen (nat_lt (position_or_len test xs) (length xs))
  where
    chosen : (b : Bool) → cond b (Some (position_or_len test xs)) None ≡ Some i → i ≡ position_or_len test xs
    chosen true e = cc
    chosen false e = cc

pub found_nowhere : {A : Type 0} (test : A → Bool) (xs : List A) → position test xs ≡ None → length xs ≡ position_or_len test xs
found_nowhere test xs = chosen (nat_lt (position_or_len test xs) (length xs)) refl
  where
    chosen : (b : Bool) → nat_lt (position_or_len test xs) (length xs) ≡ b → cond b (Some (position_or_len test xs)) None ≡ None → length xs ≡ position_or_len test xs
    chosen true is e = cc
    chosen false is e =
        let past = ltb-false (position_or_len test xs) (length xs) is in
        let within = prefix_len-le-length (λ x. not (test x)) xs in
        omega (arith, past, within)

pub same_either_way : (x y : List ℕ) → bytes_eq x y ≡ bytes_eq y x
same_either_way x y = cases (bytes_eq x y) (bytes_eq y x) refl refl
  where
    cases : (p q : Bool) → bytes_eq x y ≡ p → bytes_eq y x ≡ q → p ≡ q
    cases true q e f = sym ((bytes_eq-Decides y x).1 (sym ((bytes_eq-Decides x y).0 e))) ∙ f
    cases false true e f = sym e ∙ (bytes_eq-Decides x y).1 (sym ((bytes_eq-Decides y x).0 f))
    cases false false e f = refl

-- ---- names that were seen, and the others

-- the names differ, and none is one of those that were seen
pub differ_after : List (List ℕ) → List (List ℕ) → Bool
differ_after seen [] = true
differ_after seen (x ∷ xs) = not (is_among seen x) && differ_after (seen ++ x ∷ []) xs

abbrev none_among : List (List ℕ) → List (List ℕ) → Bool
none_among seen xs = list_all (λ y. not (is_among seen y)) xs

one_more : (p q r s : Bool) → (not (p || (q || false)) && (not r && s)) ≡ (not (q || r) && (not p && s))
one_more true true true s = refl
one_more true true false s = refl
one_more true false true s = refl
one_more true false false s = refl
one_more false true true s = refl
one_more false true false s = refl
one_more false false true s = refl
one_more false false false s = refl

none_more : (seen : List (List ℕ)) (x : List ℕ) (xs : List (List ℕ)) → none_among (seen ++ x ∷ []) xs ≡ (not (list_any (bytes_eq x) xs) && none_among seen xs)
none_more seen x [] = refl
none_more seen x (y ∷ ys) =
    ap (λ b. not b && none_among (seen ++ x ∷ []) ys) (list_any-append (bytes_eq y) seen (x ∷ []))
    ∙ ap (λ b. not (is_among seen y || (bytes_eq y x || false)) && b) (none_more seen x ys)
    ∙ ap (λ b. not (is_among seen y || (b || false)) && (not (list_any (bytes_eq x) ys) && none_among seen ys)) (same_either_way y x)
    ∙ one_more (is_among seen y) (bytes_eq x y) (list_any (bytes_eq x) ys) (none_among seen ys)

regrouped : (a n d s : Bool) → (a && (d && (n && s))) ≡ ((n && d) && (a && s))
regrouped true true true s = refl
regrouped true true false s = refl
regrouped true false true s = refl
regrouped true false false s = refl
regrouped false true true s = refl
regrouped false true false s = refl
regrouped false false true s = refl
regrouped false false false s = refl

after_is : (seen xs : List (List ℕ)) → differ_after seen xs ≡ (names_differ xs && none_among seen xs)
unfolding differ_after
after_is seen [] = refl
after_is seen (x ∷ xs) =
    ap (λ b. not (is_among seen x) && b) (after_is (seen ++ x ∷ []) xs)
    ∙ ap (λ b. not (is_among seen x) && (names_differ xs && b)) (none_more seen x xs)
    ∙ regrouped (not (is_among seen x)) (not (list_any (bytes_eq x) xs)) (names_differ xs) (none_among seen xs)

none_of_none : (xs : List (List ℕ)) → none_among [] xs ≡ true
none_of_none [] = refl
none_of_none (x ∷ xs) = none_of_none xs

-- all names differ where none was seen before
pub differ_from_none : (names : List (List ℕ)) → differ_after [] names ≡ names_differ names
differ_from_none names = after_is [] names ∙ ap (λ b. names_differ names && b) (none_of_none names) ∙ and_true (names_differ names)

-- ---- the loop

-- the first names differ, and the others are to be compared with them
pub record Taken (names seen : List (List ℕ)) (i : ℕ) : Type 0 where
  pub are : seen ≡ take i names
  pub rest : differ_after (take i names) (drop i names) ≡ names_differ names

pub taken_none : (names seen : List (List ℕ)) → seen ≡ [] → Taken names seen 0
taken_none names seen e = record { are = e; rest = differ_from_none names }

-- the tests at the next name
at_next : (names : List (List ℕ)) (i : ℕ) (d : List ℕ) → i < length names → differ_after (take i names) (drop i names) ≡ (not (is_among (take i names) (get_or names i d)) && differ_after (take (i + 1) names) (drop (i + 1) names))
unfolding differ_after
at_next names i d h =
    ap (differ_after (take i names)) (drop_more names i d h)
    ∙ ap (λ s. not (is_among (take i names) (get_or names i d)) && differ_after s (drop (i + 1) names)) (sym (take_more names i d h))

pub seen_before : (names seen : List (List ℕ)) (i : ℕ) (name d : List ℕ) → i < length names → name ≡ get_or names i d → Taken names seen i → is_among seen name ≡ true → names_differ names ≡ false
seen_before names seen i name d h is taken among =
    let here : is_among (take i names) (get_or names i d) ≡ true = ap (λ n. is_among (take i names) n) (sym is) ∙ ap (λ s. is_among s name) (sym taken.are) ∙ among in
    sym taken.rest ∙ at_next names i d h ∙ ap (λ b. not b && differ_after (take (i + 1) names) (drop (i + 1) names)) here

pub taken_more : (names seen new : List (List ℕ)) (i : ℕ) (name d : List ℕ) → i < length names → name ≡ get_or names i d → Taken names seen i → is_among seen name ≡ false → new ≡ seen ++ name ∷ [] → Taken names new (i + 1)
taken_more names seen new i name d h is taken apart more =
    let here : is_among (take i names) (get_or names i d) ≡ false = ap (λ n. is_among (take i names) n) (sym is) ∙ ap (λ s. is_among s name) (sym taken.are) ∙ apart in
    record {
      are = more ∙ ap (λ s. s ++ name ∷ []) taken.are ∙ ap (λ n. take i names ++ n ∷ []) is ∙ sym (take_more names i d h);
      rest = sym (ap (λ b. not b && differ_after (take (i + 1) names) (drop (i + 1) names)) here) ∙ sym (at_next names i d h) ∙ taken.rest;
    }

pub taken_all : (names seen : List (List ℕ)) (i : ℕ) → length names ≤ i → Taken names seen i → (seen ≡ names) × (names_differ names ≡ true)
unfolding differ_after
taken_all names seen i h taken = (taken.are ∙ take_all i names h, sym taken.rest ∙ ap (differ_after (take i names)) (drop_all i names h))

-- ---- what an insertion answers

pub was_among : (new among : Bool) → new ≡ not among → new ≡ false → among ≡ true
was_among new true e h = refl
was_among new false e h = sym h ∙ e

pub was_new : (new among : Bool) → new ≡ not among → new ≡ true → among ≡ false
was_new new true e h = sym h ∙ e
was_new new false e h = refl

-- the keys after a new one is inserted
pub keys_more : {A B : Type 0} (same : B → B → Bool) (f : A → B) (keys new : List A) (key : A) → list_any (λ k. same (f key) (f k)) keys ≡ false
    → new ≡ (if list_any (λ k. same (f key) (f k)) keys then keys else keys ++ key ∷ []) → map f new ≡ map f keys ++ f key ∷ []
keys_more same f keys new key absent e =
    ap (map f) (e ∙ ap (λ b. if b then keys else keys ++ key ∷ []) absent) ∙ map-append f keys (key ∷ [])
