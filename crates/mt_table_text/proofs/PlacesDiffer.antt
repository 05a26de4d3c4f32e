-- Different names stand at different places.
use Rattle.std.proofs.Common.{◌≡◌, ℕ, ◌+◌, ◌<◌, arith, Bool, true, false, nat_eq, List, [], ◌∷◌, length, refl, ap, sym, ◌∙◌, subst, get_or}
use Rattle.std.specs.Prelude.{cond, not, ◌&&◌, ◌||◌}
use Rattle.std.specs.List.{list_all, list_any, position_or_len}
use Rattle.std.specs.Str.{bytes_eq}
use Rattle.std.proofs.lemmas.Bool.Decides.{Decides-eqb}
use Rattle.std.proofs.lemmas.List.Folds.{list_all-map}
use Rattle.std.proofs.lemmas.List.Sums.{prefix_len_stops}
use Rattle.std.proofs.lemmas.Slice.Eq.{bytes_eq-Decides}
use Rattle.std.proofs.lemmas.Bool.{or_from, or_parts, not-false, not-true}
use Rattle.mt_types.specs.declared.ty.Ty.{Ty}
use Rattle.mt_types.proofs.StepLemmas.{both_of, both_true}
use Rattle.mt_table.specs.declared.column.Column.{Column}
use Rattle.mt_table.specs.ColumnTypes.{column_has, named_has, place_has}
use Rattle.mt_table.specs.Kept.{names_of}
use Rattle.mt_table.specs.Names.{are_among, is_among, names_differ, places_differ}
use Rattle.mt_table_names.specs.Sentence.{place_in, places_in}
use Rattle.mt_table_rules.proofs.ColumnLemmas.{named_is}

-- ---- the place of a name that is there

within_by : (b : Bool) (n count : ℕ) → (b ≡ false → n < count) → cond (not b) (1 + n) 0 < count + 1
within_by true n count later = omega arith
within_by false n count later = let within = later refl in omega (arith, within)

pub later_any : (b c : Bool) → (b || c) ≡ true → b ≡ false → c ≡ true
later_any b c any e = sym (ap (λ t. t || c) e) ∙ any

one_longer : {A : Type 0} (x : A) (xs : List A) → length xs + 1 ≡ length (x ∷ xs)
one_longer x xs = omega arith

found_within : {A : Type 0} (test : A → Bool) (xs : List A) → list_any test xs ≡ true → position_or_len test xs < length xs
found_within test [] any = cc
found_within test (x ∷ xs) any =
    subst (λ n. position_or_len test (x ∷ xs) < n) (one_longer x xs)
    (within_by (test x) (position_or_len test xs) (length xs) (λ e. found_within test xs (later_any (test x) (list_any test xs) any e)))

pub place_below : (names : List (List ℕ)) (name : List ℕ) → is_among names name ≡ true → place_in names name < length names
place_below names name among = found_within (bytes_eq name) names among

-- there stands the name
name_at : (names : List (List ℕ)) (name : List ℕ) → is_among names name ≡ true → name ≡ get_or names (place_in names name) []
name_at names name among =
    let stops : bytes_eq name (get_or names (place_in names name) []) ≡ true = not-false _ (prefix_len_stops (λ other. not (bytes_eq name other)) names [] (place_below names name among)) in
    (bytes_eq-Decides name (get_or names (place_in names name) [])).0 stops

-- names at one place are one name
pub one_place : (names : List (List ℕ)) (x y : List ℕ) → is_among names x ≡ true → is_among names y ≡ true → nat_eq (place_in names x) (place_in names y) ≡ true → bytes_eq x y ≡ true
one_place names x y in_x in_y same =
    let place : place_in names x ≡ place_in names y = (Decides-eqb (place_in names x) (place_in names y)).0 same in
    (bytes_eq-Decides x y).1 (name_at names x in_x ∙ ap (λ i. get_or names i []) place ∙ sym (name_at names y in_y))

apart : (names : List (List ℕ)) (x y : List ℕ) → is_among names x ≡ true → is_among names y ≡ true → bytes_eq x y ≡ false → nat_eq (place_in names x) (place_in names y) ≡ false
apart names x y in_x in_y differ = by_test (nat_eq (place_in names x) (place_in names y)) refl
  where
    by_test : (b : Bool) → nat_eq (place_in names x) (place_in names y) ≡ b → b ≡ false
    by_test true e = sym (one_place names x y in_x in_y e) ∙ differ
    by_test false e = refl

-- ---- lists of names

others_apart : (names : List (List ℕ)) (x : List ℕ) (xs : List (List ℕ)) → is_among names x ≡ true → are_among names xs ≡ true → list_any (bytes_eq x) xs ≡ false → list_any (nat_eq (place_in names x)) (places_in names xs) ≡ false
others_apart names x [] in_x in_xs none = refl
others_apart names x (y ∷ ys) in_x in_xs none =
    let here = both_true (is_among names y) (are_among names ys) in_xs in
    let other = or_parts (bytes_eq x y) (list_any (bytes_eq x) ys) none in
    or_from _ _ (apart names x y in_x here.0 other.0) (others_apart names x ys in_x here.1 other.1)

-- different names that are there stand at different places
pub differ_in : (names list : List (List ℕ)) → names_differ list ≡ true → are_among names list ≡ true → places_differ (places_in names list) ≡ true
differ_in names [] differ among = refl
differ_in names (x ∷ xs) differ among =
    let parts = both_true (not (list_any (bytes_eq x) xs)) (names_differ xs) differ in
    let here = both_true (is_among names x) (are_among names xs) among in
    both_of _ _ (ap not (others_apart names x xs here.0 here.1 (not-true _ parts.0))) (differ_in names xs parts.1 here.1)

-- ---- types

-- the column at a name's place is the column of the name
pub place_is_named : (test : Ty → Bool) (columns : List Column) (names : List (List ℕ)) (name : List ℕ) → names ≡ names_of columns → place_has test columns (place_in names name) ≡ named_has test columns name
place_is_named test columns names name are =
    ap (λ n. place_has test columns (place_in n name)) are ∙ ap (column_has test) (named_is columns name)

-- a test of each element is another test of each
pub all_same : {A : Type 0} (p q : A → Bool) (xs : List A) → ((x : A) → p x ≡ q x) → list_all p xs ≡ list_all q xs
all_same p q [] same = refl
all_same p q (x ∷ xs) same = ap (λ b. b && list_all p xs) (same x) ∙ ap (λ b. q x && b) (all_same p q xs same)

pub places_are_named : (test : Ty → Bool) (columns : List Column) (names list : List (List ℕ)) → names ≡ names_of columns → list_all (place_has test columns) (places_in names list) ≡ list_all (named_has test columns) list
places_are_named test columns names list are =
    list_all-map (place_has test columns) (place_in names) list
    ∙ all_same (λ name. place_has test columns (place_in names name)) (named_has test columns) list (λ name. place_is_named test columns names name are)
