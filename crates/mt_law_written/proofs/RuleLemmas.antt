-- What the rules of a table say of its names, columns and keys.
use Rattle.std.proofs.Common.{◌≡◌, ◌≢◌, ℕ, zero, suc, ◌+◌, ◌<◌, ◌≤◌, Bool, true, false, not, cond, ◌||◌, List, [], ◌∷◌, ◌++◌, length, map, get_or, refl, ap, sym, ◌∙◌, arith}
use Rattle.std.specs.Prelude.{All, nat_eq, filter}
use Rattle.std.specs.List.{list_all, list_any, range_with_len}
use Rattle.std.specs.Str.{bytes_eq}
use Rattle.std.specs.Char.{is_ascii_digit}
use Rattle.std.proofs.lemmas.Bool.{and_parts, and_from, eq-eqb, not-true}
use Rattle.std.proofs.lemmas.Slice.Eq.{bytes_eq-Decides}
use Rattle.std.proofs.lemmas.List.Elements.{All-nil, All-cons, All-append, All-filter, All-head, All-tail, All-weaker}
use Rattle.mt_facts.proofs.Lists.{each_passes, none_passes}
use Rattle.mt_types.specs.declared.ty.Ty.{Ty}
use Rattle.mt_types.specs.Words.{is_word_start, is_word_byte as is_name_byte, is_name, is_word_text}
use Rattle.mt_table.specs.declared.column.Column.{Column}
use Rattle.mt_table.specs.ColumnTypes.{place_has}
use Rattle.mt_table.specs.Names.{are_different}
use Rattle.mt_defs.specs.Metadata.{column_at, no_column}
use Rattle.mt_law_written.proofs.ApartLemmas.{EachLater, Differ, later_mapped}

-- ---- lists without repetition

pub differ_by : {X : Type 0} (same : X → X → Bool) → ((a b : X) → a ≡ b → same a b ≡ true) → (xs : List X) → are_different same xs ≡ true → Differ xs
differ_by same decides [] e = tt
differ_by same decides (x ∷ xs) e =
    let both = and_parts (not (list_any (same x) xs)) (are_different same xs) e in (
      All-weaker (λ y. same x y ≡ false) (λ y. x ≢ y) (λ y other is. (let bad : true ≡ false = sym (decides x y is) ∙ other in cc)) xs (none_passes (same x) xs (not-true (list_any (same x) xs) both.0)),
      differ_by same decides xs both.1,
    )

pub names_are_different : (names : List (List ℕ)) → are_different bytes_eq names ≡ true → Differ names
names_are_different = differ_by bytes_eq (λ a b is. (bytes_eq-Decides a b).1 is)

pub places_are_different : (places : List ℕ) → are_different nat_eq places ≡ true → Differ places
places_are_different = differ_by nat_eq (λ a b is. eq-eqb a b is)

-- ---- places of columns

-- there is a column at the place, and its type passes the test
pub record HasPlace (test : Ty → Bool) (columns : List Column) (place : ℕ) : Type 0 where
  pub within : place < length columns
  pub passes : test (column_at columns place).ty ≡ true

pub place_of : (test : Ty → Bool) (columns : List Column) (place : ℕ) → place_has test columns place ≡ true → HasPlace test columns place
place_of test [] place e = cc
place_of test (column ∷ columns) zero e = record { within = omega arith; passes = e }
place_of test (column ∷ columns) (suc place) e = let later = place_of test columns place e in record { within = omega (arith, later.within); passes = later.passes }

pub places_of : (test : Ty → Bool) (columns : List Column) (places : List ℕ) → list_all (place_has test columns) places ≡ true → All (HasPlace test columns) places
places_of test columns places e = All-weaker (λ place. place_has test columns place ≡ true) (HasPlace test columns) (place_of test columns) places (each_passes (place_has test columns) places e)

-- columns at different places have different names
pub names_at : (columns : List Column) → EachLater (λ a b. a.name ≢ b.name) columns → (i j : ℕ) → i < length columns → j < length columns → i ≢ j → (column_at columns i).name ≢ (column_at columns j).name
names_at [] each i j in_i in_j other = absurd (omega (arith, in_i))
names_at (column ∷ columns) each zero zero in_i in_j other = absurd (other refl)
names_at (column ∷ columns) each zero (suc j) in_i in_j other = each.0 j no_column (omega (arith, in_j))
names_at (column ∷ columns) each (suc i) zero in_i in_j other = λ same. each.0 i no_column (omega (arith, in_i)) (sym same)
names_at (column ∷ columns) each (suc i) (suc j) in_i in_j other = names_at columns each.1 i j (omega (arith, in_i)) (omega (arith, in_j)) (λ same. other (ap suc same))

-- so are columns at a list of different places
pub selected_differ : (columns : List Column) (places : List ℕ) → EachLater (λ a b. a.name ≢ b.name) columns → All (λ i. i < length columns) places → Differ places → EachLater (λ a b. a.name ≢ b.name) (map (column_at columns) places)
selected_differ columns places each within differ =
    later_mapped (λ a b. a.name ≢ b.name) (column_at columns) places (each_pair places within differ)
  where
    each_pair : (places : List ℕ) → All (λ i. i < length columns) places → Differ places → EachLater (λ i j. (column_at columns i).name ≢ (column_at columns j).name) places
    each_pair [] within differ = tt
    each_pair (i ∷ places) within differ =
        let Within : ℕ → Type 0 = λ i. i < length columns in
        let rest : All Within places = All-tail Within i places within in (
          λ k d inside. names_at columns each i (get_or places k d) (All-head Within i places within) (rest k d inside) (differ.0 k d inside),
          each_pair places rest differ.1,
        )

-- ---- ranges and filters

from_on : (n a b : ℕ) → a ≤ b → All (λ i. a ≤ i) (range_with_len b n)
from_on zero a b low = All-nil _
from_on (suc n) a b low = All-cons (λ i. a ≤ i) b (range_with_len (b + 1) n) low (from_on n a (b + 1) (omega (arith, low)))

pub range_differs : (a n : ℕ) → Differ (range_with_len a n)
range_differs a zero = tt
range_differs a (suc n) = (All-weaker (λ i. a + 1 ≤ i) (λ i. a ≢ i) (λ i above same. omega (arith, above, same)) (range_with_len (a + 1) n) (from_on n (a + 1) (a + 1) (omega arith)), range_differs (a + 1) n)

pub range_below : (a n top : ℕ) → a + n ≤ top → All (λ i. i < top) (range_with_len a n)
range_below a zero top few = All-nil _
range_below a (suc n) top few = All-cons (λ i. i < top) a (range_with_len (a + 1) n) (omega (arith, few)) (range_below (a + 1) n top (omega (arith, few)))

module _ {X : Type 0} (test : X → Bool) where
  pub later_kept : (R : X → X → Type 0) (xs : List X) → EachLater R xs → EachLater R (filter test xs)
  later_kept R [] each = tt
  later_kept R (x ∷ xs) each =
      elim (test x) as (λ b. EachLater R (cond b (x ∷ filter test xs) (filter test xs))) [
        | true ↦ (All-filter test (R x) xs each.0, later_kept R xs each.1)
        | false ↦ later_kept R xs each.1
      ]

-- two lists, one after the other
pub later_appended : {X : Type 0} (R : X → X → Type 0) (xs ys : List X) → EachLater R xs → EachLater R ys → All (λ x. All (R x) ys) xs → EachLater R (xs ++ ys)
later_appended R [] ys one two across = two
later_appended R (x ∷ xs) ys one two across =
    (All-append (R x) xs ys one.0 (All-head (λ x. All (R x) ys) x xs across), later_appended R xs ys one.1 two (All-tail (λ x. All (R x) ys) x xs across))

-- ---- names

-- the bytes of a name are letters, digits and _
pub name_bytes : (name : List ℕ) → is_name name ≡ true → list_all is_name_byte name ≡ true
name_bytes name e = word_bytes name (and_parts (is_word_text name) _ e).0
  where
    word_bytes : (name : List ℕ) → is_word_text name ≡ true → list_all is_name_byte name ≡ true
    word_bytes [] e = refl
    word_bytes (c ∷ rest) e =
        let both = and_parts (is_word_start c) (list_all is_name_byte rest) e in
        and_from (is_name_byte c) (list_all is_name_byte rest) (ap (λ b. b || is_ascii_digit c) both.0) both.1
