-- The columns and keys of a sentence that was judged keep the rules of a table.
use Rattle.std.proofs.Common.{◌≡◌, ℕ, ◌≤◌, arith, Bool, true, false, List, [], ◌∷◌, length, refl, ap, sym, ◌∙◌}
use Rattle.std.specs.Prelude.{if◌then◌else◌, nat_le, not, Option, Some, None}
use Rattle.std.specs.List.{list_all}
use Rattle.std.specs.Str.{bytes_eq}
use Rattle.std.proofs.lemmas.List.{length-map}
use Rattle.mt_types.specs.declared.ty.Ty.{Ty}
use Rattle.mt_types.specs.NameReading.{type_named}
use Rattle.mt_types.proofs.ReadingLemmas.{name_of_type_named}
use Rattle.mt_types.proofs.StepLemmas.{both_of, both_true}
use Rattle.mt_types.specs.Words.{is_name}
use Rattle.mt_element_syntax.specs.declared.tree.Element.{Element}
use Rattle.mt_element_syntax.specs.declared.tree.Element.TheVariants.{Column as Column', Index, Projection}
use Rattle.mt_element_syntax.specs.declared.tree.TypeText.{TypeText}
use Rattle.mt_table.specs.declared.column.Column.{Column}
use Rattle.mt_table.specs.declared.limits.TheConstants.{MAX_COLUMNS, MAX_KEY}
use Rattle.mt_table.specs.ColumnTypes.{is_column_type, is_key_type, is_state_type, named_has}
use Rattle.mt_element_syntax.specs.Formed.{has_one, is_formed_element}
use Rattle.mt_table.specs.Kept.{is_column, keeps_columns, keeps_key, names_of}
use Rattle.mt_table.specs.Names.{are_among, begins, names_differ}
use Rattle.mt_table_rules.specs.Projections.{is_key}
use Rattle.mt_table_rules.specs.Rules.{is_short}
use Rattle.mt_table_names.specs.Sentence.{column_element_names, places_in}
use Rattle.mt_table_rules.specs.Columns.{columns_of, with_listed_column}
use Rattle.mt_table_rules.specs.TypeTexts.{column_type_if, column_type_of, type_text}
use Rattle.mt_table_text.proofs.PlacesDiffer.{differ_in, places_are_named}

-- ---- columns

unless_state : (found : Option Ty) (ty : Ty) → Some ty ≡ column_type_if found → (found ≡ Some ty) × (is_state_type ty ≡ false)
unless_state None ty e = cc
unless_state (Some other) ty e = by_test (is_state_type other) refl e
  where
    by_test : (b : Bool) → is_state_type other ≡ b → Some ty ≡ (if b then None else Some other) → (Some other ≡ Some ty) × (is_state_type ty ≡ false)
    by_test true is e = cc
    by_test false is e = let same : other ≡ ty = cc in (ap Some same, ap is_state_type (sym same) ∙ is)

-- a type of a column
is_type : (text : TypeText) (ty : Ty) → Some ty ≡ column_type_of text → is_column_type ty ≡ true
is_type text ty e =
    let both = unless_state (type_named (type_text text)) ty e in
    both_of _ _ (name_of_type_named (type_text text) ty both.0).0 (ap not both.1)

one_column : (name : List ℕ) (ty : Option Ty) (rest : Option (List Column)) (columns : List Column) → Some columns ≡ with_listed_column name ty rest
    → (t : Ty) × (others : List Column) × (ty ≡ Some t) × (rest ≡ Some others) × (columns ≡ record { name = name; ty = t } ∷ others)
one_column name None rest columns e = cc
one_column name (Some t) None columns e = cc
one_column name (Some t) (Some others) columns e = let same : columns ≡ record { name = name; ty = t } ∷ others = cc in (t, others, refl, refl, same)

-- the columns that were read have names and types
pub are_columns : (elements : List Element) (columns : List Column) → Some columns ≡ columns_of elements → list_all is_formed_element elements ≡ true → list_all is_column columns ≡ true
are_columns [] columns read formed = let none : columns ≡ [] = cc in ap (list_all is_column) none
are_columns (Column' name text codecs ∷ elements) columns read formed =
    let parts = one_column name (column_type_of text) (columns_of elements) columns read in
    let here = both_true (is_name name) (list_all is_formed_element elements) formed in
    ap (list_all is_column) parts.4
    ∙ both_of _ _ (both_of (is_name name) (is_column_type parts.0) here.0 (is_type text parts.0 (sym parts.2))) (are_columns elements parts.1 (sym parts.3) here.1)
are_columns (Index name column kind granularity ∷ elements) columns read formed = are_columns elements columns read (both_true (is_formed_element (Index name column kind granularity)) _ formed).1
are_columns (Projection name items group order ∷ elements) columns read formed = are_columns elements columns read (both_true (is_formed_element (Projection name items group order)) _ formed).1

pub columns_kept : (elements : List Element) (columns : List Column) → Some columns ≡ columns_of elements → column_element_names elements ≡ names_of columns → list_all is_formed_element elements ≡ true
    → has_one (column_element_names elements) ≡ true → nat_le (length (column_element_names elements)) MAX_COLUMNS ≡ true → names_differ (column_element_names elements) ≡ true → keeps_columns columns ≡ true
columns_kept elements columns read are formed some few differ =
    let as_many : length (column_element_names elements) ≡ length columns = ap length are ∙ length-map columns (λ column. column.name) in
    both_of _ _ (both_of _ _ (ap (nat_le 1) (sym as_many) ∙ some) (ap (λ n. nat_le n MAX_COLUMNS) (sym as_many) ∙ few))
    (both_of _ _ (are_columns elements columns read formed) (ap names_differ (sym are) ∙ differ))

-- ---- keys

-- a key by names is a key by places
pub key_kept : (columns : List Column) (names list : List (List ℕ)) → names ≡ names_of columns → is_key columns list ≡ true → are_among names list ≡ true → has_one list ≡ true → is_short list ≡ true
    → keeps_key columns (places_in names list) ≡ true
key_kept columns names list are key among some short =
    let parts = both_true (names_differ list) (list_all (named_has is_key_type columns) list) key in
    let as_many : length (places_in names list) ≡ length list = length-map list _ in
    both_of _ _ (both_of _ _ (ap (nat_le 1) as_many ∙ some) (ap (λ n. nat_le n MAX_KEY) as_many ∙ short))
    (both_of _ _ (differ_in names list parts.0 among) (places_are_named is_key_type columns names list are ∙ parts.1))

-- what begins a list is no longer
pub begins_within : (first names : List (List ℕ)) → begins first names ≡ true → length first ≤ length names
begins_within [] names e = omega arith
begins_within (x ∷ xs) [] e = cc
begins_within (x ∷ xs) (y ∷ ys) e = let within = begins_within xs ys (both_true (bytes_eq x y) (begins xs ys) e).1 in omega (arith, within)
