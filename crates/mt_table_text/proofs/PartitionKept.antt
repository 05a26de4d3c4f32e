-- The partition key and the skip indexes of a sentence that was judged keep the rules of a table.
use Rattle.std.proofs.Common.{◌≡◌, ℕ, true, List, [], ◌∷◌, length, map, refl, ap, sym, ◌∙◌}
use Rattle.std.specs.Prelude.{nat_le}
use Rattle.std.specs.List.{filter_map, list_all}
use Rattle.std.proofs.lemmas.List.{length-map}
use Rattle.std.proofs.lemmas.List.Folds.{list_all-map}
use Rattle.mt_types.proofs.StepLemmas.{both_of, both_true}
use Rattle.mt_types.specs.Words.{is_name}
use Rattle.mt_element_syntax.specs.declared.tree.Element.{Element}
use Rattle.mt_element_syntax.specs.declared.tree.Element.TheVariants as element
use Rattle.mt_element_syntax.specs.declared.tree.IndexKind.{IndexKind}
use Rattle.mt_element_syntax.specs.declared.tree.IndexKind.TheVariants.{Minmax, Set}
use Rattle.mt_syntax.specs.declared.tree.PartitionText.{PartitionText}
use Rattle.mt_syntax.specs.declared.tree.PartitionText.TheVariants as part
use Rattle.mt_table.specs.declared.column.Column.{Column}
use Rattle.mt_table.specs.declared.limits.TheConstants.{MAX_GRANULARITY, MAX_PARTITION, MAX_SKIPS}
use Rattle.mt_table.specs.declared.skip.Skip.{Skip}
use Rattle.mt_table.specs.ColumnTypes.{is_date_type, is_key_type, named_has}
use Rattle.mt_element_syntax.specs.Formed.{is_formed_element}
use Rattle.mt_table.specs.Kept.{keeps_expression, keeps_kind, keeps_partition, keeps_skip, keeps_skips, month_place, names_of, plain_place, skip_names}
use Rattle.mt_table.specs.Names.{are_among, are_apart, is_among, names_differ, places_differ}
use Rattle.mt_table_names.specs.Present.{expression_is_there}
use Rattle.mt_table_names.specs.Places.{expression_of, skip_kind_of, skip_of}
use Rattle.mt_table_rules.specs.Rules.{is_expression, is_index, is_kind, is_partition}
use Rattle.mt_table_names.specs.Sentence.{index_names, month_name, place_in, places_in, plain_name}
use Rattle.mt_table_text.proofs.PlacesDiffer.{all_same, differ_in, place_is_named}

-- ---- the partition key

plain_places : (names : List (List ℕ)) (partition : List PartitionText) → filter_map plain_place (map (expression_of names) partition) ≡ places_in names (filter_map plain_name partition)
plain_places names [] = refl
plain_places names (part.Plain name ∷ rest) = ap (λ places. place_in names name ∷ places) (plain_places names rest)
plain_places names (part.Month name ∷ rest) = plain_places names rest

month_places : (names : List (List ℕ)) (partition : List PartitionText) → filter_map month_place (map (expression_of names) partition) ≡ places_in names (filter_map month_name partition)
month_places names [] = refl
month_places names (part.Plain name ∷ rest) = month_places names rest
month_places names (part.Month name ∷ rest) = ap (λ places. place_in names name ∷ places) (month_places names rest)

plain_there : (names : List (List ℕ)) (partition : List PartitionText) → list_all (expression_is_there names) partition ≡ true → are_among names (filter_map plain_name partition) ≡ true
plain_there names [] there = refl
plain_there names (part.Plain name ∷ rest) there = let parts = both_true (is_among names name) _ there in both_of _ _ parts.0 (plain_there names rest parts.1)
plain_there names (part.Month name ∷ rest) there = plain_there names rest (both_true (is_among names name) _ there).1

month_there : (names : List (List ℕ)) (partition : List PartitionText) → list_all (expression_is_there names) partition ≡ true → are_among names (filter_map month_name partition) ≡ true
month_there names [] there = refl
month_there names (part.Plain name ∷ rest) there = month_there names rest (both_true (is_among names name) _ there).1
month_there names (part.Month name ∷ rest) there = let parts = both_true (is_among names name) _ there in both_of _ _ parts.0 (month_there names rest parts.1)

expression_same : (columns : List Column) (names : List (List ℕ)) → names ≡ names_of columns → (expression : PartitionText) → keeps_expression columns (expression_of names expression) ≡ is_expression columns expression
expression_same columns names are (part.Plain name) = place_is_named is_key_type columns names name are
expression_same columns names are (part.Month name) = place_is_named is_date_type columns names name are

pub partition_kept : (columns : List Column) (names : List (List ℕ)) (partition : List PartitionText) → names ≡ names_of columns → is_partition columns partition ≡ true
    → list_all (expression_is_there names) partition ≡ true → nat_le (length partition) MAX_PARTITION ≡ true → keeps_partition columns (map (expression_of names) partition) ≡ true
partition_kept columns names partition are good there few =
    let one = both_true (names_differ (filter_map plain_name partition)) _ good in
    let two = both_true (names_differ (filter_map month_name partition)) (list_all (is_expression columns) partition) one.1 in
    both_of _ _ (ap (λ n. nat_le n MAX_PARTITION) (length-map partition (expression_of names)) ∙ few)
    (both_of _ _ (ap places_differ (plain_places names partition) ∙ differ_in names (filter_map plain_name partition) one.0 (plain_there names partition there))
    (both_of _ _ (ap places_differ (month_places names partition) ∙ differ_in names (filter_map month_name partition) two.0 (month_there names partition there))
    (list_all-map (keeps_expression columns) (expression_of names) partition ∙ all_same (λ e. keeps_expression columns (expression_of names e)) (is_expression columns) partition (expression_same columns names are) ∙ two.1)))

-- ---- skip indexes

skips_named : (names : List (List ℕ)) (elements : List Element) → skip_names (filter_map (skip_of names) elements) ≡ index_names elements
skips_named names [] = refl
skips_named names (element.Column name ty codecs ∷ elements) = skips_named names elements
skips_named names (element.Index name column kind granularity ∷ elements) = ap (λ list. name ∷ list) (skips_named names elements)
skips_named names (element.Projection name items group order ∷ elements) = skips_named names elements

kind_kept : (kind : IndexKind) → keeps_kind (skip_kind_of kind) ≡ is_kind kind
kind_kept Minmax = refl
kind_kept (Set rows) = refl

each_skip : (columns : List Column) (names : List (List ℕ)) (elements : List Element) → names ≡ names_of columns → list_all is_formed_element elements ≡ true → list_all (is_index columns) elements ≡ true
    → list_all (keeps_skip columns) (filter_map (skip_of names) elements) ≡ true
each_skip columns names [] are formed good = refl
each_skip columns names (element.Column name ty codecs ∷ elements) are formed good = each_skip columns names elements are (both_true (is_name name) _ formed).1 good
each_skip columns names (element.Index name column kind granularity ∷ elements) are formed good =
    let named = both_true (is_name name) (list_all is_formed_element elements) formed in
    let parts = both_true (is_index columns (element.Index name column kind granularity)) (list_all (is_index columns) elements) good in
    let one = both_true (named_has is_key_type columns column) _ parts.0 in
    let two = both_true (nat_le 1 granularity) _ one.1 in
    let three = both_true (nat_le granularity MAX_GRANULARITY) (is_kind kind) two.1 in
    both_of _ _ (both_of _ _ named.0 (both_of _ _ (place_is_named is_key_type columns names column are ∙ one.0) (both_of _ _ two.0 (both_of _ _ three.0 (kind_kept kind ∙ three.1)))))
    (each_skip columns names elements are named.1 parts.1)
each_skip columns names (element.Projection name items group order ∷ elements) are formed good =
    each_skip columns names elements are (both_true (is_formed_element (element.Projection name items group order)) _ formed).1 good

pub skips_kept : (columns : List Column) (names : List (List ℕ)) (elements : List Element) → names ≡ names_of columns → list_all is_formed_element elements ≡ true → list_all (is_index columns) elements ≡ true
    → nat_le (length (index_names elements)) MAX_SKIPS ≡ true → names_differ (index_names elements) ≡ true → are_apart names (index_names elements) ≡ true
    → keeps_skips columns (filter_map (skip_of names) elements) ≡ true
skips_kept columns names elements are formed good few differ apart =
    let skips : List Skip = filter_map (skip_of names) elements in
    let as_many : length skips ≡ length (index_names elements) = sym (length-map skips (λ skip. skip.name)) ∙ ap length (skips_named names elements) in
    both_of _ _ (ap (λ n. nat_le n MAX_SKIPS) as_many ∙ few)
    (both_of _ _ (each_skip columns names elements are formed good)
    (both_of _ _ (ap names_differ (skips_named names elements) ∙ differ) (ap (are_apart (names_of columns)) (skips_named names elements) ∙ ap (λ n. are_apart n (index_names elements)) (sym are) ∙ apart)))
