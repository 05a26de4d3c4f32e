-- The projections of a sentence that was judged keep the rules of a table.
use Rattle.std.proofs.Common.{◌≡◌, inl, inr, ℕ, zero, suc, ◌+◌, ◌<◌, ◌≤◌, arith, Bool, true, false, nat_eq, List, [], ◌∷◌, length, map, refl, ap, sym, ◌∙◌, subst}
use Rattle.std.specs.Prelude.{◌||◌, cond, not, nat_le, nat_lt, Option, Some, None}
use Rattle.std.specs.List.{count_by, filter_map, list_all, list_any, range_with_len}
use Rattle.std.specs.Str.{bytes_eq}
use Rattle.std.proofs.lemmas.Bool.{le-leb, or_left, or_right}
use Rattle.std.proofs.lemmas.Bool.Decides.{Decides-eqb, Decides-ltb, not_from_Decides}
use Rattle.std.proofs.lemmas.List.Sums.{sum_by-cons}
use Rattle.std.proofs.Math.Nat.{eq-or-lt_of_le}
use Rattle.std.proofs.lemmas.List.{length-map}
use Rattle.std.proofs.lemmas.Slice.Eq.{bytes_eq-Decides}
use Rattle.mt_types.specs.declared.ty.Agg.TheVariants.{Sum, Min, Max}
use Rattle.mt_types.proofs.StepLemmas.{both_of, both_true}
use Rattle.mt_types.specs.Words.{is_name}
use Rattle.mt_phrases.specs.declared.selection.Selected.{Selected}
use Rattle.mt_phrases.specs.declared.selection.Selected.TheVariants.{All, Items}
use Rattle.mt_phrases.specs.declared.selection.Selection.{Selection}
use Rattle.mt_phrases.specs.declared.selection.Selection.TheVariants as selection
use Rattle.mt_element_syntax.specs.declared.tree.Element.{Element}
use Rattle.mt_element_syntax.specs.declared.tree.Element.TheVariants as element
use Rattle.mt_element_syntax.specs.Formed.{has_one, has_one_given, is_formed_element}
use Rattle.mt_table.specs.declared.column.Column.{Column}
use Rattle.mt_table.specs.declared.limits.TheConstants.{MAX_KEY, MAX_PROJECTIONS}
use Rattle.mt_table.specs.declared.projection.Aggregate.{Aggregate}
use Rattle.mt_table.specs.declared.projection.Aggregate.TheVariants.{Count}
use Rattle.mt_table.specs.declared.projection.Projection.{Projection}
use Rattle.mt_types.specs.Numbers.{is_argument_type}
use Rattle.mt_table.specs.ColumnTypes.{is_integer_type}
use Rattle.mt_table.specs.Kept as kept
use Rattle.mt_table.specs.Kept.{is_one_of, is_place, keeps_aggregate, keeps_grouped, keeps_key, keeps_normal, keeps_projection, keeps_projections, max_place, min_place, name_of_projection, names_of, sum_place}
use Rattle.mt_table.specs.Names.{are_among, is_among, names_differ, places_differ}
use Rattle.mt_table_names.specs.Places.{aggregate_of, projection_in, projection_of, selected_places}
use Rattle.mt_table_rules.specs.Projections.{selections_differ, are_same, is_grouped_projection, is_key, is_normal, is_selection_over, is_projection, selects_key}
use Rattle.mt_table_names.specs.Present.{element_is_there, item_is_there, items_are_there}
use Rattle.mt_table_rules.specs.Rules.{has_few_aggregates, has_form, is_short, is_small_projection}
use Rattle.mt_table_names.specs.Sentence.{is_aggregate_selection, is_count_selection, item_column, max_column, min_column, names_or_none, place_in, places_in, projection_element_names, sum_column}
use Rattle.mt_table_text.proofs.ColumnsKept.{key_kept}
use Rattle.mt_table_text.proofs.PlacesDiffer.{differ_in, place_below, place_is_named, later_any}

-- ---- all places

other_first : (i a : ℕ) (rest : Bool) → i < a → rest ≡ false → (nat_eq i a || rest) ≡ false
other_first i a rest below none = by_test (nat_eq i a) refl
  where
    by_test : (b : Bool) → nat_eq i a ≡ b → (b || rest) ≡ false
    by_test true e = let same : i ≡ a = (Decides-eqb i a).0 e in absurd (omega (arith, below, same))
    by_test false e = none

from_none_below : (a n i : ℕ) → i < a → list_any (nat_eq i) (range_with_len a n) ≡ false
from_none_below a zero i h = refl
from_none_below a (suc n) i h = other_first i a (list_any (nat_eq i) (range_with_len (a + 1) n)) h (from_none_below (a + 1) n i (omega (arith, h)))

range_differs : (a n : ℕ) → places_differ (range_with_len a n) ≡ true
range_differs a zero = refl
range_differs a (suc n) = both_of _ _ (ap not (from_none_below (a + 1) n a (omega arith))) (range_differs (a + 1) n)

range_within : (a n count : ℕ) → a + n ≤ count → list_all (λ place. nat_lt place count) (range_with_len a n) ≡ true
range_within a zero count h = refl
range_within a (suc n) count h = both_of _ _ ((Decides-ltb a count).1 (omega (arith, h))) (range_within (a + 1) n count (omega (arith, h)))

first_or_later : (i a : ℕ) (rest : Bool) → a ≤ i → (a + 1 ≤ i → rest ≡ true) → (nat_eq i a || rest) ≡ true
first_or_later i a rest low later = by_test (nat_eq i a) refl
  where
    apart : nat_eq i a ≡ false → a + 1 ≤ i
    apart e = let differ : ¬ (i ≡ a) = not_from_Decides (nat_eq i a) (Decides-eqb i a) e in
        elim (eq-or-lt_of_le low) [ inl same ↦ absurd (differ (sym same)) | inr below ↦ omega (arith, below) ]

    by_test : (b : Bool) → nat_eq i a ≡ b → (b || rest) ≡ true
    by_test true e = refl
    by_test false e = later (apart e)

range_has : (a n i : ℕ) → a ≤ i → i < a + n → list_any (nat_eq i) (range_with_len a n) ≡ true
range_has a zero i low high = absurd (omega (arith, low, high))
range_has a (suc n) i low high = first_or_later i a (list_any (nat_eq i) (range_with_len (a + 1) n)) low (λ later. range_has (a + 1) n i later (omega (arith, high)))

-- ---- places of names that are there

places_within : (names list : List (List ℕ)) (count : ℕ) → length names ≡ count → are_among names list ≡ true → list_all (λ place. nat_lt place count) (places_in names list) ≡ true
places_within names [] count are among = refl
places_within names (name ∷ list) count are among =
    let parts = both_true (is_among names name) (are_among names list) among in
    both_of _ _ ((Decides-ltb (place_in names name) count).1 (subst (λ n. place_in names name < n) are (place_below names name parts.0))) (places_within names list count are parts.1)

same_or_later : (names : List (List ℕ)) (name other : List ℕ) (rest : Bool) → (bytes_eq name other ≡ false → rest ≡ true) → (nat_eq (place_in names name) (place_in names other) || rest) ≡ true
same_or_later names name other rest later = by_test (bytes_eq name other) refl
  where
    by_test : (b : Bool) → bytes_eq name other ≡ b → (nat_eq (place_in names name) (place_in names other) || rest) ≡ true
    by_test true e = or_left (nat_eq (place_in names name) (place_in names other)) rest ((Decides-eqb (place_in names name) (place_in names other)).1 (ap (place_in names) ((bytes_eq-Decides name other).0 e)))
    by_test false e = or_right (nat_eq (place_in names name) (place_in names other)) rest (later e)

one_of_places : (names list : List (List ℕ)) (name : List ℕ) → is_among list name ≡ true → is_one_of (places_in names list) (place_in names name) ≡ true
one_of_places names [] name among = among
one_of_places names (other ∷ list) name among =
    same_or_later names name other (is_one_of (places_in names list) (place_in names name))
    (λ e. one_of_places names list name (later_any (bytes_eq name other) (is_among list name) among e))

all_of_places : (names list some : List (List ℕ)) → are_among list some ≡ true → list_all (is_one_of (places_in names list)) (places_in names some) ≡ true
all_of_places names list [] among = refl
all_of_places names list (name ∷ some) among =
    let parts = both_true (is_among list name) (are_among list some) among in
    both_of _ _ (one_of_places names list name parts.0) (all_of_places names list some parts.1)

all_of_range : (names some : List (List ℕ)) → are_among names some ≡ true → list_all (is_one_of (range_with_len 0 (length names))) (places_in names some) ≡ true
all_of_range names [] among = refl
all_of_range names (name ∷ some) among =
    let parts = both_true (is_among names name) (are_among names some) among in
    let below = place_below names name parts.0 in
    both_of _ _ (range_has 0 (length names) (place_in names name) (omega arith) (omega (arith, below))) (all_of_range names some parts.1)

-- ---- normal projections

columns_there : (names : List (List ℕ)) (items : List Selection) → list_all (item_is_there names) items ≡ true → are_among names (filter_map item_column items) ≡ true
columns_there names [] there = refl
columns_there names (selection.Column name ∷ items) there = let parts = both_true (is_among names name) _ there in both_of _ _ parts.0 (columns_there names items parts.1)
columns_there names (selection.Count ∷ items) there = columns_there names items there
columns_there names (selection.Of agg name ∷ items) there = columns_there names items (both_true (is_among names name) _ there).1

normal_kept : (columns : List Column) (names : List (List ℕ)) (items : Selected) (sort : List (List ℕ)) → names ≡ names_of columns → length names ≡ length columns → items_are_there names items ≡ true → are_among names sort ≡ true
    → has_one sort ≡ true → is_short sort ≡ true → is_normal columns items sort ≡ true → keeps_normal columns (selected_places names items) (places_in names sort) ≡ true
normal_kept columns names All sort are count there among some short normal =
    both_of _ _ (both_of _ _ (range_differs 0 (length names)) (range_within 0 (length names) (length columns) (omega (arith, count))))
    (both_of _ _ (all_of_range names sort among) (key_kept columns names sort are (both_true true (is_key columns sort) normal).1 among some short))
normal_kept columns names (Items items) sort are count there among some short normal =
    let parts = both_true (selects_key items sort) (is_key columns sort) normal in
    let plain : List (List ℕ) = filter_map item_column items in
    let selects = both_true (not (list_any is_aggregate_selection items)) _ parts.0 in
    let two = both_true (names_differ plain) (are_among plain sort) selects.1 in
    let plain_there = columns_there names items there in
    both_of _ _ (both_of _ _ (differ_in names plain two.0 plain_there) (places_within names plain (length columns) count plain_there))
    (both_of _ _ (all_of_places names plain sort two.1) (key_kept columns names sort are parts.1 among some short))

-- ---- aggregate projections

count_by_cons : {A : Type 0} (test : A → Bool) (x : A) (xs : List A) → count_by test (x ∷ xs) ≡ cond (test x) 1 0 + count_by test xs
count_by_cons test x xs = sum_by-cons (λ y. cond (test y) 1 0) x xs

sums_there : (names : List (List ℕ)) (items : List Selection) → list_all (item_is_there names) items ≡ true → are_among names (filter_map sum_column items) ≡ true
sums_there names [] there = refl
sums_there names (selection.Column name ∷ items) there = sums_there names items (both_true (is_among names name) _ there).1
sums_there names (selection.Count ∷ items) there = sums_there names items there
sums_there names (selection.Of Sum name ∷ items) there = let parts = both_true (is_among names name) _ there in both_of _ _ parts.0 (sums_there names items parts.1)
sums_there names (selection.Of Min name ∷ items) there = sums_there names items (both_true (is_among names name) _ there).1
sums_there names (selection.Of Max name ∷ items) there = sums_there names items (both_true (is_among names name) _ there).1

mins_there : (names : List (List ℕ)) (items : List Selection) → list_all (item_is_there names) items ≡ true → are_among names (filter_map min_column items) ≡ true
mins_there names [] there = refl
mins_there names (selection.Column name ∷ items) there = mins_there names items (both_true (is_among names name) _ there).1
mins_there names (selection.Count ∷ items) there = mins_there names items there
mins_there names (selection.Of Sum name ∷ items) there = mins_there names items (both_true (is_among names name) _ there).1
mins_there names (selection.Of Min name ∷ items) there = let parts = both_true (is_among names name) _ there in both_of _ _ parts.0 (mins_there names items parts.1)
mins_there names (selection.Of Max name ∷ items) there = mins_there names items (both_true (is_among names name) _ there).1

maxs_there : (names : List (List ℕ)) (items : List Selection) → list_all (item_is_there names) items ≡ true → are_among names (filter_map max_column items) ≡ true
maxs_there names [] there = refl
maxs_there names (selection.Column name ∷ items) there = maxs_there names items (both_true (is_among names name) _ there).1
maxs_there names (selection.Count ∷ items) there = maxs_there names items there
maxs_there names (selection.Of Sum name ∷ items) there = maxs_there names items (both_true (is_among names name) _ there).1
maxs_there names (selection.Of Min name ∷ items) there = maxs_there names items (both_true (is_among names name) _ there).1
maxs_there names (selection.Of Max name ∷ items) there = let parts = both_true (is_among names name) _ there in both_of _ _ parts.0 (maxs_there names items parts.1)

sum_places : (names : List (List ℕ)) (items : List Selection) → filter_map sum_place (filter_map (aggregate_of names) items) ≡ places_in names (filter_map sum_column items)
sum_places names [] = refl
sum_places names (selection.Column name ∷ items) = sum_places names items
sum_places names (selection.Count ∷ items) = sum_places names items
sum_places names (selection.Of Sum name ∷ items) = ap (λ places. place_in names name ∷ places) (sum_places names items)
sum_places names (selection.Of Min name ∷ items) = sum_places names items
sum_places names (selection.Of Max name ∷ items) = sum_places names items

min_places : (names : List (List ℕ)) (items : List Selection) → filter_map min_place (filter_map (aggregate_of names) items) ≡ places_in names (filter_map min_column items)
min_places names [] = refl
min_places names (selection.Column name ∷ items) = min_places names items
min_places names (selection.Count ∷ items) = min_places names items
min_places names (selection.Of Sum name ∷ items) = min_places names items
min_places names (selection.Of Min name ∷ items) = ap (λ places. place_in names name ∷ places) (min_places names items)
min_places names (selection.Of Max name ∷ items) = min_places names items

max_places : (names : List (List ℕ)) (items : List Selection) → filter_map max_place (filter_map (aggregate_of names) items) ≡ places_in names (filter_map max_column items)
max_places names [] = refl
max_places names (selection.Column name ∷ items) = max_places names items
max_places names (selection.Count ∷ items) = max_places names items
max_places names (selection.Of Sum name ∷ items) = max_places names items
max_places names (selection.Of Min name ∷ items) = max_places names items
max_places names (selection.Of Max name ∷ items) = ap (λ places. place_in names name ∷ places) (max_places names items)

counts_same : (names : List (List ℕ)) (items : List Selection) → count_by kept.is_count_aggregate (filter_map (aggregate_of names) items) ≡ count_by is_count_selection items
counts_same names [] = refl
counts_same names (selection.Column name ∷ items) = counts_same names items
counts_same names (selection.Count ∷ items) =
    let aggregates : List Aggregate = filter_map (aggregate_of names) items in
    count_by_cons kept.is_count_aggregate Count aggregates ∙ ap (λ n. 1 + n) (counts_same names items) ∙ sym (count_by_cons is_count_selection selection.Count items)
counts_same names (selection.Of agg name ∷ items) = counts_same names items

one_more : (n : ℕ) → suc n ≡ 1 + n
one_more n = omega arith

aggregate_count : (names : List (List ℕ)) (items : List Selection) → length (filter_map (aggregate_of names) items) ≡ count_by is_aggregate_selection items
aggregate_count names [] = refl
aggregate_count names (selection.Column name ∷ items) = aggregate_count names items
aggregate_count names (selection.Count ∷ items) =
    one_more (length (filter_map (aggregate_of names) items)) ∙ ap (λ n. 1 + n) (aggregate_count names items) ∙ sym (count_by_cons is_aggregate_selection selection.Count items)
aggregate_count names (selection.Of agg name ∷ items) =
    one_more (length (filter_map (aggregate_of names) items)) ∙ ap (λ n. 1 + n) (aggregate_count names items) ∙ sym (count_by_cons is_aggregate_selection (selection.Of agg name) items)

some_aggregate : (names : List (List ℕ)) (items : List Selection) → list_any is_aggregate_selection items ≡ true → 1 ≤ length (filter_map (aggregate_of names) items)
some_aggregate names [] any = cc
some_aggregate names (selection.Column name ∷ items) any = some_aggregate names items any
some_aggregate names (selection.Count ∷ items) any = omega arith
some_aggregate names (selection.Of agg name ∷ items) any = omega arith

each_aggregate : (columns : List Column) (names : List (List ℕ)) (items : List Selection) → names ≡ names_of columns → list_all (is_selection_over columns) items ≡ true → list_all (keeps_aggregate columns) (filter_map (aggregate_of names) items) ≡ true
each_aggregate columns names [] are over = refl
each_aggregate columns names (selection.Column name ∷ items) are over = each_aggregate columns names items are over
each_aggregate columns names (selection.Count ∷ items) are over = each_aggregate columns names items are over
each_aggregate columns names (selection.Of Sum name ∷ items) are over =
    let parts = both_true (is_selection_over columns (selection.Of Sum name)) _ over in
    both_of _ _ (place_is_named is_integer_type columns names name are ∙ parts.0) (each_aggregate columns names items are parts.1)
each_aggregate columns names (selection.Of Min name ∷ items) are over =
    let parts = both_true (is_selection_over columns (selection.Of Min name)) _ over in
    both_of _ _ (place_is_named is_argument_type columns names name are ∙ parts.0) (each_aggregate columns names items are parts.1)
each_aggregate columns names (selection.Of Max name ∷ items) are over =
    let parts = both_true (is_selection_over columns (selection.Of Max name)) _ over in
    both_of _ _ (place_is_named is_argument_type columns names name are ∙ parts.0) (each_aggregate columns names items are parts.1)

aggregates_kept : (names : List (List ℕ)) (items : List Selection) → list_all (item_is_there names) items ≡ true → selections_differ items ≡ true → kept.aggregates_differ (filter_map (aggregate_of names) items) ≡ true
aggregates_kept names items there differ =
    let one = both_true (nat_le (count_by is_count_selection items) 1) _ differ in
    let two = both_true (names_differ (filter_map sum_column items)) _ one.1 in
    let three = both_true (names_differ (filter_map min_column items)) (names_differ (filter_map max_column items)) two.1 in
    both_of _ _ (ap (λ n. nat_le n 1) (counts_same names items) ∙ one.0)
    (both_of _ _ (ap places_differ (sum_places names items) ∙ differ_in names (filter_map sum_column items) two.0 (sums_there names items there))
    (both_of _ _ (ap places_differ (min_places names items) ∙ differ_in names (filter_map min_column items) three.0 (mins_there names items there))
    (ap places_differ (max_places names items) ∙ differ_in names (filter_map max_column items) three.1 (maxs_there names items there))))

grouped_kept : (columns : List Column) (names : List (List ℕ)) (items : List Selection) (keys : List (List ℕ)) → names ≡ names_of columns → list_all (item_is_there names) items ≡ true → are_among names keys ≡ true
    → has_one keys ≡ true → is_short keys ≡ true → nat_le (count_by is_aggregate_selection items) MAX_KEY ≡ true → is_grouped_projection columns items keys ≡ true → keeps_grouped columns (places_in names keys) (filter_map (aggregate_of names) items) ≡ true
grouped_kept columns names items keys are there among some short few grouped =
    let one = both_true (is_key columns keys) _ grouped in
    let two = both_true (are_same (filter_map item_column items) keys) _ one.1 in
    let three = both_true (list_any is_aggregate_selection items) _ two.1 in
    let four = both_true (selections_differ items) (list_all (is_selection_over columns) items) three.1 in
    both_of _ _ (key_kept columns names keys are one.0 among some short)
    (both_of _ _ (both_of _ _ (le-leb 1 _ (some_aggregate names items three.0)) (ap (λ n. nat_le n MAX_KEY) (aggregate_count names items) ∙ few))
    (both_of _ _ (aggregates_kept names items there four.0) (each_aggregate columns names items are four.1)))

-- ---- both

no : false ≡ true → ⊥
no e = cc

projection_kept : (columns : List Column) (names : List (List ℕ)) (name : List ℕ) (items : Selected) (group order : Option (List (List ℕ))) → names ≡ names_of columns → length names ≡ length columns → is_name name ≡ true
    → items_are_there names items ≡ true → are_among names (names_or_none group) ≡ true → are_among names (names_or_none order) ≡ true → has_one_given group ≡ true → has_one_given order ≡ true
    → has_few_aggregates items ≡ true → is_short (names_or_none group) ≡ true → is_short (names_or_none order) ≡ true → is_projection columns items group order ≡ true
    → keeps_projection columns (projection_of names name items group order) ≡ true
projection_kept columns names name items None (Some sort) are count named there in_group in_order some_group some_order few short_group short_order form =
    both_of _ _ named (normal_kept columns names items sort are count there in_order some_order short_order form)
projection_kept columns names name (Items items) (Some keys) None are count named there in_group in_order some_group some_order few short_group short_order form =
    both_of _ _ named (grouped_kept columns names items keys are there in_group some_group short_group few form)
projection_kept columns names name items None None are count named there in_group in_order some_group some_order few short_group short_order form = cc
projection_kept columns names name All (Some keys) None are count named there in_group in_order some_group some_order few short_group short_order form = cc
projection_kept columns names name All (Some keys) (Some sort) are count named there in_group in_order some_group some_order few short_group short_order form = absurd (no form)
projection_kept columns names name (Items items) (Some keys) (Some sort) are count named there in_group in_order some_group some_order few short_group short_order form = absurd (no form)

projections_named : (names : List (List ℕ)) (elements : List Element) → map name_of_projection (filter_map (projection_in names) elements) ≡ projection_element_names elements
projections_named names [] = refl
projections_named names (element.Column name ty codecs ∷ elements) = projections_named names elements
projections_named names (element.Index name column kind granularity ∷ elements) = projections_named names elements
projections_named names (element.Projection name items (Some keys) order ∷ elements) = ap (λ list. name ∷ list) (projections_named names elements)
projections_named names (element.Projection name items None order ∷ elements) = ap (λ list. name ∷ list) (projections_named names elements)

each_projection : (columns : List Column) (names : List (List ℕ)) (elements : List Element) → names ≡ names_of columns → length names ≡ length columns → list_all is_formed_element elements ≡ true
    → list_all (element_is_there names) elements ≡ true → list_all (has_form columns) elements ≡ true → list_all is_small_projection elements ≡ true → list_all (keeps_projection columns) (filter_map (projection_in names) elements) ≡ true
each_projection columns names [] are count formed there forms small = refl
each_projection columns names (element.Column name ty codecs ∷ elements) are count formed there forms small =
    each_projection columns names elements are count (both_true (is_name name) _ formed).1 there forms small
each_projection columns names (element.Index name column kind granularity ∷ elements) are count formed there forms small =
    each_projection columns names elements are count (both_true (is_name name) _ formed).1 (both_true (is_among names column) _ there).1 forms small
each_projection columns names (element.Projection name items group order ∷ elements) are count formed there forms small =
    let f = both_true (is_formed_element (element.Projection name items group order)) (list_all is_formed_element elements) formed in
    let named = both_true (is_name name) _ f.0 in
    let some = both_true (has_one_given group) (has_one_given order) named.1 in
    let t = both_true (element_is_there names (element.Projection name items group order)) (list_all (element_is_there names) elements) there in
    let t_items = both_true (items_are_there names items) _ t.0 in
    let t_keys = both_true (are_among names (names_or_none group)) (are_among names (names_or_none order)) t_items.1 in
    let g = both_true (is_projection columns items group order) (list_all (has_form columns) elements) forms in
    let s = both_true (is_small_projection (element.Projection name items group order)) (list_all is_small_projection elements) small in
    let s_items = both_true (has_few_aggregates items) _ s.0 in
    let s_keys = both_true (is_short (names_or_none group)) (is_short (names_or_none order)) s_items.1 in
    both_of _ _ (projection_kept columns names name items group order are count named.0 t_items.0 t_keys.0 t_keys.1 some.0 some.1 s_items.0 s_keys.0 s_keys.1 g.0)
    (each_projection columns names elements are count f.1 t.1 g.1 s.1)

pub projections_kept : (columns : List Column) (names : List (List ℕ)) (elements : List Element) → names ≡ names_of columns → list_all is_formed_element elements ≡ true
    → list_all (element_is_there names) elements ≡ true → list_all (has_form columns) elements ≡ true → list_all is_small_projection elements ≡ true
    → nat_le (length (projection_element_names elements)) MAX_PROJECTIONS ≡ true → names_differ (projection_element_names elements) ≡ true → keeps_projections columns (filter_map (projection_in names) elements) ≡ true
projections_kept columns names elements are formed there forms small few differ =
    let projections : List Projection = filter_map (projection_in names) elements in
    let as_many : length projections ≡ length (projection_element_names elements) = sym (length-map projections name_of_projection) ∙ ap length (projections_named names elements) in
    let count : length names ≡ length columns = ap length are ∙ length-map columns (λ column. column.name) in
    both_of _ _ (ap (λ n. nat_le n MAX_PROJECTIONS) as_many ∙ few)
    (both_of _ _ (each_projection columns names elements are count formed there forms small) (ap names_differ (projections_named names elements) ∙ differ))
