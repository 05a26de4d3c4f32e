-- The cells of projections: one of some columns has no more than the rows, and one of aggregates holds no array.
use Rattle.std.proofs.Common.{◌≡◌, ℕ, zero, suc, ◌+◌, ◌*◌, ◌<◌, ◌≤◌, Bool, true, false, List, [], ◌∷◌, length, map, drop, get_or, refl, ap, sym, ◌∙◌, arith, inl, inr, lit<, ◌^◌}
use Rattle.std.specs.Prelude.{All, cond, not, nat_le, nat_lt, ◌==◌}
use Rattle.std.specs.List.{filter, list_any, range_with_len, sum_by}
use Rattle.std.proofs.lemmas.Bool.{cases_Bool, leb-true, leb-false, lt-ltb, le-ltb}
use Rattle.std.proofs.lemmas.List.{get_or_default, length-map, length-append}
use Rattle.std.proofs.lemmas.List.Elements.{All-head, All-tail, All-append, All-map, All-weaker}
use Rattle.std.proofs.lemmas.List.Sums.{sum_by-cons, sum_by-drop_more, length-filter, count_by-le-length}
use Rattle.std.proofs.lemmas.List.FromFn.{length-range_with_len}
use Rattle.std.proofs.lemmas.Nat.{mul-le}
use Rattle.mt_types.specs.declared.ty.Width.{Width}
use Rattle.mt_types.specs.declared.ty.Width.TheVariants.{W8, W16, W32, W64, W128}
use Rattle.mt_types.specs.declared.ty.Ty.{Ty, out-Ty}
use Rattle.mt_types.specs.declared.ty.Ty.TheOpen.{Ty-F}
use Rattle.mt_types.specs.declared.value.Value.{Value, map-Value, out-Value}
use Rattle.mt_types.specs.declared.value.Value.TheOpen.{Value-F}
use Rattle.mt_types.specs.declared.value.Value.TheFolds.{fold_out-Value}
use Rattle.mt_types.specs.declared.value.Value.TheVariants.{Null, State, outs-State}
use Rattle.mt_types.specs.Fits.{fits_of, natural_at, num_at, text_at}
use Rattle.mt_types.proofs.StepLemmas.{both_true}
use Rattle.mt_types.proofs.NumberLemmas.{fits_at}
use Rattle.mt_item.specs.ItemTypes.{is_scalar_at}
use Rattle.mt_table.specs.declared.definition.Table.{Table}
use Rattle.mt_table.specs.declared.limits.TheConstants.{MAX_CELLS, MAX_KEY}
use Rattle.mt_table.specs.Stored.{no_projection, projection_at}
use Rattle.mt_table.proofs.KeptLemmas.{key_length}
use Rattle.mt_table.specs.declared.projection.Aggregate.{Aggregate}
use Rattle.mt_table.specs.declared.projection.Projection.{Projection}
use Rattle.mt_table.specs.declared.projection.Projection.TheVariants.{Normal, Grouped}
use Rattle.mt_table.specs.ColumnTypes.{is_key_type}
use Rattle.mt_table.specs.Kept.{keeps_grouped, keeps_projection}
use Rattle.mt_table.specs.Rows.{cell_count, element_count, element_count_step}
use Rattle.mt_defs.specs.Folds.{fold_of}
use Rattle.mt_defs.specs.Lists.{distinct_by}
use Rattle.mt_defs.specs.Metadata.{column_at, no_column}
use Rattle.mt_defs.specs.Projections.{inner_of, is_same_key, state_column, stored_columns, with_key}
use Rattle.mt_defs.specs.Rows.{Row, RowFits, cell, key_of}
use Rattle.mt_defs.specs.Sorting.{sorted_rows}
use Rattle.mt_defs.specs.Writer.{folded_row, projection_rows}
use Rattle.mt_defs.proofs.Sorted.{All-sorted_rows, cell_count-sorted_rows, length-sorted_rows}
use Rattle.mt_defs.proofs.ListLemmas.{All-distinct_by, length-distinct_by}
use Rattle.mt_defs.proofs.RowLemmas.{cell_fits, row_length}
use Rattle.mt_meta.proofs.DefinitionLemmas.{HasColumn, key_columns, key_scalar}
use Rattle.mt_meta.proofs.InnerLemmas.{kept_grouped, projections_kept}
use Rattle.mt_command.specs.Targets.{has_many_cells}

-- ---- projections of some columns

-- some elements of a list have no more than all
chosen_least : {X : Type 0} (g : X → ℕ) (keep : ℕ → Bool) (xs : List X) (d : X) (a n : ℕ) → a + n ≤ length xs → sum_by g (map (λ i. get_or xs i d) (filter keep (range_with_len a n))) ≤ sum_by g (drop a xs)
chosen_least g keep xs d a zero within = omega arith
chosen_least g keep xs d a (suc n) within =
    let rest = map (λ i. get_or xs i d) (filter keep (range_with_len (a + 1) n)) in
    let later = chosen_least g keep xs d (a + 1) n (omega (arith, within)) in
    let here = sum_by-drop_more g xs a d (omega (arith, within)) in
    let one = sum_by-cons g (get_or xs a d) rest in
    elim (keep a) as (λ b. sum_by g (map (λ i. get_or xs i d) (cond b (a ∷ filter keep (range_with_len (a + 1) n)) (filter keep (range_with_len (a + 1) n)))) ≤ sum_by g (drop a xs)) [
      | true ↦ omega (arith, later, here, one)
      | false ↦ omega (arith, later, here)
    ]

-- the elements of a row's stored values
fewer_elements : (table : Table) (chosen : List ℕ) (row : Row) → RowFits table.columns row → sum_by element_count (key_of (stored_columns table chosen) row) ≤ sum_by element_count row
fewer_elements table chosen row fits =
    let long = row_length table.columns row fits in
    chosen_least element_count (λ i. list_any (λ j. j == i) chosen) row Null 0 (length table.columns) (omega (arith, long))

fewer_in_rows : (table : Table) (chosen : List ℕ) (rows : List Row) → All (RowFits table.columns) rows
    → sum_by (λ row. sum_by element_count row) (map (key_of (stored_columns table chosen)) rows) ≤ sum_by (λ row. sum_by element_count row) rows
fewer_in_rows table chosen [] fit = omega arith
fewer_in_rows table chosen (row ∷ rows) fit =
    let f : Row → ℕ = λ row. sum_by element_count row in
    let stored = key_of (stored_columns table chosen) in
    let here = fewer_elements table chosen row (All-head (RowFits table.columns) row rows fit) in
    let later = fewer_in_rows table chosen rows (All-tail (RowFits table.columns) row rows fit) in
    let left = sum_by-cons f (stored row) (map stored rows) in
    let right = sum_by-cons f row rows in
    omega (arith, here, later, left, right)

pub normal_cells : (table : Table) (name chosen sort : List ℕ) (rows : List Row) → All (RowFits table.columns) rows
    → cell_count (inner_of table (Normal name chosen sort)).columns (projection_rows table (Normal name chosen sort) rows) ≤ cell_count table.columns rows
normal_cells table name chosen sort rows fit =
    let stored = stored_columns table chosen in
    let columns = map (column_at table.columns) stored in
    let selected = map (key_of stored) rows in
    let same = cell_count-sorted_rows columns (inner_of table (Normal name chosen sort)).sort selected in
    let elements = fewer_in_rows table chosen rows fit in
    let keep : ℕ → Bool = λ i. list_any (λ j. j == i) chosen in
    let kept = length-filter keep (range_with_len 0 (length table.columns)) in
    let most = count_by-le-length keep (range_with_len 0 (length table.columns)) in
    let all = length-range_with_len 0 (length table.columns) in
    let width = length-map stored (column_at table.columns) in
    let count = length-map rows (key_of stored) in
    let product = mul-le (length selected) (length columns) (length rows) (length table.columns) (omega (arith, count)) (omega (arith, width, kept, most, all)) in
    omega (arith, same, elements, product)

-- ---- projections of aggregates

-- a value that is no list has no elements
abbrev is_list_at : Value-F Value → Bool
is_list_at (Value-F.List items) = true
is_list_at _ = false

no_elements : (value : Value) (level : Value-F Value) → out-Value value ≡ level → is_list_at level ≡ false → element_count value ≡ 0
no_elements value (Value-F.Num n) is e = fold_out-Value ℕ element_count_step value ∙ ap (λ l. element_count_step (map-Value Value ℕ element_count l)) is
no_elements value (Value-F.Huge n) is e = fold_out-Value ℕ element_count_step value ∙ ap (λ l. element_count_step (map-Value Value ℕ element_count l)) is
no_elements value (Value-F.Text bytes) is e = fold_out-Value ℕ element_count_step value ∙ ap (λ l. element_count_step (map-Value Value ℕ element_count l)) is
no_elements value Value-F.Null is e = fold_out-Value ℕ element_count_step value ∙ ap (λ l. element_count_step (map-Value Value ℕ element_count l)) is
no_elements value (Value-F.State s) is e = fold_out-Value ℕ element_count_step value ∙ ap (λ l. element_count_step (map-Value Value ℕ element_count l)) is
no_elements value (Value-F.List items) is e = cc

num_no_list : (test : _) (level : Value-F Value) → num_at test level ≡ true → is_list_at level ≡ false
num_no_list test (Value-F.Num n) e = refl
num_no_list test (Value-F.Huge n) e = refl
num_no_list test (Value-F.Text bytes) e = refl
num_no_list test Value-F.Null e = refl
num_no_list test (Value-F.State s) e = refl
num_no_list test (Value-F.List items) e = cc

natural_no_list : (width : Width) (level : Value-F Value) → natural_at width level ≡ true → is_list_at level ≡ false
natural_no_list W8 (Value-F.List items) e = cc
natural_no_list W16 (Value-F.List items) e = cc
natural_no_list W32 (Value-F.List items) e = cc
natural_no_list W64 (Value-F.List items) e = cc
natural_no_list W128 (Value-F.List items) e = cc
natural_no_list width _ e = refl

text_no_list : (test : _) (level : Value-F Value) → text_at test level ≡ true → is_list_at level ≡ false
text_no_list test (Value-F.Num n) e = refl
text_no_list test (Value-F.Huge n) e = refl
text_no_list test (Value-F.Text bytes) e = refl
text_no_list test Value-F.Null e = refl
text_no_list test (Value-F.State s) e = refl
text_no_list test (Value-F.List items) e = cc

-- a value of a scalar type is no list
scalar_no_list : (ty : Ty) (level : Ty-F Ty) (value : Value) → out-Ty ty ≡ level → is_scalar_at level ≡ true → fits_of ty value ≡ true → is_list_at (out-Value value) ≡ false
scalar_no_list ty (Ty-F.UInt width) value is e fits = natural_no_list width (out-Value value) (sym (ap (λ f. f value) (fits_at ty (Ty-F.UInt width) is)) ∙ fits)
scalar_no_list ty (Ty-F.Int width) value is e fits = num_no_list _ (out-Value value) (sym (ap (λ f. f value) (fits_at ty (Ty-F.Int width) is)) ∙ fits)
scalar_no_list ty Ty-F.Date value is e fits = num_no_list _ (out-Value value) (sym (ap (λ f. f value) (fits_at ty Ty-F.Date is)) ∙ fits)
scalar_no_list ty Ty-F.Moment value is e fits = num_no_list _ (out-Value value) (sym (ap (λ f. f value) (fits_at ty Ty-F.Moment is)) ∙ fits)
scalar_no_list ty (Ty-F.FixedString size) value is e fits = text_no_list _ (out-Value value) (sym (ap (λ f. f value) (fits_at ty (Ty-F.FixedString size) is)) ∙ fits)
scalar_no_list ty Ty-F.Str value is e fits = text_no_list _ (out-Value value) (sym (ap (λ f. f value) (fits_at ty Ty-F.Str is)) ∙ fits)
scalar_no_list ty (Ty-F.Nullable inner) value is e fits = cc
scalar_no_list ty (Ty-F.Array inner) value is e fits = cc
scalar_no_list ty (Ty-F.State agg inner) value is e fits = cc
scalar_no_list ty Ty-F.CountState value is e fits = cc

abbrev HasNone : Value → Type 0
HasNone value = element_count value ≡ 0

none_in : (values : List Value) → All HasNone values → sum_by element_count values ≡ 0
none_in [] all = refl
none_in (value ∷ values) all =
    let here = All-head HasNone value values all in
    let later = none_in values (All-tail HasNone value values all) in
    let one = sum_by-cons element_count value values in
    omega (arith, here, later, one)

key_none : (table : Table) (keys : List ℕ) (row : Row) → All (HasColumn is_key_type table.columns) keys → RowFits table.columns row → All HasNone (key_of keys row)
key_none table keys row has fits =
    All-map HasNone (cell row) keys (All-weaker (HasColumn is_key_type table.columns) (λ i. HasNone (cell row i)) (λ i here.
    let ty = (column_at table.columns i).ty in
    no_elements (cell row i) (out-Value (cell row i)) refl (scalar_no_list ty (out-Ty ty) (cell row i) refl (key_scalar ty here.passes) (cell_fits table.columns row i no_column fits here.known))) keys has)

states_none : (rows : List Row) (aggs : List Aggregate) → All HasNone (map (λ aggregate. State (fold_of rows aggregate)) aggs)
states_none rows aggs = All-map HasNone (λ aggregate. State (fold_of rows aggregate)) aggs (λ k d h. no_elements (State (fold_of rows _)) (Value-F.State (fold_of rows _)) (outs-State (fold_of rows _)) refl)

-- rows without arrays
no_arrays : (rows : List Row) → All (All HasNone) rows → sum_by (λ row. sum_by element_count row) rows ≡ 0
no_arrays [] all = refl
no_arrays (row ∷ rows) all =
    let here = none_in row (All-head (All HasNone) row rows all) in
    let later = no_arrays rows (All-tail (All HasNone) row rows all) in
    let one = sum_by-cons (λ (row : Row). sum_by element_count row) row rows in
    omega (arith, here, later, one)

pub grouped_cells : (table : Table) (name keys : List ℕ) (aggs : List Aggregate) (rows : List Row) → keeps_grouped table.columns keys aggs ≡ true → All (RowFits table.columns) rows
    → cell_count (inner_of table (Grouped name keys aggs)).columns (projection_rows table (Grouped name keys aggs) rows) ≡ length (projection_rows table (Grouped name keys aggs) rows) * (length keys + length aggs)
grouped_cells table name keys aggs rows keeps fit =
    let kept = kept_grouped table.columns keys aggs keeps in
    let has = key_columns table.columns keys kept.key in
    let sorted = sorted_rows keys rows in
    let found : List (List Value) = distinct_by is_same_key (map (key_of keys) sorted) in
    let stored : List Row = projection_rows table (Grouped name keys aggs) rows in
    let Q : List Value → Type 0 = All HasNone in
    let keys_none : All Q found = All-distinct_by Q is_same_key (map (key_of keys) sorted)
    (All-map Q (key_of keys) sorted (All-weaker (RowFits table.columns) (λ row. Q (key_of keys row)) (λ row fits. key_none table keys row has fits) sorted (All-sorted_rows (RowFits table.columns) keys rows fit))) in
    let rows_none : All Q stored = All-map Q (folded_row (Grouped name keys aggs) rows) found
    (All-weaker Q (λ key. Q (folded_row (Grouped name keys aggs) rows key)) (λ key none. All-append HasNone key (map (λ aggregate. State (fold_of (with_key keys key rows) aggregate)) aggs) none (states_none (with_key keys key rows) aggs)) found keys_none) in
    let none = no_arrays stored rows_none in
    let firsts = length-map keys (column_at table.columns) in
    let lasts = length-map aggs (state_column table) in
    let both = length-append (map (column_at table.columns) keys) (map (state_column table) aggs) in
    let width : length (inner_of table (Grouped name keys aggs)).columns ≡ length keys + length aggs = omega (arith, firsts, lasts, both) in
    ap (λ n. length stored * length (inner_of table (Grouped name keys aggs)).columns + n) none ∙ ap (λ n. length stored * n + 0) width ∙ plus_none (length stored * (length keys + length aggs))
  where
    plus_none : (n : ℕ) → n + 0 ≡ n
    plus_none n = omega arith

pub grouped_rows : (table : Table) (name keys : List ℕ) (aggs : List Aggregate) (rows : List Row) → length (projection_rows table (Grouped name keys aggs) rows) ≤ length rows
grouped_rows table name keys aggs rows =
    let sorted = sorted_rows keys rows in
    let found : List (List Value) = distinct_by is_same_key (map (key_of keys) sorted) in
    let one = length-map found (folded_row (Grouped name keys aggs) rows) in
    let two = length-distinct_by is_same_key (map (key_of keys) sorted) in
    let three = length-map sorted (key_of keys) in
    let four = length-sorted_rows keys rows in
    omega (arith, one, two, three, four)

-- ---- what the code decides

few_test : (n : ℕ) → n ≤ MAX_CELLS → nat_lt MAX_CELLS n ≡ false
few_test n few = le-ltb MAX_CELLS n few

-- a projection of some columns is within the limit, as the rows are
pub normal_few : (table : Table) (name chosen sort : List ℕ) (rows : List Row) → All (RowFits table.columns) rows → cell_count table.columns rows ≤ MAX_CELLS → has_many_cells table rows (Normal name chosen sort) ≡ false
normal_few table name chosen sort rows fit few =
    let cells = normal_cells table name chosen sort rows fit in
    few_test _ (omega (arith, cells, few))

-- so is one of aggregates where the rows were few enough to be stored one by one
pub grouped_few : (table : Table) (name keys : List ℕ) (aggs : List Aggregate) (rows : List Row) → keeps_grouped table.columns keys aggs ≡ true → All (RowFits table.columns) rows
    → length rows * (length keys + length aggs) ≤ MAX_CELLS → has_many_cells table rows (Grouped name keys aggs) ≡ false
grouped_few table name keys aggs rows keeps fit few =
    let cells = grouped_cells table name keys aggs rows keeps fit in
    let rows_few = grouped_rows table name keys aggs rows in
    let width = length keys + length aggs in
    let product = mul-le (length (projection_rows table (Grouped name keys aggs) rows)) width (length rows) width rows_few (omega arith) in
    few_test _ (omega (arith, cells, product, few))

-- the test of its own rows
pub grouped_many : (table : Table) (name keys : List ℕ) (aggs : List Aggregate) (rows : List Row) (few : Bool) → keeps_grouped table.columns keys aggs ≡ true → All (RowFits table.columns) rows
    → few ≡ nat_le (length (projection_rows table (Grouped name keys aggs) rows) * (length keys + length aggs)) MAX_CELLS → not few ≡ has_many_cells table rows (Grouped name keys aggs)
grouped_many table name keys aggs rows few keeps fit is =
    let cells = grouped_cells table name keys aggs rows keeps fit in
    ap not is ∙ other _ MAX_CELLS ∙ ap (λ n. nat_lt MAX_CELLS n) (sym cells)
  where
    other : (m n : ℕ) → not (nat_le m n) ≡ nat_lt n m
    other m n = elim (cases_Bool (nat_le m n)) [
      | inl low ↦ ap not low ∙ sym (le-ltb n m (leb-true m n low))
      | inr high ↦ ap not high ∙ sym (lt-ltb n m (leb-false m n high))
    ]

-- ---- projections where code reads them

pub record IsAt (table : Table) (place : ℕ) (projection : Projection) : Type 0 where
  pub same : projection_at table place ≡ projection
  pub kept : keeps_projection table.columns projection ≡ true

pub read_at : (table : Table) (slice : List Projection) (place : ℕ) (read projection : Projection) → slice ≡ table.projections → place < length table.projections → read ≡ get_or slice place read → read ≡ projection → IsAt table place projection
read_at table slice place read projection whole there at is =
    let found : read ≡ projection_at table place = at ∙ ap (λ (l : List Projection). get_or l place read) whole ∙ get_or_default table.projections place read no_projection there in
    let same : projection_at table place ≡ projection = sym found ∙ is in
    record { same = same; kept = ap (keeps_projection table.columns) (sym same) ∙ projections_kept table place no_projection there }

-- the columns of an aggregate projection are few
pub grouped_width : (table : Table) (place : ℕ) (name keys : List ℕ) (aggs : List Aggregate) → IsAt table place (Grouped name keys aggs) → length keys + length aggs < 2 ^ 64
grouped_width table place name keys aggs at =
    let kept = kept_grouped table.columns keys aggs (both_true _ (keeps_grouped table.columns keys aggs) at.kept).1 in
    let many = (key_length table.columns keys kept.key).1 in
    let few = kept.few in
    let limit = key_limit in
    omega (arith, many, few, limit)
  where
    key_limit : MAX_KEY + MAX_KEY < 2 ^ 64
    key_limit = lit< tt
