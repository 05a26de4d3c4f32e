-- Places of columns that projections store.
use Rattle.std.proofs.Common.{◌≡◌, ℕ, zero, suc, ◌+◌, ◌<◌, ◌≤◌, arith, Bool, true, false, nat_lt, List, [], ◌∷◌, ◌++◌, length, refl, ap, sym, ◌∙◌, get_or}
use Rattle.std.specs.Prelude.{◌&&◌, ◌==◌, cond, filter, nat_le}
use Rattle.std.proofs.lemmas.List.{get_or_default}
use Rattle.std.specs.List.{list_all, list_any, range_with_len}
use Rattle.std.proofs.lemmas.Bool.{leb-true, ltb-true, lt-ltb}
use Rattle.std.proofs.lemmas.List.Elements.{filter-append}
use Rattle.std.proofs.lemmas.List.Folds.{list_all_at}
use Rattle.std.proofs.lemmas.List.Sums.{length-filter, count_by-le-length}
use Rattle.std.proofs.lemmas.List.FromFn.{length-range_with_len}
use Rattle.mt_types.specs.declared.ty.Ty.{Ty}
use Rattle.mt_types.specs.Words.{is_name}
use Rattle.mt_types.proofs.StepLemmas.{both_of, both_true}
use Rattle.mt_table.specs.declared.column.Column.{Column}
use Rattle.mt_table.specs.declared.definition.Table.{Table}
use Rattle.mt_table.specs.declared.projection.Projection.{Projection}
use Rattle.mt_table.specs.declared.projection.Projection.TheVariants.{Normal, Grouped}
use Rattle.mt_table.specs.declared.projection.Aggregate.{Aggregate}
use Rattle.mt_table.specs.declared.projection.Aggregate.TheVariants.{Count}
use Rattle.mt_table.specs.declared.limits.TheConstants.{MAX_COLUMNS, MAX_KEY, MAX_PROJECTIONS}
use Rattle.mt_table.specs.ColumnTypes.{is_key_type, place_has}
use Rattle.mt_table.specs.Kept.{is_one_of, is_place, aggregates_differ, keeps_aggregate, keeps_grouped, keeps_key, keeps_normal, keeps_projection}
use Rattle.mt_table.specs.Names.{places_differ}
use Rattle.mt_table.specs.Stored.{columns_below, no_projection, projection_at}
use Rattle.mt_table.specs.Tables.{fields_of_table}
use Rattle.mt_table.proofs.KeptLemmas.{each_of, key_length}
use Rattle.mt_table.proofs.PlaceLemmas.{range_more}

-- ---- one of many

-- what holds of all holds of one
pub one_of_all : {A : Type 0} (p : A → Bool) (xs : List A) (i : ℕ) (d : A) → list_all p xs ≡ true → i < length xs → p (get_or xs i d) ≡ true
one_of_all p xs i d all inside = decided (p (get_or xs i d)) refl
  where
    decided : (b : Bool) → p (get_or xs i d) ≡ b → p (get_or xs i d) ≡ true
    decided true is = is
    decided false is =
        let never : true ≡ false = sym all ∙ list_all_at p xs i d inside is in
        cc

-- there is such a column
pub place_within : (columns : List Column) (places : List ℕ) (i d : ℕ) → list_all (is_place columns) places ≡ true → i < length places → get_or places i d < length columns
place_within columns places i d all inside = ltb-true (get_or places i d) (length columns) (one_of_all (is_place columns) places i d all inside)

-- a test of all that is weaker
pub all_weaker : {A : Type 0} (p q : A → Bool) (xs : List A) → ((x : A) → p x ≡ true → q x ≡ true) → list_all p xs ≡ true → list_all q xs ≡ true
all_weaker p q [] weaker all = refl
all_weaker p q (x ∷ xs) weaker all =
    let both = both_true (p x) (list_all p xs) all in
    both_of (q x) (list_all q xs) (weaker x both.0) (all_weaker p q xs weaker both.1)

-- what holds of all holds of those that pass
pub filtered_all : {A : Type 0} (q p : A → Bool) (xs : List A) → list_all q xs ≡ true → list_all q (filter p xs) ≡ true
filtered_all q p [] all = refl
filtered_all q p (x ∷ xs) all =
    let both = both_true (q x) (list_all q xs) all in
    chosen (p x) both.0 (filtered_all q p xs both.1)
  where
    chosen : (b : Bool) → q x ≡ true → list_all q (filter p xs) ≡ true → list_all q (cond b (x ∷ filter p xs) (filter p xs)) ≡ true
    chosen true first rest = both_of (q x) (list_all q (filter p xs)) first rest
    chosen false first rest = rest

-- ---- places of columns

range_within : (limit a n : ℕ) → a + n ≤ limit → list_all (λ i. nat_lt i limit) (range_with_len a n) ≡ true
range_within limit a zero within = refl
range_within limit a (suc n) within =
    let first : a < limit = omega (arith, within) in
    let rest : a + 1 + n ≤ limit = omega (arith, within) in
    both_of (nat_lt a limit) (list_all (λ i. nat_lt i limit) (range_with_len (a + 1) n)) (lt-ltb a limit first) (range_within limit (a + 1) n rest)

-- the places below the number of columns are there
pub below_within : (columns : List Column) (count : ℕ) (chosen : List ℕ) → count ≤ length columns → list_all (is_place columns) (columns_below count chosen) ≡ true
below_within columns count chosen within =
    filtered_all (is_place columns) (λ i. list_any (λ j. j == i) chosen) (range_with_len 0 count) (range_within (length columns) 0 count (omega (arith, within)))

-- and are no more than that
pub below_few : (count : ℕ) (chosen : List ℕ) → length (columns_below count chosen) ≤ count
below_few count chosen =
    let p : ℕ → Bool = λ i. list_any (λ j. j == i) chosen in
    let some = length-filter p (range_with_len 0 count) in
    let most = count_by-le-length p (range_with_len 0 count) in
    let all = length-range_with_len 0 count in
    omega (arith, some, most, all)

-- one place more
pub below_more : (n : ℕ) (chosen : List ℕ) → columns_below (n + 1) chosen ≡ columns_below n chosen ++ cond (list_any (λ j. j == n) chosen) (n ∷ []) []
below_more n chosen =
    let p : ℕ → Bool = λ i. list_any (λ j. j == i) chosen in
    ap (filter p) (sym (range_more n (range_with_len 0 n) (range_with_len 0 n ++ n ∷ []) refl refl)) ∙ filter-append p (range_with_len 0 n) (n ∷ [])

-- a column whose type passes a test is there
pub has_place : (test : Ty → Bool) (columns : List Column) (place : ℕ) → place_has test columns place ≡ true → is_place columns place ≡ true
has_place test columns place has = lt-ltb place (length columns) (within columns place has)
  where
    within : (columns : List Column) (place : ℕ) → place_has test columns place ≡ true → place < length columns
    within [] place has = cc
    within (column ∷ columns) zero has = omega arith
    within (column ∷ columns) (suc place) has =
        let inside = within columns place has in
        omega (arith, inside)

-- ---- what the rules say of the columns that are stored

-- a table has at most 256 columns
pub columns_few : (table : Table) → length table.columns ≤ MAX_COLUMNS
columns_few table =
    let each = each_of (fields_of_table table) table.rules in
    let counts = both_true (nat_le 1 (length table.columns) && nat_le (length table.columns) MAX_COLUMNS) _ each.columns in
    let both = both_true (nat_le 1 (length table.columns)) (nat_le (length table.columns) MAX_COLUMNS) counts.0 in
    leb-true (length table.columns) MAX_COLUMNS both.1

-- the columns of a key are there
pub key_within : (columns : List Column) (places : List ℕ) → keeps_key columns places ≡ true → list_all (is_place columns) places ≡ true
key_within columns places keeps =
    let parts = both_true (nat_le 1 (length places) && nat_le (length places) MAX_KEY) _ keeps in
    let both = both_true (places_differ places) (list_all (place_has is_key_type columns) places) parts.1 in
    all_weaker (place_has is_key_type columns) (is_place columns) places (has_place is_key_type columns) both.1

-- a projection by its place keeps the rules
pub projection_kept : (table : Table) (place : ℕ) → place < length table.projections → keeps_projection table.columns (projection_at table place) ≡ true
projection_kept table place inside =
    let each = each_of (fields_of_table table) table.rules in
    let some = both_true (nat_le (length table.projections) MAX_PROJECTIONS) _ each.projections in
    let all = both_true (list_all (keeps_projection table.columns) table.projections) _ some.1 in
    one_of_all (keeps_projection table.columns) table.projections place no_projection all.0 inside

-- one that was read by its place
pub read_at : (table : Table) (place : ℕ) (all : List Projection) (read projection : Projection) → place < length table.projections → all ≡ table.projections → read ≡ get_or all place read → read ≡ projection
    → projection ≡ projection_at table place
read_at table place all read projection inside all_are read_is is = sym is ∙ read_is ∙ ap (λ l. get_or l place read) all_are ∙ get_or_default table.projections place read no_projection inside

pub normal_kept : (columns : List Column) (name : List ℕ) (chosen sort : List ℕ) → keeps_projection columns (Normal name chosen sort) ≡ true → keeps_normal columns chosen sort ≡ true
normal_kept columns name chosen sort keeps = (both_true (is_name name) (keeps_normal columns chosen sort) keeps).1

pub grouped_kept : (columns : List Column) (name : List ℕ) (keys : List ℕ) (aggregates : List Aggregate) → keeps_projection columns (Grouped name keys aggregates) ≡ true → keeps_grouped columns keys aggregates ≡ true
grouped_kept columns name keys aggregates keeps = (both_true (is_name name) (keeps_grouped columns keys aggregates) keeps).1

-- the sort key of a projection has at most 16 columns
pub normal_key_few : (columns : List Column) (chosen sort : List ℕ) → keeps_normal columns chosen sort ≡ true → length sort ≤ MAX_KEY
normal_key_few columns chosen sort keeps =
    let both = both_true (places_differ chosen && list_all (is_place columns) chosen) _ keeps in
    let key = both_true (list_all (is_one_of chosen) sort) (keeps_key columns sort) both.1 in
    (key_length columns sort key.1).1

pub grouped_key : (columns : List Column) (keys : List ℕ) (aggregates : List Aggregate) → keeps_grouped columns keys aggregates ≡ true → keeps_key columns keys ≡ true
grouped_key columns keys aggregates keeps = (both_true (keeps_key columns keys) _ keeps).0

-- each aggregate keeps the rules
pub aggregate_kept : (columns : List Column) (keys : List ℕ) (aggregates : List Aggregate) (i : ℕ) → keeps_grouped columns keys aggregates ≡ true → i < length aggregates → keeps_aggregate columns (get_or aggregates i Count) ≡ true
aggregate_kept columns keys aggregates i keeps inside =
    let all = both_true (keeps_key columns keys) _ keeps in
    let some = both_true (nat_le 1 (length aggregates) && nat_le (length aggregates) MAX_KEY) _ all.1 in
    let each = both_true (aggregates_differ aggregates) (list_all (keeps_aggregate columns) aggregates) some.1 in
    one_of_all (keeps_aggregate columns) aggregates i Count each.1 inside
