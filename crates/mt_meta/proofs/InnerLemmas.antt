-- What a projection of a table stores is a definition.
use Rattle.std.proofs.Common.{◌≡◌, ℕ, zero, suc, ◌+◌, ◌<◌, ◌≤◌, Bool, true, false, List, [], ◌∷◌, ◌++◌, length, map, get_or, refl, ap, sym, ◌∙◌, subst, arith, inl, inr, eqb, ◌⊎◌, lit≤}
use Rattle.std.specs.Prelude.{All, IsTrue, nat_le, nat_eq, ◌&&◌, ◌||◌, ◌==◌, cond}
use Rattle.std.specs.List.{list_all, list_any, filter, range_with_len}
use Rattle.std.proofs.lemmas.Bool.{cases_Bool, cases_order, leb-true, eq-eqb, eqb-true, eqb-false}
use Rattle.std.proofs.lemmas.List.{length-map, length-append, get_or-map, get_or_append_left}
use Rattle.std.proofs.lemmas.List.FromFn.{length-range_with_len, get_or-range_with_len}
use Rattle.std.proofs.lemmas.List.Sums.{length-filter, count_by-le-length}
use Rattle.std.proofs.lemmas.List.Elements.{All-map, All-append, All-get_or, All-weaker, All-filter}
use Rattle.mt_facts.proofs.Lists.{each_passes}
use Rattle.mt_types.specs.declared.ty.Agg.{Agg}
use Rattle.mt_types.specs.declared.ty.Agg.TheVariants.{Sum, Min, Max}
use Rattle.mt_types.specs.declared.ty.Ty.{Ty, out-Ty}
use Rattle.mt_types.specs.declared.ty.Ty.TheVariants.{State as StateOf}
use Rattle.mt_types.specs.Profile.{Kind, Whole, Day, kind_of, state_kind, is_known, is_profile}
use Rattle.mt_types.specs.Numbers.{is_argument_type}
use Rattle.mt_types.proofs.Levels.{kind-State, kind-CountState}
use Rattle.mt_types.proofs.StepLemmas.{both_true}
use Rattle.mt_item.specs.ItemTypes.{is_scalar}
use Rattle.mt_item.proofs.TypeLemmas.{argument_kind, integer_kind}
use Rattle.mt_table.specs.declared.column.Column.{Column}
use Rattle.mt_table.specs.declared.definition.Table.{Table}
use Rattle.mt_table.specs.declared.limits.TheConstants.{MAX_COLUMNS, MAX_KEY, MAX_PROJECTIONS}
use Rattle.mt_table.specs.declared.projection.Aggregate.{Aggregate}
use Rattle.mt_table.specs.declared.projection.Aggregate.TheVariants.{Count, Of}
use Rattle.mt_table.specs.declared.projection.Projection.{Projection}
use Rattle.mt_table.specs.declared.projection.Projection.TheVariants.{Normal, Grouped}
use Rattle.mt_table.specs.ColumnTypes.{is_integer_type, is_key_type}
use Rattle.mt_table.specs.Kept.{is_one_of, keeps_aggregate, keeps_grouped, keeps_key, keeps_normal, keeps_projection}
use Rattle.mt_table.specs.Tables.{fields_of_table}
use Rattle.mt_table.proofs.KeptLemmas.{each_of, key_length}
use Rattle.mt_defs.specs.Metadata.{column_at, no_column}
use Rattle.mt_defs.specs.Projections.{inner_of, index_in, state_column, stored_columns}
use Rattle.mt_meta.specs.Definitions.{AreColumns, HasProjections, IsDefinition}
use Rattle.mt_meta.proofs.DefinitionLemmas.{HasColumn, columns_are, has_column, key_columns, key_scalar}

-- ---- places among others

same_both : (m n : ℕ) → eqb m n ≡ true → eqb n m ≡ true
same_both m n e = eq-eqb n m (sym (eqb-true m n e))

-- a test finds what it tells from nothing
any_here : {X : Type 0} (test : X → Bool) (x : X) (xs : List X) → test x ≡ true → list_any test (x ∷ xs) ≡ true
any_here test x xs e = ap (λ b. b || list_any test xs) e

any_later : {X : Type 0} (test : X → Bool) (x : X) (xs : List X) → list_any test xs ≡ true → list_any test (x ∷ xs) ≡ true
any_later test x xs e = either (test x) (list_any test xs) e
  where
    either : (a b : Bool) → b ≡ true → (a || b) ≡ true
    either true b e = refl
    either false b e = e

any_cases : {X : Type 0} (test : X → Bool) (x : X) (xs : List X) → list_any test (x ∷ xs) ≡ true → (test x ≡ true) ⊎ (list_any test xs ≡ true)
any_cases test x xs e = either (test x) (list_any test xs) e
  where
    either : (a b : Bool) → (a || b) ≡ true → (a ≡ true) ⊎ (b ≡ true)
    either true b e = inl refl
    either false b e = inr e

-- a test that finds nothing less finds something
any_weaker : {X : Type 0} (test other : X → Bool) (xs : List X) → ((x : X) → test x ≡ true → other x ≡ true) → list_any test xs ≡ true → list_any other xs ≡ true
any_weaker test other [] weaker e = cc
any_weaker test other (x ∷ xs) weaker e =
    elim (any_cases test x xs e) [
      | inl here ↦ any_here other x xs (weaker x here)
      | inr later ↦ any_later other x xs (any_weaker test other xs weaker later)
    ]

-- a filter keeps what passes
any_kept : (keep : ℕ → Bool) (place : ℕ) (xs : List ℕ) → keep place ≡ true → list_any (λ i. i == place) xs ≡ true → list_any (λ i. i == place) (filter keep xs) ≡ true
any_kept keep place [] passes e = cc
any_kept keep place (x ∷ xs) passes e =
    let test : ℕ → Bool = λ i. i == place in
    let Q : Bool → Type 0 = λ b. list_any test (cond b (x ∷ filter keep xs) (filter keep xs)) ≡ true in
    elim (cases_Bool (keep x)) [
      | inl kept ↦ subst Q (sym kept) (elim (any_cases test x xs e) [
        | inl here ↦ any_here test x (filter keep xs) here
        | inr later ↦ any_later test x (filter keep xs) (any_kept keep place xs passes later)
      ])
      | inr dropped ↦ subst Q (sym dropped) (elim (any_cases test x xs e) [
        | inl here ↦ let same : keep x ≡ true = ap keep (eqb-true x place here) ∙ passes in let never : true ≡ false = sym same ∙ dropped in cc
        | inr later ↦ any_kept keep place xs passes later
      ])
    ]

next : (a place : ℕ) → a ≤ place → (a ≡ place → ⊥) → a + 1 ≤ place
next a place low apart =
    elim (cases_order a place) [
      | inl same ↦ absurd (apart same)
      | inr (inl below) ↦ omega (arith, below)
      | inr (inr above) ↦ absurd (omega (arith, above, low))
    ]

any_in_range : (a n place : ℕ) → a ≤ place → place < a + n → list_any (λ i. i == place) (range_with_len a n) ≡ true
any_in_range a zero place low high = absurd (omega (arith, low, high))
any_in_range a (suc n) place low high =
    let test : ℕ → Bool = λ i. i == place in
    elim (cases_Bool (eqb a place)) [
      | inl here ↦ any_here test a (range_with_len (a + 1) n) here
      | inr apart ↦
          let above : a + 1 ≤ place = next a place low (eqb-false a place apart) in
          any_later test a (range_with_len (a + 1) n) (any_in_range (a + 1) n place above (omega (arith, high)))
    ]

-- where a place stands among others
pub record StandsAt (xs : List ℕ) (place index : ℕ) : Type 0 where
  pub within : index < length xs
  pub is : (d : ℕ) → get_or xs index d ≡ place

found : (xs : List ℕ) (place : ℕ) → list_any (λ i. i == place) xs ≡ true → StandsAt xs place (index_in xs place)
found [] place e = cc
found (x ∷ xs) place e =
    let P : Bool → Type 0 = λ b. StandsAt (x ∷ xs) place (cond b 0 (index_in xs place + 1)) in
    elim (cases_Bool (eqb x place)) [
      | inl here ↦ subst P (sym here) (record { within = omega arith; is = λ d. eqb-true x place here })
      | inr apart ↦ subst P (sym apart) (after (elim (any_cases (λ i. i == place) x xs e) [
        | inl here ↦ let never : true ≡ false = sym here ∙ apart in cc
        | inr later ↦ found xs place later
      ]))
    ]
  where
    after : StandsAt xs place (index_in xs place) → StandsAt (x ∷ xs) place (index_in xs place + 1)
    after later =
        let next : suc (index_in xs place) ≡ index_in xs place + 1 = omega arith in
        let within = later.within in
        record { within = omega (arith, within); is = λ d. ap (λ n. get_or (x ∷ xs) n d) (sym next) ∙ later.is d }

-- ---- normal projections

-- the stored columns of a projection are among the table's
pub stored_known : (table : Table) (columns : List ℕ) → All (λ i. i < length table.columns) (stored_columns table columns)
stored_known table columns =
    let n = length table.columns in
    All-filter (λ i. list_any (λ j. j == i) columns) (λ i. i < n) (range_with_len 0 n) (λ k d h.
    let size = length-range_with_len 0 n in
    let inside : k < n = omega (arith, size, h) in
    let value = get_or-range_with_len 0 n k d inside in
    omega (arith, value, inside))

-- a column that is selected is stored
stored_has : (table : Table) (columns : List ℕ) (place : ℕ) → place < length table.columns → is_one_of columns place ≡ true → StandsAt (stored_columns table columns) place (index_in (stored_columns table columns) place)
stored_has table columns place known one =
    let n = length table.columns in
    let keep : ℕ → Bool = λ i. list_any (λ j. j == i) columns in
    let selected : keep place ≡ true = any_weaker (nat_eq place) (λ j. j == place) columns (same_both place) one in
    found (stored_columns table columns) place (any_kept keep place (range_with_len 0 n) selected (any_in_range 0 n place (omega arith) (omega (arith, known))))

-- a column of a normal projection
pub record IsStored (columns : List Column) (stored : List ℕ) (index : ℕ) : Type 0 where
  pub within : index < length (map (column_at columns) stored)
  pub scalar : is_scalar (column_at (map (column_at columns) stored) index).ty ≡ true

stored_key : (columns : List Column) (stored : List ℕ) (place index : ℕ) → HasColumn is_key_type columns place → StandsAt stored place index → IsStored columns stored index
stored_key columns stored place index has stands =
    let size = length-map stored (column_at columns) in
    let within = stands.within in
    let same : column_at (map (column_at columns) stored) index ≡ column_at columns place = get_or-map (column_at columns) stored index 0 no_column within ∙ ap (column_at columns) (stands.is 0) in
    record { within = omega (arith, size, within); scalar = ap (λ (c : Column). is_scalar c.ty) same ∙ key_scalar (column_at columns place).ty has.passes }

-- the columns at some places are of the profile, as all are
pub places_profile : (columns : List Column) (places : List ℕ) → AreColumns columns → All (λ i. i < length columns) places → All (λ column. IsTrue (is_profile column.ty)) (map (column_at columns) places)
places_profile columns places are known =
    All-map (λ (column : Column). IsTrue (is_profile column.ty)) (column_at columns) places
    (All-weaker (λ i. i < length columns) (λ i. IsTrue (is_profile (column_at columns i).ty)) (λ i h. All-get_or (λ (column : Column). IsTrue (is_profile column.ty)) columns i no_column h are.profile) places known)

normal_is : (table : Table) (name columns sort : List ℕ) → AreColumns table.columns → keeps_normal table.columns columns sort ≡ true → IsDefinition (inner_of table (Normal name columns sort))
normal_is table name columns sort are keeps =
    let stored = stored_columns table columns in
    let n = length table.columns in
    let parts = both_true _ (list_all (is_one_of columns) sort && keeps_key table.columns sort) keeps in
    let both = both_true (list_all (is_one_of columns) sort) (keeps_key table.columns sort) parts.1 in
    let selected : All (λ place. is_one_of columns place ≡ true) sort = each_passes (is_one_of columns) sort both.0 in
    let has : All (HasColumn is_key_type table.columns) sort = key_columns table.columns sort both.1 in
    let each : All (λ place. IsStored table.columns stored (index_in stored place)) sort = λ k d h.
    let here = has k d h in stored_key table.columns stored (get_or sort k d) (index_in stored (get_or sort k d)) here (stored_has table columns (get_or sort k d) here.known (selected k d h)) in
    let size = length-map stored (column_at table.columns) in
    let some = (key_length table.columns sort both.1).0 in
    let first = (each 0 0 some).within in
    let kept = length-filter (λ i. list_any (λ j. j == i) columns) (range_with_len 0 n) in
    let most = count_by-le-length (λ i. list_any (λ j. j == i) columns) (range_with_len 0 n) in
    let all = length-range_with_len 0 n in
    let few = are.few in
    record {
      columns = record {
        some = omega (arith, first);
        few = omega (arith, size, kept, most, all, few);
        profile = places_profile table.columns stored are (stored_known table columns);
      };
      listed = let listed = length-range_with_len 0 (length (map (column_at table.columns) stored)) in omega (arith, first, listed);
      keys = record {
        known = All-map (λ i. i < length (map (column_at table.columns) stored)) (index_in stored) sort (λ k d h. (each k d h).within);
        scalar = All-map (λ i. is_scalar (column_at (map (column_at table.columns) stored) i).ty ≡ true) (index_in stored) sort (λ k d h. (each k d h).scalar);
      };
      sorted = let same = length-map sort (index_in stored) in omega (arith, same, some);
      primary = let same = length-map sort (index_in stored) in omega (arith, same);
    }

-- ---- aggregate projections

state_known : (agg : Agg) (ty : Ty) (kind : Kind) → kind_of ty ≡ kind → is_known (state_kind agg kind) ≡ true → IsTrue (is_profile (StateOf agg ty))
state_known agg ty kind is known = ap is_known (kind-State agg ty ∙ ap (state_kind agg) is) ∙ known

number_state : (agg : Agg) (ty : Ty) → is_known (state_kind agg Whole) ≡ true → is_known (state_kind agg Day) ≡ true → (kind_of ty ≡ Whole) ⊎ (kind_of ty ≡ Day) → IsTrue (is_profile (StateOf agg ty))
number_state agg ty whole day (inl is) = state_known agg ty Whole is whole
number_state agg ty whole day (inr is) = state_known agg ty Day is day

aggregate_profile : (table : Table) (aggregate : Aggregate) → keeps_aggregate table.columns aggregate ≡ true → IsTrue (is_profile (state_column table aggregate).ty)
aggregate_profile table Count keeps = ap is_known kind-CountState
aggregate_profile table (Of Sum i) keeps =
    let ty = (column_at table.columns i).ty in
    state_known Sum ty Whole (integer_kind ty (has_column is_integer_type table.columns i keeps).passes) refl
aggregate_profile table (Of Min i) keeps =
    let ty = (column_at table.columns i).ty in
    number_state Min ty refl refl (argument_kind ty (has_column is_argument_type table.columns i keeps).passes)
aggregate_profile table (Of Max i) keeps =
    let ty = (column_at table.columns i).ty in
    number_state Max ty refl refl (argument_kind ty (has_column is_argument_type table.columns i keeps).passes)

-- what the rules say of an aggregate projection
pub record KeptGrouped (columns : List Column) (keys : List ℕ) (aggs : List Aggregate) : Type 0 where
  pub key : keeps_key columns keys ≡ true
  pub few : length aggs ≤ MAX_KEY
  pub kept : All (λ aggregate. keeps_aggregate columns aggregate ≡ true) aggs

pub kept_grouped : (columns : List Column) (keys : List ℕ) (aggs : List Aggregate) → keeps_grouped columns keys aggs ≡ true → KeptGrouped columns keys aggs
kept_grouped columns keys aggs keeps =
    let parts = both_true (keeps_key columns keys) _ keeps in
    let more = both_true (nat_le 1 (length aggs) && nat_le (length aggs) MAX_KEY) _ parts.1 in
    let counts = both_true (nat_le 1 (length aggs)) (nat_le (length aggs) MAX_KEY) more.0 in
    let each = both_true _ (list_all (keeps_aggregate columns) aggs) more.1 in
    record { key = parts.0; few = leb-true (length aggs) MAX_KEY counts.1; kept = each_passes (keeps_aggregate columns) aggs each.1 }

twice_key : MAX_KEY + MAX_KEY ≤ MAX_COLUMNS
twice_key = lit≤ tt

grouped_is : (table : Table) (name keys : List ℕ) (aggs : List Aggregate) → AreColumns table.columns → keeps_grouped table.columns keys aggs ≡ true → IsDefinition (inner_of table (Grouped name keys aggs))
grouped_is table name keys aggs are keeps =
    let kept = kept_grouped table.columns keys aggs keeps in
    let firsts = map (column_at table.columns) keys in
    let lasts = map (state_column table) aggs in
    let has : All (HasColumn is_key_type table.columns) keys = key_columns table.columns keys kept.key in
    let known : All (λ i. i < length table.columns) keys = All-weaker (HasColumn is_key_type table.columns) (λ i. i < length table.columns) (λ i here. here.known) keys has in
    let length_keys = key_length table.columns keys kept.key in
    let some = length_keys.0 in
    let many = length_keys.1 in
    let few = kept.few in
    let size = length-append firsts lasts in
    let size_firsts = length-map keys (column_at table.columns) in
    let size_lasts = length-map aggs (state_column table) in
    let twice = twice_key in
    let n = length keys in
    let count = length-range_with_len 0 n in
    let P : Column → Type 0 = λ column. IsTrue (is_profile column.ty) in
    record {
      columns = record {
        some = omega (arith, size, size_firsts, some);
        few = omega (arith, size, size_firsts, size_lasts, many, few, twice);
        profile = All-append P firsts lasts (places_profile table.columns keys are known) (All-map P (state_column table) aggs (All-weaker (λ aggregate. keeps_aggregate table.columns aggregate ≡ true) (λ aggregate. P (state_column table aggregate)) (aggregate_profile table) aggs kept.kept));
      };
      listed = let listed = length-range_with_len 0 (length (firsts ++ lasts)) in omega (arith, listed, size, size_firsts, some);
      keys = record {
        known = λ k d h. let value = get_or-range_with_len 0 n k d (omega (arith, count, h)) in omega (arith, value, count, h, size, size_firsts);
        scalar = λ k d h.
            let inside : k < n = omega (arith, count, h) in
            let value : get_or (range_with_len 0 n) k d ≡ k = let at = get_or-range_with_len 0 n k d inside in omega (arith, at) in
            let here : column_at (firsts ++ lasts) k ≡ column_at table.columns (get_or keys k 0) = get_or_append_left firsts lasts no_column k (omega (arith, size_firsts, inside)) ∙ get_or-map (column_at table.columns) keys k 0 no_column inside in
            ap (λ i. is_scalar (column_at (firsts ++ lasts) i).ty) value ∙ ap (λ (c : Column). is_scalar c.ty) here ∙ key_scalar (column_at table.columns (get_or keys k 0)).ty (has k 0 inside).passes;
      };
      sorted = omega (arith, count, some);
      primary = omega (arith, count);
    }

-- ---- both

kept_is : (table : Table) (projection : Projection) → AreColumns table.columns → keeps_projection table.columns projection ≡ true → IsDefinition (inner_of table projection)
kept_is table (Normal name columns sort) are keeps = normal_is table name columns sort are (both_true _ (keeps_normal table.columns columns sort) keeps).1
kept_is table (Grouped name keys aggs) are keeps = grouped_is table name keys aggs are (both_true _ (keeps_grouped table.columns keys aggs) keeps).1

pub table_columns : (table : Table) → AreColumns table.columns
table_columns table = columns_are table.columns (each_of (fields_of_table table) table.rules).columns

-- the rules hold of each projection
pub projections_kept : (table : Table) → All (λ projection. keeps_projection table.columns projection ≡ true) table.projections
projections_kept table =
    let keeps = (each_of (fields_of_table table) table.rules).projections in
    let parts = both_true (nat_le (length table.projections) MAX_PROJECTIONS) _ keeps in
    let each = both_true (list_all (keeps_projection table.columns) table.projections) _ parts.1 in
    each_passes (keeps_projection table.columns) table.projections each.0

pub inner_is : (table : Table) (projection : Projection) → keeps_projection table.columns projection ≡ true → IsDefinition (inner_of table projection)
inner_is table projection keeps = kept_is table projection (table_columns table) keeps

-- what each projection of a table stores is a definition
pub projections_are : (table : Table) → HasProjections table
projections_are table =
    All-weaker (λ projection. keeps_projection table.columns projection ≡ true) (λ projection. IsDefinition (inner_of table projection)) (inner_is table) table.projections (projections_kept table)
