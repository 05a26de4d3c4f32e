-- The columns of a projection's states have different names, of types of the profile.
use Rattle.std.proofs.Common.{◌≡◌, ◌≢◌, ℕ, ◌+◌, ◌<◌, ◌≤◌, Bool, true, false, cond, zero-add, ◌||◌, List, [], ◌∷◌, ◌++◌, length, get_or, refl, ap, sym, ◌∙◌, arith, inl, inr, ◌⊎◌, eqb}
use Rattle.std.specs.Prelude.{All, IsTrue, Option, Some, None, nat_le, codes}
use Rattle.std.specs.List.{list_all, list_any, filter_map, cons_option, count_by}
use Rattle.std.proofs.lemmas.Bool.{and_parts, leb-true, eq-eqb, ne_eqb}
use Rattle.std.proofs.lemmas.Option.{same_Some}
use Rattle.std.proofs.lemmas.List.{append_cancel_left, append_cancel_right}
use Rattle.std.proofs.lemmas.List.Sums.{sum_by-cons}
use Rattle.std.proofs.lemmas.List.Elements.{All-nil, All-cons, All-head, All-tail, All-weaker}
use Rattle.mt_types.specs.declared.ty.Agg.{Agg}
use Rattle.mt_types.specs.declared.ty.Agg.TheVariants.{Sum, Min, Max}
use Rattle.mt_types.specs.declared.ty.Ty.{Ty}
use Rattle.mt_types.specs.declared.ty.Ty.TheVariants.{State}
use Rattle.mt_types.specs.Profile.{Kind, Whole, Day, kind_of, is_profile, is_known, state_kind}
use Rattle.mt_types.specs.Numbers.{is_argument_type}
use Rattle.mt_types.proofs.Levels.{kind-State, kind-CountState}
use Rattle.mt_types.specs.Words.{is_word_byte as is_name_byte, is_name}
use Rattle.mt_table.specs.declared.column.Column.{Column}
use Rattle.mt_table.specs.declared.definition.Table.{Table}
use Rattle.mt_table.specs.declared.projection.Aggregate.{Aggregate}
use Rattle.mt_table.specs.declared.projection.Aggregate.TheVariants.{Count, Of}
use Rattle.mt_table.specs.ColumnTypes.{is_integer_type}
use Rattle.mt_table.specs.Names.{places_differ}
use Rattle.mt_table.specs.Kept.{keeps_aggregate, aggregates_differ, is_count_aggregate, sum_place, min_place, max_place}
use Rattle.mt_defs.specs.Metadata.{column_at}
use Rattle.mt_defs.specs.Projections.{state_column, aggregate_word}
use Rattle.mt_item.proofs.TypeLemmas.{argument_kind, integer_kind}
use Rattle.mt_law_written.proofs.ApartLemmas.{EachLater, Differ}
use Rattle.mt_law_written.proofs.RuleLemmas.{places_are_different, place_of, names_at, name_bytes}

-- two columns have different names
abbrev pub Apart : Column → Column → Type 0
Apart a b = a.name ≢ b.name

-- a column's type is of the profile
abbrev pub IsKnown : Column → Type 0
IsKnown column = IsTrue (is_profile column.ty)

-- ---- states

state_known : (agg : Agg) (t : Ty) (kind : Kind) → kind_of t ≡ kind → is_known (state_kind agg kind) ≡ true → is_profile (State agg t) ≡ true
state_known agg t kind is known = ap is_known (kind-State agg t ∙ ap (state_kind agg) is) ∙ known

either_known : (agg : Agg) (t : Ty) → is_known (state_kind agg Whole) ≡ true → is_known (state_kind agg Day) ≡ true → (kind_of t ≡ Whole) ⊎ (kind_of t ≡ Day) → is_profile (State agg t) ≡ true
either_known agg t whole day (inl is) = state_known agg t Whole is whole
either_known agg t whole day (inr is) = state_known agg t Day is day

pub state_type : (table : Table) (aggregate : Aggregate) → keeps_aggregate table.columns aggregate ≡ true → IsKnown (state_column table aggregate)
state_type table Count keeps = ap is_known kind-CountState
state_type table (Of Sum i) keeps =
    let place = place_of is_integer_type table.columns i keeps in
    let ty = (column_at table.columns i).ty in
    state_known Sum ty Whole (integer_kind ty place.passes) refl
state_type table (Of Min i) keeps =
    let place = place_of is_argument_type table.columns i keeps in
    let ty = (column_at table.columns i).ty in
    either_known Min ty refl refl (argument_kind ty place.passes)
state_type table (Of Max i) keeps =
    let place = place_of is_argument_type table.columns i keeps in
    let ty = (column_at table.columns i).ty in
    either_known Max ty refl refl (argument_kind ty place.passes)

-- the column of an aggregate is there
abbrev pub IsOver : List Column → Aggregate → Type 0
IsOver columns Count = Unit {0}
IsOver columns (Of agg i) = i < length columns

pub is_over : (columns : List Column) (aggregate : Aggregate) → keeps_aggregate columns aggregate ≡ true → IsOver columns aggregate
is_over columns Count keeps = tt
is_over columns (Of Sum i) keeps = (place_of is_integer_type columns i keeps).within
is_over columns (Of Min i) keeps = (place_of is_argument_type columns i keeps).within
is_over columns (Of Max i) keeps = (place_of is_argument_type columns i keeps).within

-- ---- aggregates differ

by_place : (place : Aggregate → Option ℕ) (i : ℕ) (b : Aggregate) (aggs : List Aggregate) (found : Option ℕ) → place b ≡ found → All (λ j. i ≢ j) (cons_option found (filter_map place aggs))
    → (All (λ j. i ≢ j) (filter_map place aggs) → All (λ b. place b ≡ Some i → ⊥) aggs) → All (λ b. place b ≡ Some i → ⊥) (b ∷ aggs)
by_place place i b aggs None is none again = All-cons (λ b. place b ≡ Some i → ⊥) b aggs (λ same. (let bad : None ≡ Some i = sym is ∙ same in cc)) (again none)
by_place place i b aggs (Some j) is none again =
    All-cons (λ b. place b ≡ Some i → ⊥) b aggs (λ same. All-head (λ j. i ≢ j) j (filter_map place aggs) none (sym (same_Some j i (sym is ∙ same)))) (again (All-tail (λ j. i ≢ j) j (filter_map place aggs) none))

one_or_none : (place : Aggregate → Option ℕ) (i : ℕ) (aggs : List Aggregate) → All (λ j. i ≢ j) (filter_map place aggs) → All (λ b. place b ≡ Some i → ⊥) aggs
one_or_none place i [] none = All-nil _
one_or_none place i (b ∷ aggs) none = by_place place i b aggs (place b) refl none (one_or_none place i aggs)

-- what the rule says of aggregates
pub record Once (aggs : List Aggregate) : Type 0 where
  pub counts : count_by is_count_aggregate aggs ≤ 1
  pub sums : Differ (filter_map sum_place aggs)
  pub mins : Differ (filter_map min_place aggs)
  pub maxs : Differ (filter_map max_place aggs)

pub once_of : (aggs : List Aggregate) → aggregates_differ aggs ≡ true → Once aggs
once_of aggs e =
    let one = and_parts (nat_le (count_by is_count_aggregate aggs) 1) _ e in
    let two = and_parts (places_differ (filter_map sum_place aggs)) _ one.1 in
    let three = and_parts (places_differ (filter_map min_place aggs)) (places_differ (filter_map max_place aggs)) two.1 in
    record {
      counts = leb-true (count_by is_count_aggregate aggs) 1 one.0;
      sums = places_are_different (filter_map sum_place aggs) two.0;
      mins = places_are_different (filter_map min_place aggs) three.0;
      maxs = places_are_different (filter_map max_place aggs) three.1;
    }

counted : (a : Aggregate) (aggs : List Aggregate) → count_by is_count_aggregate (a ∷ aggs) ≡ cond (is_count_aggregate a) 1 0 + count_by is_count_aggregate aggs
counted a aggs = sum_by-cons (λ b. cond (is_count_aggregate b) 1 0) a aggs

no_counts : (aggs : List Aggregate) → count_by is_count_aggregate aggs ≤ 0 → All (λ b. Count ≢ b) aggs
no_counts [] few = All-nil _
no_counts (Count ∷ aggs) few = absurd (let one : count_by is_count_aggregate (Count ∷ aggs) ≡ 1 + count_by is_count_aggregate aggs = counted Count aggs in omega (arith, few, one))
no_counts (Of agg i ∷ aggs) few = All-cons (λ b. Count ≢ b) (Of agg i) aggs (λ same. (let bad : true ≡ false = ap is_count_aggregate same in cc)) (no_counts aggs (let none : count_by is_count_aggregate (Of agg i ∷ aggs) ≡ count_by is_count_aggregate aggs = counted (Of agg i) aggs ∙ zero-add (count_by is_count_aggregate aggs) in omega (arith, few, none)))

fewer : (agg : Agg) (i : ℕ) (aggs : List Aggregate) → count_by is_count_aggregate (Of agg i ∷ aggs) ≤ 1 → count_by is_count_aggregate aggs ≤ 1
fewer agg i aggs few = let none : count_by is_count_aggregate (Of agg i ∷ aggs) ≡ count_by is_count_aggregate aggs = counted (Of agg i) aggs ∙ zero-add (count_by is_count_aggregate aggs) in omega (arith, few, none)

pub aggregates_apart : (aggs : List Aggregate) → Once aggs → Differ aggs
aggregates_apart [] once = tt
aggregates_apart (Count ∷ aggs) once =
    let one : count_by is_count_aggregate (Count ∷ aggs) ≡ 1 + count_by is_count_aggregate aggs = counted Count aggs in
    (no_counts aggs (omega (arith, once.counts, one)), aggregates_apart aggs (record { counts = omega (arith, once.counts, one); sums = once.sums; mins = once.mins; maxs = once.maxs }))
aggregates_apart (Of Sum i ∷ aggs) once = (
  All-weaker (λ b. sum_place b ≡ Some i → ⊥) (λ b. Of Sum i ≢ b) (λ b none same. none (ap sum_place (sym same))) aggs (one_or_none sum_place i aggs once.sums.0),
  aggregates_apart aggs (record { counts = fewer Sum i aggs once.counts; sums = once.sums.1; mins = once.mins; maxs = once.maxs }),
)
aggregates_apart (Of Min i ∷ aggs) once = (
  All-weaker (λ b. min_place b ≡ Some i → ⊥) (λ b. Of Min i ≢ b) (λ b none same. none (ap min_place (sym same))) aggs (one_or_none min_place i aggs once.mins.0),
  aggregates_apart aggs (record { counts = fewer Min i aggs once.counts; sums = once.sums; mins = once.mins.1; maxs = once.maxs }),
)
aggregates_apart (Of Max i ∷ aggs) once = (
  All-weaker (λ b. max_place b ≡ Some i → ⊥) (λ b. Of Max i ≢ b) (λ b none same. none (ap max_place (sym same))) aggs (one_or_none max_place i aggs once.maxs.0),
  aggregates_apart aggs (record { counts = fewer Max i aggs once.counts; sums = once.sums; mins = once.mins; maxs = once.maxs.1 }),
)

-- ---- their columns' names differ

two_bytes : (a b : List ℕ) (i m n : ℕ) → get_or a i 0 ≡ m → get_or b i 0 ≡ n → eqb m n ≡ false → a ≢ b
two_bytes a b i m n at_a at_b other same =
    let bad : m ≡ n = sym at_a ∙ ap (λ l. get_or l i 0) same ∙ at_b in
    let yes : false ≡ true = sym other ∙ eq-eqb m n bad in
    cc

same_of : (columns : List Column) (agg : Agg) (i j : ℕ) → EachLater Apart columns → i < length columns → j < length columns → i ≢ j
    → aggregate_word agg ++ codes "(" ++ (column_at columns i).name ++ codes ")" ≢ aggregate_word agg ++ codes "(" ++ (column_at columns j).name ++ codes ")"
same_of columns agg i j own in_i in_j other same =
    let opening : List ℕ = aggregate_word agg ++ codes "(" in
    names_at columns own i j in_i in_j other (
    append_cancel_left opening (column_at columns i).name (column_at columns j).name (append_cancel_right (opening ++ (column_at columns i).name) (opening ++ (column_at columns j).name) (codes ")") same))

states_apart : (table : Table) (a b : Aggregate) → EachLater Apart table.columns → IsOver table.columns a → IsOver table.columns b → a ≢ b → Apart (state_column table a) (state_column table b)
states_apart table Count Count own in_a in_b other = absurd (other refl)
states_apart table Count (Of Sum j) own in_a in_b other = two_bytes (codes "count()") _ 0 99 115 refl refl refl
states_apart table Count (Of Min j) own in_a in_b other = two_bytes (codes "count()") _ 0 99 109 refl refl refl
states_apart table Count (Of Max j) own in_a in_b other = two_bytes (codes "count()") _ 0 99 109 refl refl refl
states_apart table (Of Sum i) Count own in_a in_b other = two_bytes _ (codes "count()") 0 115 99 refl refl refl
states_apart table (Of Min i) Count own in_a in_b other = two_bytes _ (codes "count()") 0 109 99 refl refl refl
states_apart table (Of Max i) Count own in_a in_b other = two_bytes _ (codes "count()") 0 109 99 refl refl refl
states_apart table (Of Sum i) (Of Sum j) own in_a in_b other = same_of table.columns Sum i j own in_a in_b (λ same. other (ap (Of Sum) same))
states_apart table (Of Min i) (Of Min j) own in_a in_b other = same_of table.columns Min i j own in_a in_b (λ same. other (ap (Of Min) same))
states_apart table (Of Max i) (Of Max j) own in_a in_b other = same_of table.columns Max i j own in_a in_b (λ same. other (ap (Of Max) same))
states_apart table (Of Sum i) (Of Min j) own in_a in_b other = two_bytes _ _ 0 115 109 refl refl refl
states_apart table (Of Sum i) (Of Max j) own in_a in_b other = two_bytes _ _ 0 115 109 refl refl refl
states_apart table (Of Min i) (Of Sum j) own in_a in_b other = two_bytes _ _ 0 109 115 refl refl refl
states_apart table (Of Max i) (Of Sum j) own in_a in_b other = two_bytes _ _ 0 109 115 refl refl refl
states_apart table (Of Min i) (Of Max j) own in_a in_b other = two_bytes _ _ 1 105 97 refl refl refl
states_apart table (Of Max i) (Of Min j) own in_a in_b other = two_bytes _ _ 1 97 105 refl refl refl

pub all_states_apart : (table : Table) (aggs : List Aggregate) → EachLater Apart table.columns → All (IsOver table.columns) aggs → Differ aggs → EachLater (λ a b. Apart (state_column table a) (state_column table b)) aggs
all_states_apart table [] own over differ = tt
all_states_apart table (a ∷ aggs) own over differ =
    let Over : Aggregate → Type 0 = IsOver table.columns in
    let rest = All-tail Over a aggs over in
    (λ k d inside. states_apart table a (get_or aggs k d) own (All-head Over a aggs over) (rest k d inside) (differ.0 k d inside), all_states_apart table aggs own rest differ.1)

-- a bracket is in the name of a state, and in no name of a column
abbrev has_bracket : List ℕ → Bool
has_bracket = list_any (λ c. eqb c 40)

state_bracket : (table : Table) (a : Aggregate) → has_bracket (state_column table a).name ≡ true
state_bracket table Count = refl
state_bracket table (Of Sum i) = refl
state_bracket table (Of Min i) = refl
state_bracket table (Of Max i) = refl

word_bracket : (name : List ℕ) → list_all is_name_byte name ≡ true → has_bracket name ≡ false
word_bracket [] e = refl
word_bracket (c ∷ name) e =
    let both = and_parts (is_name_byte c) (list_all is_name_byte name) e in
    let other : eqb c 40 ≡ false = ne_eqb c 40 (λ is. let bad : false ≡ true = ap is_name_byte (sym is) ∙ both.0 in cc) in
    ap (λ b. b || has_bracket name) other ∙ word_bracket name both.1

pub key_state_apart : (table : Table) (k : ℕ) (a : Aggregate) → is_name (column_at table.columns k).name ≡ true → Apart (column_at table.columns k) (state_column table a)
key_state_apart table k a word same =
    let bad : false ≡ true = sym (word_bracket (column_at table.columns k).name (name_bytes (column_at table.columns k).name word)) ∙ ap has_bracket same ∙ state_bracket table a in
    cc
