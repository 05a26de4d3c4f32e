-- Joining states is an addition; states joined one after another.
use Rattle.std.proofs.Common.{◌≡◌, ℕ, ◌+◌, ◌%◌, ◌^◌, ℤ, List, [], ◌∷◌, map, refl, ap, sym, ◌∙◌, Option, Some, None, arith}
use Rattle.std.specs.Prelude.{unwrap_or}
use Rattle.std.specs.Int.{int_min, int_max}
use Rattle.std.proofs.lemmas.Int.{ints, clamps}
use Rattle.mt_types.specs.declared.value.AggState.{AggState}
use Rattle.mt_types.specs.declared.value.AggState.TheVariants.{Count, Sum, Least, Greatest}
use Rattle.mt_table.specs.declared.projection.Aggregate.{Aggregate}
use Rattle.mt_defs.specs.Rows.{Row}
use Rattle.mt_defs.specs.Folds.{lesser, greater, state_of, states_join, join, merge_upon, merge_of, fold_of, number_taken}
use Rattle.mt_agg.proofs.FoldLemmas.{joins, greater_assoc, lesser_assoc}
use Rattle.mt_stored.proofs.SumLemmas.{Adds}

sums_swap : (x y m : ℕ) → (x + (y + m) % 2 ^ 64) % 2 ^ 64 ≡ (y + (x + m) % 2 ^ 64) % 2 ^ 64
sums_swap x y m = omega arith

sums_assoc : (x y m : ℕ) → ((x + y) % 2 ^ 64 + m) % 2 ^ 64 ≡ (x + (y + m) % 2 ^ 64) % 2 ^ 64
sums_assoc x y m = omega arith

sums_turn : (x y : ℕ) → (x + y) % 2 ^ 64 ≡ (y + x) % 2 ^ 64
sums_turn x y = omega arith

min_turn : (a b : ℤ) → int_min a b ≡ int_min b a
min_turn a b = omega (arith, ints, clamps)

max_turn : (a b : ℤ) → int_max a b ≡ int_max b a
max_turn a b = omega (arith, ints, clamps)

lesser_turn : (a b : Option ℤ) → lesser a b ≡ lesser b a
lesser_turn None None = refl
lesser_turn None (Some b) = refl
lesser_turn (Some a) None = refl
lesser_turn (Some a) (Some b) = ap Some (min_turn a b)

greater_turn : (a b : Option ℤ) → greater a b ≡ greater b a
greater_turn None None = refl
greater_turn None (Some b) = refl
greater_turn (Some a) None = refl
greater_turn (Some a) (Some b) = ap Some (max_turn a b)

pub joins_turn : (s t : AggState) → states_join s t ≡ states_join t s
joins_turn (Count m) (Count n) = ap (λ k. Some (Count k)) (sums_turn m n)
joins_turn (Sum m) (Sum n) = ap (λ k. Some (Sum k)) (sums_turn m n)
joins_turn (Least m) (Least n) = ap (λ k. Some (Least k)) (lesser_turn m n)
joins_turn (Greatest m) (Greatest n) = ap (λ k. Some (Greatest k)) (greater_turn m n)
joins_turn _ _ = refl

joins_assoc : (s t u : AggState) → join (states_join s t) (Some u) ≡ join (Some s) (states_join t u)
joins_assoc (Count l) (Count m) (Count n) = ap (λ k. Some (Count k)) (sums_assoc l m n)
joins_assoc (Sum l) (Sum m) (Sum n) = ap (λ k. Some (Sum k)) (sums_assoc l m n)
joins_assoc (Least l) (Least m) (Least n) = ap (λ k. Some (Least k)) (lesser_assoc l m n)
joins_assoc (Greatest l) (Greatest m) (Greatest n) = ap (λ k. Some (Greatest k)) (greater_assoc l m n)
joins_assoc (Count l) (Sum m) (Count n) = refl
joins_assoc (Count l) (Least m) (Count n) = refl
joins_assoc (Count l) (Greatest m) (Count n) = refl
joins_assoc (Sum l) (Count m) (Count n) = refl
joins_assoc (Sum l) (Least m) (Count n) = refl
joins_assoc (Sum l) (Greatest m) (Count n) = refl
joins_assoc (Least l) (Count m) (Count n) = refl
joins_assoc (Least l) (Sum m) (Count n) = refl
joins_assoc (Least l) (Greatest m) (Count n) = refl
joins_assoc (Greatest l) (Count m) (Count n) = refl
joins_assoc (Greatest l) (Sum m) (Count n) = refl
joins_assoc (Greatest l) (Least m) (Count n) = refl
joins_assoc _ _ _ = refl

join_none : (o : Option AggState) → join o None ≡ None
join_none None = refl
join_none (Some s) = refl

pub join_turn : (x y : Option AggState) → join x y ≡ join y x
join_turn None y = sym (join_none y)
join_turn (Some s) None = refl
join_turn (Some s) (Some t) = joins_turn s t

pub join_assoc : (x y m : Option AggState) → join (join x y) m ≡ join x (join y m)
join_assoc None y m = refl
join_assoc (Some s) None m = refl
join_assoc (Some s) (Some t) None = join_none (states_join s t)
join_assoc (Some s) (Some t) (Some u) = joins_assoc s t u

pub join_swap : (x y m : Option AggState) → join x (join y m) ≡ join y (join x m)
join_swap x y m = sym (join_assoc x y m) ∙ ap (λ o. join o m) (join_turn x y) ∙ join_assoc y x m

pub joins_add : (a : Aggregate) → Adds join (Some (state_of a []))
joins_add a = record { swaps = join_swap; gathers = join_assoc; starts = joins a [] [] }

-- the states of the rows alone together are the fold over the rows
pub merged_rows : (a : Aggregate) (rows : List Row) → merge_of a (map (λ row. Some (state_of a (number_taken a row ∷ []))) rows) ≡ Some (fold_of rows a)
merged_rows a [] = refl
merged_rows a (row ∷ rows) = ap (join (Some (state_of a (number_taken a row ∷ [])))) (merged_rows a rows) ∙ joins a (number_taken a row ∷ []) (map (number_taken a) rows)

-- ---- one after another

upon_none : (os : List (Option AggState)) → merge_upon None os ≡ None
upon_none [] = refl
upon_none (o ∷ os) = ap (join o) (upon_none os) ∙ join_none o

pub upon_first : (x m : Option AggState) (os : List (Option AggState)) → merge_upon (join x m) os ≡ join x (merge_upon m os)
upon_first x m [] = refl
upon_first x m (o ∷ os) = ap (join o) (upon_first x m os) ∙ join_swap o x (merge_upon m os)

-- a state joined with some, each in its turn; where there is none, with the state of no rows
abbrev pub in_turn : Aggregate → AggState → List (Option AggState) → AggState
in_turn a s [] = s
in_turn a s (o ∷ os) = in_turn a (unwrap_or (states_join s (unwrap_or o (state_of a []))) s) os

pub some_same : (s t : AggState) → Some s ≡ Some t → s ≡ t
some_same s t e = cc

turns_by : (a : Aggregate) (s t : AggState) (os : List (Option AggState)) (joined : Option AggState) → merge_upon joined os ≡ Some t
    → ((v : AggState) → merge_upon (Some v) os ≡ Some t → in_turn a v os ≡ t) → in_turn a (unwrap_or joined s) os ≡ t
turns_by a s t os None e ih = let n : None ≡ Some t = sym (upon_none os) ∙ e in cc
turns_by a s t os (Some v) e ih = ih v e

-- where all are joined, joining one after another gives what they are together
pub turns : (a : Aggregate) (s t : AggState) (os : List (Option AggState)) → merge_upon (Some s) os ≡ Some t → in_turn a s os ≡ t
turns a s t [] e = some_same s t e
turns a s t (None ∷ os) e = cc
turns a s t (Some u ∷ os) e = turns_by a s t os (states_join s u) (ap (λ o. merge_upon o os) (joins_turn s u) ∙ upon_first (Some u) (Some s) os ∙ e) (λ v. turns a v t os)
