-- The fold of two lists together is the join of their folds.
use Rattle.std.proofs.Common.{◌≡◌, ℕ, ◌+◌, ◌%◌, ◌^◌, ℤ, List, [], ◌∷◌, ◌++◌, length, Some, None, Option, refl, ap, sym, ◌∙◌, arith, length-append}
use Rattle.std.specs.List.{sum_by}
use Rattle.std.proofs.lemmas.List.Sums.{sum_by-append}
use Rattle.std.specs.Int.{w128, cast_unsigned}
use Rattle.mt_facts.proofs.Numbers.{max_assoc, min_assoc}
use Rattle.mt_types.specs.declared.ty.Agg.TheVariants.{Sum, Min, Max}
use Rattle.mt_types.specs.declared.value.AggState.TheVariants as state
use Rattle.mt_table.specs.declared.projection.Aggregate.{Aggregate}
use Rattle.mt_table.specs.declared.projection.Aggregate.TheVariants.{Count, Of}
use Rattle.mt_defs.specs.Folds.{lesser, greater, least, greatest, state_of, states_join}
use Rattle.mt_agg.specs.States.{state_with}

pub lesser_assoc : (a b c : Option ℤ) → lesser (lesser a b) c ≡ lesser a (lesser b c)
lesser_assoc None b c = refl
lesser_assoc (Some a) None c = refl
lesser_assoc (Some a) (Some b) None = refl
lesser_assoc (Some a) (Some b) (Some c) = ap (λ n. Some n) (min_assoc a b c)

pub greater_assoc : (a b c : Option ℤ) → greater (greater a b) c ≡ greater a (greater b c)
greater_assoc None b c = refl
greater_assoc (Some a) None c = refl
greater_assoc (Some a) (Some b) None = refl
greater_assoc (Some a) (Some b) (Some c) = ap (λ n. Some n) (max_assoc a b c)

pub least-append : (ms ns : List ℤ) → lesser (least ms) (least ns) ≡ least (ms ++ ns)
least-append [] ns = refl
least-append (m ∷ ms) ns = lesser_assoc (Some m) (least ms) (least ns) ∙ ap (lesser (Some m)) (least-append ms ns)

pub greatest-append : (ms ns : List ℤ) → greater (greatest ms) (greatest ns) ≡ greatest (ms ++ ns)
greatest-append [] ns = refl
greatest-append (m ∷ ms) ns = greater_assoc (Some m) (greatest ms) (greatest ns) ∙ ap (greater (Some m)) (greatest-append ms ns)

abbrev bits_sum : List ℤ → ℕ
bits_sum ns = sum_by (λ n. cast_unsigned w128 n) ns

wrapped : (a b c : ℕ) → a + b ≡ c → (a % 2 ^ 64 + b % 2 ^ 64) % 2 ^ 64 ≡ c % 2 ^ 64
wrapped a b c e = omega (arith, e)

-- the fold of two lists is the join of their folds
pub joins : (a : Aggregate) (ms ns : List ℤ) → states_join (state_of a ms) (state_of a ns) ≡ Some (state_of a (ms ++ ns))
joins Count ms ns = ap (λ n. Some (state.Count n)) (wrapped (length ms) (length ns) (length (ms ++ ns)) (sym (length-append ms ns)))
joins (Of Sum i) ms ns = ap (λ n. Some (state.Sum n)) (wrapped (bits_sum ms) (bits_sum ns) (bits_sum (ms ++ ns)) (sym (sum_by-append (λ n. cast_unsigned w128 n) ms ns)))
joins (Of Min i) ms ns = ap (λ n. Some (state.Least n)) (least-append ms ns)
joins (Of Max i) ms ns = ap (λ n. Some (state.Greatest n)) (greatest-append ms ns)

-- one number more
pub withs : (a : Aggregate) (ns : List ℤ) (n : ℤ) → state_with (state_of a ns) n ≡ state_of a (ns ++ n ∷ [])
withs Count ns n = ap (λ m. state.Count m) (wrapped (length ns) 1 (length (ns ++ n ∷ [])) (sym (length-append ns (n ∷ []))))
withs (Of Sum i) ns n = ap (λ m. state.Sum m) (wrapped (bits_sum ns) (cast_unsigned w128 n) (bits_sum (ns ++ n ∷ [])) (omega (arith, sum_by-append (λ m. cast_unsigned w128 m) ns (n ∷ []))))
withs (Of Min i) ns n = ap (λ n. state.Least n) (least-append ns (n ∷ []))
withs (Of Max i) ns n = ap (λ n. state.Greatest n) (greatest-append ns (n ∷ []))
