-- States as values of their types, and their items.
use Rattle.std.proofs.Common.{◌≡◌, ℕ, ℤ, List, true, [], ◌∷◌, ◌++◌, take, append_assoc, ap, sym, ◌∙◌}
use Rattle.std.specs.Prelude.{Option, Some}
use Rattle.std.specs.Int.{w128, to_le_bytes, cast_unsigned}
use Rattle.mt_types.specs.declared.ty.Agg.{Agg}
use Rattle.mt_types.specs.declared.ty.Ty.{Ty}
use Rattle.mt_types.specs.declared.ty.Ty.TheOpen.{Ty-F}
use Rattle.mt_types.specs.declared.ty.Ty.TheVariants.{CountState, outs-CountState, State as StateOf, outs-State as outs-StateOf}
use Rattle.mt_types.specs.declared.value.AggState.{AggState}
use Rattle.mt_types.specs.declared.value.Value.TheVariants.{Num, outs-Num, State, outs-State}
use Rattle.mt_types.specs.Fits.{state_at, fits_of, is_state_of, is_count, is_least_of}
use Rattle.mt_types.specs.Items.{state_at as state_of_level, item_bytes, held, state_bytes}
use Rattle.mt_types.specs.Numbers.{bits_in, is_argument_type, number_size}
use Rattle.mt_types.proofs.NumberLemmas.{argument_number, fits_at, item_at, number_item}

pub fits_state : (agg : Agg) (t : Ty) (s : AggState) → fits_of (StateOf agg t) (State s) ≡ is_state_of agg (fits_of t) s
fits_state agg t s = ap (λ f. f (State s)) (fits_at (StateOf agg t) (Ty-F.State agg t) (outs-StateOf agg t)) ∙ ap (state_at (is_state_of agg (fits_of t))) (outs-State s)

pub fits_count : (s : AggState) → fits_of CountState (State s) ≡ is_count s
fits_count s = ap (λ f. f (State s)) (fits_at CountState Ty-F.CountState outs-CountState) ∙ ap (state_at is_count) (outs-State s)

pub item_state : (agg : Agg) (t : Ty) (s : AggState) → item_bytes (StateOf agg t) (State s) ≡ state_bytes (item_bytes t) s
item_state agg t s = ap (λ f. f (State s)) (item_at (StateOf agg t) (Ty-F.State agg t) (outs-StateOf agg t)) ∙ ap (state_of_level (item_bytes t)) (outs-State s)

pub item_count : (s : AggState) → item_bytes CountState (State s) ≡ state_bytes (λ _. []) s
item_count s = ap (λ f. f (State s)) (item_at CountState Ty-F.CountState outs-CountState) ∙ ap (state_of_level (λ _. [])) (outs-State s)

-- ---- states that are written

-- the item of a number that min or max has gathered is the first of its bytes
argument_item : (t : Ty) (n : ℤ) → is_argument_type t ≡ true → fits_of t (Num n) ≡ true → item_bytes t (Num n) ≡ take (number_size t) (to_le_bytes w128 (cast_unsigned w128 n))
argument_item t n is fits = number_item t (Num n) (argument_number t is) fits ∙ ap (λ m. take (number_size t) (to_le_bytes w128 m)) (ap bits_in (outs-Num n))

-- the bytes of what min or max has gathered, appended to some others
pub held_number : (t : Ty) (number : Option ℤ) (n : ℤ) (size bits : ℕ) (out front : List ℕ) → is_argument_type t ≡ true → is_least_of (fits_of t) number ≡ true → number ≡ Some n
    → size ≡ number_size t → bits ≡ cast_unsigned w128 n → front ≡ out ++ 1 ∷ [] → front ++ take size (to_le_bytes w128 bits) ≡ out ++ held (item_bytes t) number
held_number t number n size bits out front is fits some s b f =
    let fit : fits_of t (Num n) ≡ true = ap (is_least_of (fits_of t)) (sym some) ∙ fits in
    rw (f, s, b, some) (append_assoc out (1 ∷ []) (take (number_size t) (to_le_bytes w128 (cast_unsigned w128 n))) ∙ ap (λ bytes. out ++ (1 ∷ bytes)) (sym (argument_item t n is fit)))
