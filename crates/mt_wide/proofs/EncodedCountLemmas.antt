-- Values are encoded by as many substreams as their type has.
use Rattle.std.proofs.Common.{◌≡◌, ℕ, suc, ◌+◌, ◌≤◌, List, [], ◌∷◌, length, ap, sym, ◌∙◌, subst, arith}
use Rattle.mt_types.specs.declared.ty.Ty.{Ty, map-Ty, roll-Ty}
use Rattle.mt_types.specs.declared.ty.Ty.TheOpen.{Ty-F}
use Rattle.mt_types.specs.declared.ty.Ty.TheFolds.{fold-roll-Ty, ind-Ty}
use Rattle.mt_types.specs.declared.ty.Ty.TheViews.{out-roll-Ty}
use Rattle.mt_types.specs.declared.value.Value.{Value}
use Rattle.mt_defs.specs.Encoding.{Encoding, EncodesAs, encoding_step}
use Rattle.mt_codec.specs.declared.stream.Stream.{Stream}
use Rattle.mt_codec.specs.StreamOrder.{order_step, streams_from, streams_of}
use Rattle.mt_codec.proofs.EncodedLemmas.{encodes_at}

abbrev HasCount : Ty → Type 0
HasCount ty = (values : List Value) (streams : List (List ℕ)) (depth : ℕ) → EncodesAs ty values streams → length streams ≡ length (streams_from ty depth)

abbrev Below : Type 0
Below = (ty : Ty) × HasCount ty

abbrev LevelCount : Ty-F Ty → Type 0
LevelCount x = (values : List Value) (streams : List (List ℕ)) (depth : ℕ) → encoding_step Ty (λ u. u) EncodesAs x values streams → length streams ≡ length (order_step (map-Ty Ty (ℕ → List Stream) streams_from x) depth)

level_count : (y : Ty-F Below) → LevelCount (map-Ty Below Ty (λ b. b.0) y)
level_count (Ty-F.UInt w) = λ values streams depth e. ap (λ (l : List (List ℕ)). length l) e
level_count (Ty-F.Int w) = λ values streams depth e. ap (λ (l : List (List ℕ)). length l) e
level_count (Ty-F.FixedString n) = λ values streams depth e. ap (λ (l : List (List ℕ)). length l) e
level_count Ty-F.Str = λ values streams depth e. ap (λ (l : List (List ℕ)). length l) e
level_count Ty-F.Date = λ values streams depth e. ap (λ (l : List (List ℕ)). length l) e
level_count Ty-F.Moment = λ values streams depth e. ap (λ (l : List (List ℕ)). length l) e
level_count (Ty-F.Nullable b) = under_nulls b
  where
    under_nulls : (b : Below) → LevelCount (Ty-F.Nullable b.0)
    under_nulls b values [] depth e = absurd e
    under_nulls b values (null_map ∷ streams) depth e = ap suc (b.1 e.1.0 streams depth e.1.3)
level_count (Ty-F.Array b) = under_sizes b
  where
    under_sizes : (b : Below) → LevelCount (Ty-F.Array b.0)
    under_sizes b values [] depth e = absurd e
    under_sizes b values (sizes ∷ streams) depth e = ap suc (b.1 _ streams (depth + 1) e.3)
level_count (Ty-F.State agg b) = λ values streams depth e. ap (λ (l : List (List ℕ)). length l) e
level_count Ty-F.CountState = λ values streams depth e. ap (λ (l : List (List ℕ)). length l) e

has_count : (ty : Ty) → HasCount ty
has_count = ind-Ty HasCount (λ x y is values streams depth e.
    subst LevelCount is (level_count y) values streams depth (subst (λ (encodes : Encoding). encodes values streams) (encodes_at (roll-Ty x) x (out-roll-Ty x)) e)
    ∙ sym (ap (λ (f : ℕ → List Stream). length (f depth)) (fold-roll-Ty (ℕ → List Stream) order_step x)))

pub encoded_count : (ty : Ty) (values : List Value) (streams : List (List ℕ)) → EncodesAs ty values streams → length streams ≡ length (streams_of ty)
encoded_count ty values streams e = has_count ty values streams 0 e

-- a type has a substream at least
level_some : (x : Ty-F Ty) (depth : ℕ) → 1 ≤ length (order_step (map-Ty Ty (ℕ → List Stream) streams_from x) depth)
level_some (Ty-F.UInt w) depth = omega arith
level_some (Ty-F.Int w) depth = omega arith
level_some (Ty-F.FixedString n) depth = omega arith
level_some Ty-F.Str depth = omega arith
level_some Ty-F.Date depth = omega arith
level_some Ty-F.Moment depth = omega arith
level_some (Ty-F.Nullable t) depth = omega arith
level_some (Ty-F.Array t) depth = omega arith
level_some (Ty-F.State agg t) depth = omega arith
level_some Ty-F.CountState depth = omega arith

some_streams : (ty : Ty) → 1 ≤ length (streams_of ty)
some_streams = ind-Ty (λ ty. 1 ≤ length (streams_of ty)) (λ x y is.
    subst (λ (n : ℕ). 1 ≤ n) (sym (ap (λ (f : ℕ → List Stream). length (f 0)) (fold-roll-Ty (ℕ → List Stream) order_step x))) (level_some x 0))

pub streams_some : (ty : Ty) → 1 ≤ length (streams_of ty)
streams_some ty = some_streams ty
