-- Columns, by the outermost level of their types.
use Rattle.std.proofs.Common.{◌≡◌, ℕ, ◌+◌, Bool, List, sum, Ok, refl, ap, sym, ◌∙◌, subst}
use Rattle.mt_types.specs.declared.ty.Ty.{Ty, map-Ty, out-Ty, roll-Ty}
use Rattle.mt_types.specs.declared.ty.Ty.TheOpen.{Ty-F}
use Rattle.mt_types.specs.declared.ty.Ty.TheVariants.{Nullable, Array, outs-Nullable, outs-Array}
use Rattle.mt_types.specs.declared.ty.Ty.TheFolds.{fold-Ty, fold_out-Ty, fold-roll-Ty, ind-Ty}
use Rattle.mt_types.specs.declared.value.Value.{Value}
use Rattle.mt_types.specs.Steps.{◌>>=◌}
use Rattle.mt_item.specs.ItemReading.{item_front}
use Rattle.mt_codec.specs.declared.fault.CodecError.{CodecError}
use Rattle.mt_codec.specs.declared.fault.CodecError.TheVariants.{At, NoMemory}
use Rattle.mt_codec.specs.Results.{CodecFailsAs}
use Rattle.mt_codec.specs.ColumnReading.{Read, Reader, Column, reader_step, column_step, column_from, stream_from, nullable_from, array_from, null_front, size_front, nulled, arrays_from}
use Rattle.mt_codec.proofs.WrittenLemmas.{IsSingleLevel}

-- ---- a reader is of its own type

abbrev IsOfType : Bool → Ty → Type 0
IsOfType apart t = (fold-Ty Reader (reader_step apart) t).ty ≡ t

abbrev Below : Bool → Type 0
Below apart = (t : Ty) × IsOfType apart t

abbrev IsOfLevel : Bool → Ty-F Ty → Type 0
IsOfLevel apart x = map-Ty Reader Ty (λ r. r.ty) (map-Ty Ty Reader (fold-Ty Reader (reader_step apart)) x) ≡ x

level_of_type : (apart : Bool) (y : Ty-F (Below apart)) → IsOfLevel apart (map-Ty (Below apart) Ty (λ r. r.0) y)
level_of_type apart (Ty-F.UInt w) = refl
level_of_type apart (Ty-F.Int w) = refl
level_of_type apart (Ty-F.FixedString n) = refl
level_of_type apart Ty-F.Str = refl
level_of_type apart Ty-F.Date = refl
level_of_type apart Ty-F.Moment = refl
level_of_type apart (Ty-F.Nullable t) = ap (λ u. Ty-F.Nullable u) t.1
level_of_type apart (Ty-F.Array t) = ap (λ u. Ty-F.Array u) t.1
level_of_type apart (Ty-F.State agg t) = ap (λ u. Ty-F.State agg u) t.1
level_of_type apart Ty-F.CountState = refl

reader_type : (apart : Bool) (t : Ty) → IsOfType apart t
reader_type apart = ind-Ty (IsOfType apart) (λ x y is. ap (λ (r : Reader). r.ty) (fold-roll-Ty Reader (reader_step apart) x) ∙ ap roll-Ty (subst (IsOfLevel apart) is (level_of_type apart y)))

-- how a type of this level is read
column_at : (apart : Bool) (t : Ty) (level : Ty-F Ty) → out-Ty t ≡ level → column_from apart t ≡ column_step apart t (map-Ty Ty Reader (fold-Ty Reader (reader_step apart)) level)
column_at apart t level is =
    let step : Ty-F Ty → Reader = λ l. reader_step apart (map-Ty Ty Reader (fold-Ty Reader (reader_step apart)) l) in
    let whole : fold-Ty Reader (reader_step apart) t ≡ step level = fold_out-Ty Reader (reader_step apart) t ∙ ap step is in
    let ty_is : (step level).ty ≡ t = ap (λ (r : Reader). r.ty) (sym whole) ∙ reader_type apart t in
    ap (λ (r : Reader). r.column) whole ∙ ap (λ u. column_step apart u (map-Ty Ty Reader (fold-Ty Reader (reader_step apart)) level)) ty_is

pub column_Nullable : (apart : Bool) (u : Ty) → column_from apart (Nullable u) ≡ nullable_from apart (column_from apart u)
column_Nullable apart u = column_at apart (Nullable u) (Ty-F.Nullable u) (outs-Nullable u)

pub column_Array : (apart : Bool) (u : Ty) → column_from apart (Array u) ≡ array_from apart (column_from apart u)
column_Array apart u = column_at apart (Array u) (Ty-F.Array u) (outs-Array u)

pub column_single : (apart : Bool) (t : Ty) (level : Ty-F Ty) → out-Ty t ≡ level → IsSingleLevel level → column_from apart t ≡ stream_from apart (item_front t)
column_single apart t (Ty-F.Nullable u) is single = absurd single
column_single apart t (Ty-F.Array u) is single = absurd single
column_single apart t (Ty-F.UInt w) is single = column_at apart t (Ty-F.UInt w) is
column_single apart t (Ty-F.Int w) is single = column_at apart t (Ty-F.Int w) is
column_single apart t (Ty-F.FixedString n) is single = column_at apart t (Ty-F.FixedString n) is
column_single apart t Ty-F.Str is single = column_at apart t Ty-F.Str is
column_single apart t Ty-F.Date is single = column_at apart t Ty-F.Date is
column_single apart t Ty-F.Moment is single = column_at apart t Ty-F.Moment is
column_single apart t (Ty-F.State agg u) is single = column_at apart t (Ty-F.State agg u) is
column_single apart t Ty-F.CountState is single = column_at apart t Ty-F.CountState is

-- ---- a null map, and the values under it

pub nullable_next : (apart : Bool) (inner : Column) (stream count : ℕ) (streams : List (List ℕ))
    → nullable_from apart inner stream count streams ≡ (stream_from apart null_front stream count streams >>= λ nulls. (inner (stream + 1) count nulls.1 >>= λ values. Ok (nulled nulls.0 values.0, values.1)))
unfolding nullable_from
nullable_next apart inner stream count streams = refl

pub nullable_wrong : (apart : Bool) (inner : Column) (stream count : ℕ) (streams : List (List ℕ)) (e : CodecError) → CodecFailsAs e (stream_from apart null_front stream count streams) → CodecFailsAs e (nullable_from apart inner stream count streams)
nullable_wrong apart inner stream count streams (At s i why) fails =
    nullable_next apart inner stream count streams ∙ ap (λ (r : Read (List ℕ × List (List ℕ))). r >>= λ nulls. (inner (stream + 1) count nulls.1 >>= λ values. Ok (nulled nulls.0 values.0, values.1))) fails
nullable_wrong apart inner stream count streams NoMemory fails = tt

-- the null map is read
pub nullable_rest : (apart : Bool) (inner : Column) (stream count : ℕ) (streams : List (List ℕ)) (nulls : List ℕ) (left : List (List ℕ)) → stream_from apart null_front stream count streams ≡ Ok (nulls, left)
    → nullable_from apart inner stream count streams ≡ (inner (stream + 1) count left >>= λ values. Ok (nulled nulls values.0, values.1))
nullable_rest apart inner stream count streams nulls left is =
    nullable_next apart inner stream count streams ∙ ap (λ (r : Read (List ℕ × List (List ℕ))). r >>= λ nulls. (inner (stream + 1) count nulls.1 >>= λ values. Ok (nulled nulls.0 values.0, values.1))) is

pub nullable_inner_wrong : (apart : Bool) (inner : Column) (stream count : ℕ) (streams : List (List ℕ)) (nulls : List ℕ) (left : List (List ℕ)) (e : CodecError) → stream_from apart null_front stream count streams ≡ Ok (nulls, left)
    → CodecFailsAs e (inner (stream + 1) count left) → CodecFailsAs e (nullable_from apart inner stream count streams)
nullable_inner_wrong apart inner stream count streams nulls left (At s i why) is fails =
    nullable_rest apart inner stream count streams nulls left is ∙ ap (λ (r : Read (List Value × List (List ℕ))). r >>= λ values. Ok (nulled nulls values.0, values.1)) fails
nullable_inner_wrong apart inner stream count streams nulls left NoMemory is fails = tt

pub nullable_read : (apart : Bool) (inner : Column) (stream count : ℕ) (streams : List (List ℕ)) (nulls : List ℕ) (left : List (List ℕ)) (values : List Value) (more : List (List ℕ)) → stream_from apart null_front stream count streams ≡ Ok (nulls, left)
    → inner (stream + 1) count left ≡ Ok (values, more) → nullable_from apart inner stream count streams ≡ Ok (nulled nulls values, more)
nullable_read apart inner stream count streams nulls left values more is read =
    nullable_rest apart inner stream count streams nulls left is ∙ ap (λ (r : Read (List Value × List (List ℕ))). r >>= λ values. Ok (nulled nulls values.0, values.1)) read

-- ---- sizes, and the elements under them

pub array_next : (apart : Bool) (inner : Column) (stream count : ℕ) (streams : List (List ℕ))
    → array_from apart inner stream count streams ≡ (stream_from apart size_front stream count streams >>= λ sizes. (inner (stream + 1) (sum sizes.0) sizes.1 >>= λ elements. Ok (arrays_from sizes.0 elements.0, elements.1)))
unfolding array_from
array_next apart inner stream count streams = refl

pub array_wrong : (apart : Bool) (inner : Column) (stream count : ℕ) (streams : List (List ℕ)) (e : CodecError) → CodecFailsAs e (stream_from apart size_front stream count streams) → CodecFailsAs e (array_from apart inner stream count streams)
array_wrong apart inner stream count streams (At s i why) fails =
    array_next apart inner stream count streams ∙ ap (λ (r : Read (List ℕ × List (List ℕ))). r >>= λ sizes. (inner (stream + 1) (sum sizes.0) sizes.1 >>= λ elements. Ok (arrays_from sizes.0 elements.0, elements.1))) fails
array_wrong apart inner stream count streams NoMemory fails = tt

-- the sizes are read
pub array_rest : (apart : Bool) (inner : Column) (stream count : ℕ) (streams : List (List ℕ)) (sizes : List ℕ) (left : List (List ℕ)) → stream_from apart size_front stream count streams ≡ Ok (sizes, left)
    → array_from apart inner stream count streams ≡ (inner (stream + 1) (sum sizes) left >>= λ elements. Ok (arrays_from sizes elements.0, elements.1))
array_rest apart inner stream count streams sizes left is =
    array_next apart inner stream count streams ∙ ap (λ (r : Read (List ℕ × List (List ℕ))). r >>= λ sizes. (inner (stream + 1) (sum sizes.0) sizes.1 >>= λ elements. Ok (arrays_from sizes.0 elements.0, elements.1))) is

pub array_inner_wrong : (apart : Bool) (inner : Column) (stream count : ℕ) (streams : List (List ℕ)) (sizes : List ℕ) (left : List (List ℕ)) (e : CodecError) → stream_from apart size_front stream count streams ≡ Ok (sizes, left)
    → CodecFailsAs e (inner (stream + 1) (sum sizes) left) → CodecFailsAs e (array_from apart inner stream count streams)
array_inner_wrong apart inner stream count streams sizes left (At s i why) is fails =
    array_rest apart inner stream count streams sizes left is ∙ ap (λ (r : Read (List Value × List (List ℕ))). r >>= λ elements. Ok (arrays_from sizes elements.0, elements.1)) fails
array_inner_wrong apart inner stream count streams sizes left NoMemory is fails = tt

pub array_read : (apart : Bool) (inner : Column) (stream count : ℕ) (streams : List (List ℕ)) (sizes : List ℕ) (left : List (List ℕ)) (elements : List Value) (more : List (List ℕ)) → stream_from apart size_front stream count streams ≡ Ok (sizes, left)
    → inner (stream + 1) (sum sizes) left ≡ Ok (elements, more) → array_from apart inner stream count streams ≡ Ok (arrays_from sizes elements, more)
array_read apart inner stream count streams sizes left elements more is read =
    array_rest apart inner stream count streams sizes left is ∙ ap (λ (r : Read (List Value × List (List ℕ))). r >>= λ elements. Ok (arrays_from sizes elements.0, elements.1)) read
