-- A column has as many file names as substreams.
use Rattle.std.proofs.Common.{◌≡◌, ℕ, suc, ◌+◌, List, ◌++◌, length, refl, ap, sym, ◌∙◌, subst}
use Rattle.std.proofs.lemmas.List.{length-map}
use Rattle.mt_types.specs.declared.ty.Ty.{Ty, map-Ty}
use Rattle.mt_types.specs.declared.ty.Ty.TheOpen.{Ty-F}
use Rattle.mt_types.specs.declared.ty.Ty.TheFolds.{fold-roll-Ty, ind-Ty}
use Rattle.mt_table.specs.declared.column.Column.{Column}
use Rattle.mt_codec.specs.declared.stream.Stream.{Stream}
use Rattle.mt_codec.specs.StreamOrder.{order_step, streams_from, streams_of}
use Rattle.mt_defs.specs.FileNames.{file_name, stream_names, suffix_step}
use Rattle.mt_names.specs.Suffixes.{suffixes_from}

abbrev SameCount : Ty → Type 0
SameCount ty = (depth : ℕ) → length (suffixes_from ty depth) ≡ length (streams_from ty depth)

abbrev Below : Type 0
Below = (ty : Ty) × SameCount ty

abbrev SameLevel : Ty-F Ty → Type 0
SameLevel x = (depth : ℕ) → length (suffix_step (map-Ty Ty (ℕ → List (List ℕ)) suffixes_from x) depth) ≡ length (order_step (map-Ty Ty (ℕ → List Stream) streams_from x) depth)

level_same : (y : Ty-F Below) → SameLevel (map-Ty Below Ty (λ b. b.0) y)
level_same (Ty-F.UInt w) = λ depth. refl
level_same (Ty-F.Int w) = λ depth. refl
level_same (Ty-F.FixedString n) = λ depth. refl
level_same Ty-F.Str = λ depth. refl
level_same Ty-F.Date = λ depth. refl
level_same Ty-F.Moment = λ depth. refl
level_same (Ty-F.Nullable b) = λ depth. ap suc (b.1 depth)
level_same (Ty-F.Array b) = λ depth. ap suc (b.1 (depth + 1))
level_same (Ty-F.State agg b) = λ depth. refl
level_same Ty-F.CountState = λ depth. refl

same_count : (ty : Ty) → SameCount ty
same_count = ind-Ty SameCount (λ x y is depth.
    ap (λ (f : ℕ → List (List ℕ)). length (f depth)) (fold-roll-Ty (ℕ → List (List ℕ)) suffix_step x) ∙ subst SameLevel is (level_same y) depth
    ∙ sym (ap (λ (f : ℕ → List Stream). length (f depth)) (fold-roll-Ty (ℕ → List Stream) order_step x)))

pub names_count : (column : Column) → length (stream_names column) ≡ length (streams_of column.ty)
names_count column = length-map (suffixes_from column.ty 0) (λ suffix. file_name column.name ++ suffix) ∙ same_count column.ty 0
