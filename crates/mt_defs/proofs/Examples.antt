-- The worked example by computation.
use Rattle.std.proofs.Common.{◌≡◌, ℕ, ℤ, List, [], ◌∷◌, ◌++◌, ap, ◌∙◌}
use Rattle.std.specs.Prelude.{Bool, codes, false}
use Rattle.std.specs.Int.{w64}
use Rattle.std.specs.Fmt.{digits}
use Rattle.std.specs.declared.cmp.Ordering.{Ordering}
use Rattle.std.specs.Ordering.{int_cmp, nat_cmp, ordering_then}
use Rattle.mt_types.specs.declared.ty.Ty.{Ty, map-Ty}
use Rattle.mt_types.specs.declared.ty.Ty.TheVariants.{UInt, outs-UInt}
use Rattle.mt_types.specs.declared.ty.Ty.TheFolds.{fold_out-Ty}
use Rattle.mt_types.specs.declared.ty.Width.TheVariants.{W64}
use Rattle.mt_types.specs.declared.value.Value.{Value, out-Value, map-Value}
use Rattle.mt_types.specs.declared.value.Value.TheOpen.{Value-F}
use Rattle.mt_types.specs.declared.value.Value.TheVariants.{Num, outs-Num}
use Rattle.mt_types.specs.declared.value.Value.TheFolds.{fold_out-Value}
use Rattle.mt_types.specs.Items.{item_bytes, item_step, whole_at}
use Rattle.mt_types.specs.Names.{type_name, name_step}
use Rattle.mt_types.specs.Order.{value_cmp, cmp_step, rank, same_kind_cmp}
use Rattle.mt_defs.specs.Sorting.{sorted_by, sorted_rows}
use Rattle.mt_defs.specs.Projections.{base_of}
use Rattle.mt_defs.specs.WrittenGranules.{written_granules, is_small}
use Rattle.mt_defs.specs.Writer.{files_with, file_cmp, written_folder}
use Rattle.mt_defs.specs.WorkedExample.{input, rows, table, settings, seven_files}
use Rattle.mt_defs.proofs.Numbers.{written_streams_UInt, stream_suffixes_UInt}

pub item_u64 : (v : Value) → item_bytes (UInt W64) v ≡ whole_at w64 (out-Value v)
item_u64 v = ap (λ (f : Value → List ℕ). f v) (fold_out-Ty (Value → List ℕ) item_step (UInt W64) ∙ ap (λ l. item_step (map-Ty Ty (Value → List ℕ) item_bytes l)) (outs-UInt W64))

pub name_u64 : type_name (UInt W64) ≡ codes "UInt64"
unfolding digits
name_u64 = fold_out-Ty (List ℕ) name_step (UInt W64) ∙ ap (λ l. name_step (map-Ty Ty (List ℕ) type_name l)) (outs-UInt W64)

pub value_order : (m n : ℤ) → value_cmp (Num m) (Num n) ≡ int_cmp m n
value_order m n =
    ap (λ (f : Value → Ordering). f (Num n)) (fold_out-Value (Value → Ordering) cmp_step (Num m) ∙ ap (λ l. cmp_step (map-Value Value (Value → Ordering) value_cmp l)) (outs-Num m))
    ∙ ap (λ l. ordering_then (nat_cmp 0 (rank l)) (same_kind_cmp (Value-F.Num m) l)) (outs-Num n)

pub in_order : sorted_rows (0 ∷ []) input ≡ rows
in_order = simp value_order

granules_are : written_granules settings table.columns rows ≡ 2 ∷ 1 ∷ []
granules_are = simp (written_streams_UInt W64, item_u64, outs-Num)

layout_is : is_small settings table.columns rows ≡ false
layout_is = simp (written_streams_UInt W64, item_u64, outs-Num)

pub folder_is : written_folder table rows ≡ seven_files
unfolding digits
folder_is =
    ap (λ (g : List ℕ). sorted_by file_cmp (files_with (base_of table) rows g (is_small settings table.columns rows) ++ [] ++ [] ++ [])) granules_are
    ∙ ap (λ (b : Bool). sorted_by file_cmp (files_with (base_of table) rows (2 ∷ 1 ∷ []) b ++ [] ++ [] ++ [])) layout_is
    ∙ simp (written_streams_UInt W64, stream_suffixes_UInt W64, item_u64, name_u64, outs-Num)
