-- Columns of unsigned integers: their encoding, their bytes and their rows.
use Rattle.std.proofs.Common.{◌≡◌, ℕ, ◌*◌, true, List, [], ◌∷◌, length, map, refl, ap, sym, ◌∙◌, arith}
use Rattle.std.specs.Prelude.{All, IsTrue}
use Rattle.std.specs.List.{flat_map}
use Rattle.std.specs.Int.{cast_unsigned, to_le_bytes}
use Rattle.std.proofs.lemmas.List.{length-append}
use Rattle.std.proofs.lemmas.List.Elements.{All-head, All-tail}
use Rattle.mt_types.specs.declared.ty.Ty.{Ty}
use Rattle.mt_types.specs.declared.ty.Ty.TheVariants.{UInt, outs-UInt}
use Rattle.mt_types.specs.declared.ty.Width.{Width}
use Rattle.mt_types.specs.declared.ty.Width.TheVariants.{W8, W16, W32, W64, W128}
use Rattle.mt_types.specs.declared.value.Value.{Value, out-Value}
use Rattle.mt_types.specs.declared.value.Value.TheOpen.{Value-F}
use Rattle.mt_types.specs.Fits.{fits_of, natural_at}
use Rattle.mt_types.specs.Items.{item_bytes, whole_at, width}
use Rattle.mt_types.specs.Numbers.{width_size}
use Rattle.mt_table.specs.declared.column.Column.{Column}
use Rattle.mt_table.specs.Form.{uint64_column}
use Rattle.mt_defs.specs.Encoding.{EncodesAs, EncodesItems, encoding_step}
use Rattle.mt_defs.specs.Rows.{Row, RowFits, cell, column_values, key_of}
use Rattle.mt_defs.proofs.Encoders.{EncodesAs_out}
use Rattle.mt_defs.proofs.Numbers.{roll_UInt}
use Rattle.mt_worked.specs.NumberColumns.{HasNumbersOfWidth}
use Rattle.mt_worked.proofs.ItemLemmas.{fits_UInt, item_bytes_UInt}

pub encoding_UInt : (w : Width) → EncodesAs (UInt w) ≡ EncodesItems (item_bytes (UInt w))
encoding_UInt w = EncodesAs_out (UInt w) ∙ ap (λ l. encoding_step Ty (λ u. u) EncodesAs l) (outs-UInt w) ∙ ap (λ ty. EncodesItems (item_bytes ty)) (roll_UInt w)

number_length : (w : Width) (m : ℕ) → length (to_le_bytes (width w) m) ≡ width_size w
number_length W8 m = refl
number_length W16 m = refl
number_length W32 m = refl
number_length W64 m = refl
number_length W128 m = refl

level_length : (w : Width) (level : Value-F Value) → natural_at w level ≡ true → length (whole_at (width w) level) ≡ width_size w
level_length w (Value-F.Num n) h = number_length w (cast_unsigned (width w) n)
level_length w (Value-F.Huge n) h = number_length w n
level_length W8 _ h = cc
level_length W16 _ h = cc
level_length W32 _ h = cc
level_length W64 _ h = cc
level_length W128 _ h = cc

item_length : (w : Width) (v : Value) → IsTrue (fits_of (UInt w) v) → length (item_bytes (UInt w) v) ≡ width_size w
item_length w v h = ap length (item_bytes_UInt w v) ∙ level_length w (out-Value v) (sym (fits_UInt w v) ∙ h)

pub items_length : (w : Width) (k : ℕ) (rows : List Row) → HasNumbersOfWidth w k rows → length (flat_map (item_bytes (UInt w)) (column_values k rows)) ≡ length rows * width_size w
items_length w k [] h = omega arith
items_length w k (row ∷ rows) h =
    let P : Row → Type 0 = λ row. IsTrue (fits_of (UInt w) (cell row k)) in
    let one : length (item_bytes (UInt w) (cell row k)) ≡ width_size w = item_length w (cell row k) (All-head P row rows h) in
    let rest : length (flat_map (item_bytes (UInt w)) (column_values k rows)) ≡ length rows * width_size w = items_length w k rows (All-tail P row rows h) in
    length-append (item_bytes (UInt w) (cell row k)) (flat_map (item_bytes (UInt w)) (column_values k rows)) ∙ grind (arith, one, rest)

abbrev pub both : List ℕ → List ℕ → List Column
both first second = uint64_column first ∷ uint64_column second ∷ []

same_row : (first second : List ℕ) (row : Row) → RowFits (both first second) row → key_of (0 ∷ 1 ∷ []) row ≡ row
same_row first second [] fits = absurd fits
same_row first second (x ∷ []) fits = absurd fits.1
same_row first second (x ∷ y ∷ []) fits = refl
same_row first second (x ∷ y ∷ z ∷ row) fits = absurd fits.1.1

pub same_rows : (first second : List ℕ) (rows : List Row) → All (RowFits (both first second)) rows → map (key_of (0 ∷ 1 ∷ [])) rows ≡ rows
same_rows first second [] fit = refl
same_rows first second (row ∷ rows) fit =
    ap (λ r. r ∷ map (key_of (0 ∷ 1 ∷ [])) rows) (same_row first second row (All-head (RowFits (both first second)) row rows fit))
    ∙ ap (λ rest. row ∷ rest) (same_rows first second rows (All-tail (RowFits (both first second)) row rows fit))
