-- columns.txt and count.txt are bytes where the names of the columns are.
use Rattle.std.proofs.Common.{ℕ, zero, suc, ◌+◌, ◌<◌, ◌/◌, ◌%◌, Bool, true, false, List, [], ◌∷◌, ◌++◌, length, refl, sym, subst, arith, lit<}
use Rattle.std.proofs.Math.Nat.{mod-lt}
use Rattle.std.specs.Prelude.{All, codes, nat_lt, ◌==◌, if◌then◌else◌}
use Rattle.std.specs.List.{flat_map}
use Rattle.std.specs.Fmt.{decimal, digit_glyph, digits, digits_onto}
use Rattle.std.proofs.lemmas.List.Elements.{All-nil, All-cons, All-weaker}
use Rattle.mt_types.specs.declared.ty.Agg.{Agg}
use Rattle.mt_types.specs.declared.ty.Agg.TheVariants.{Sum, Min, Max}
use Rattle.mt_types.specs.declared.ty.Width.{Width}
use Rattle.mt_types.specs.declared.ty.Width.TheVariants.{W8, W16, W32, W64, W128}
use Rattle.mt_types.specs.declared.ty.Ty.{Ty, map-Ty}
use Rattle.mt_types.specs.declared.ty.Ty.TheOpen.{Ty-F}
use Rattle.mt_types.specs.declared.ty.Ty.TheFolds.{fold-roll-Ty, ind-Ty}
use Rattle.mt_types.specs.Names.{name_step, state_opening, type_name, width_text}
use Rattle.mt_table.specs.declared.column.Column.{Column}
use Rattle.mt_defs.specs.Lists.{AreBytes}
use Rattle.mt_defs.specs.Metadata.{column_line, columns_text}
use Rattle.mt_defs.proofs.ListLemmas.{tested_bytes, flat_bytes}
use Rattle.mt_item.proofs.ItemBytes.{IsByte}
use Rattle.mt_law_checked.specs.Readable.{HasByteName}
use Rattle.mt_law_checked.proofs.ByteLemmas.{joined_bytes}

-- ---- numbers

glyph_small : (n : ℕ) → digit_glyph false (n % 10) < 256
glyph_small n = by (nat_lt (n % 10) 10)
  where
    by : (b : Bool) → (if b then 48 + n % 10 else 87 + n % 10) < 256
    by true = let low : n % 10 < 10 = mod-lt n (lit< tt) in omega (arith, low)
    by false = let low : n % 10 < 10 = mod-lt n (lit< tt) in omega (arith, low)

digits_bytes : (more n : ℕ) (later : List ℕ) → AreBytes later → AreBytes (digits_onto more 10 false n later)
digits_bytes zero n later are = are
digits_bytes (suc more) n later are =
    let here = All-cons IsByte (digit_glyph false (n % 10)) later (glyph_small n) are in
    by (n / 10 == 0) here (digits_bytes more (n / 10) (digit_glyph false (n % 10) ∷ later) here)
  where
    by : (b : Bool) → AreBytes (digit_glyph false (n % 10) ∷ later) → AreBytes (digits_onto more 10 false (n / 10) (digit_glyph false (n % 10) ∷ later))
        → AreBytes (if b then digit_glyph false (n % 10) ∷ later else digits_onto more 10 false (n / 10) (digit_glyph false (n % 10) ∷ later))
    by true one rest = one
    by false one rest = rest

pub decimal_bytes : (n : ℕ) → AreBytes (decimal n)
unfolding digits
decimal_bytes n = digits_bytes 64 n [] (All-nil IsByte)

-- ---- names of types

abbrev NameIs : Ty → Type 0
NameIs ty = AreBytes (type_name ty)

abbrev Below : Type 0
Below = (ty : Ty) × NameIs ty

round : (opening name : List ℕ) → AreBytes opening → AreBytes name → AreBytes (opening ++ name ++ codes ")")
round opening name one two = joined_bytes (opening ++ name) (codes ")") (joined_bytes opening name one two) (tested_bytes (codes ")") refl)

width_bytes : (sign : List ℕ) (width : Width) → AreBytes sign → AreBytes (sign ++ width_text width)
width_bytes sign W8 are = joined_bytes sign (codes "8") are (tested_bytes (codes "8") refl)
width_bytes sign W16 are = joined_bytes sign (codes "16") are (tested_bytes (codes "16") refl)
width_bytes sign W32 are = joined_bytes sign (codes "32") are (tested_bytes (codes "32") refl)
width_bytes sign W64 are = joined_bytes sign (codes "64") are (tested_bytes (codes "64") refl)
width_bytes sign W128 are = joined_bytes sign (codes "128") are (tested_bytes (codes "128") refl)

opening_bytes : (agg : Agg) → AreBytes (state_opening agg)
opening_bytes Sum = tested_bytes (state_opening Sum) refl
opening_bytes Min = tested_bytes (state_opening Min) refl
opening_bytes Max = tested_bytes (state_opening Max) refl

level_bytes : (y : Ty-F Below) → AreBytes (name_step (map-Ty Ty (List ℕ) type_name (map-Ty Below Ty (λ e. e.0) y)))
level_bytes (Ty-F.UInt width) = width_bytes (codes "UInt") width (tested_bytes (codes "UInt") refl)
level_bytes (Ty-F.Int width) = width_bytes (codes "Int") width (tested_bytes (codes "Int") refl)
level_bytes (Ty-F.FixedString size) = round (codes "FixedString(") (decimal size) (tested_bytes (codes "FixedString(") refl) (decimal_bytes size)
level_bytes Ty-F.Str = tested_bytes (codes "String") refl
level_bytes Ty-F.Date = tested_bytes (codes "Date") refl
level_bytes Ty-F.Moment = tested_bytes (codes "DateTime('UTC')") refl
level_bytes (Ty-F.Nullable t) = round (codes "Nullable(") (type_name t.0) (tested_bytes (codes "Nullable(") refl) t.1
level_bytes (Ty-F.Array t) = round (codes "Array(") (type_name t.0) (tested_bytes (codes "Array(") refl) t.1
level_bytes (Ty-F.State agg t) = round (state_opening agg) (type_name t.0) (opening_bytes agg) t.1
level_bytes Ty-F.CountState = tested_bytes (codes "AggregateFunction(count)") refl

type_bytes : (ty : Ty) → NameIs ty
type_bytes = ind-Ty NameIs (λ x y is.
    subst AreBytes (sym (fold-roll-Ty (List ℕ) name_step x)) (subst (λ l. AreBytes (name_step (map-Ty Ty (List ℕ) type_name l))) is (level_bytes y)))

-- ---- columns

line_bytes : (column : Column) → HasByteName column → AreBytes (column_line column)
line_bytes column named =
    joined_bytes (codes "`" ++ column.name ++ codes "` " ++ type_name column.ty) (codes "\n")
    (joined_bytes (codes "`" ++ column.name ++ codes "` ") (type_name column.ty)
    (joined_bytes (codes "`" ++ column.name) (codes "` ") (joined_bytes (codes "`") column.name (tested_bytes (codes "`") refl) named) (tested_bytes (codes "` ") refl)) (type_bytes column.ty))
    (tested_bytes (codes "\n") refl)

pub columns_bytes : (columns : List Column) → All HasByteName columns → AreBytes (columns_text columns)
columns_bytes columns named =
    joined_bytes (codes "columns format version: 1\n" ++ decimal (length columns) ++ codes " columns:\n") (flat_map column_line columns)
    (joined_bytes (codes "columns format version: 1\n" ++ decimal (length columns)) (codes " columns:\n")
    (joined_bytes (codes "columns format version: 1\n") (decimal (length columns)) (tested_bytes (codes "columns format version: 1\n") refl) (decimal_bytes (length columns))) (tested_bytes (codes " columns:\n") refl))
    (flat_bytes column_line columns (All-weaker HasByteName (λ column. AreBytes (column_line column)) line_bytes columns named))
