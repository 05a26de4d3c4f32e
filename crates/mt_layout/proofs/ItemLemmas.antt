-- The sizes of items, by the type.
use Rattle.std.proofs.Common.{◌≡◌, ℕ, ℤ, List, [], ◌++◌, length, replicate, ap, sym, ◌∙◌, arith}
use Rattle.std.specs.Int.{w16, w32}
use Rattle.std.proofs.lemmas.List.{length-replicate}
use Rattle.mt_types.specs.declared.ty.Width.{Width}
use Rattle.mt_types.specs.declared.ty.Ty.{Ty, map-Ty, out-Ty}
use Rattle.mt_types.specs.declared.ty.Ty.TheOpen.{Ty-F}
use Rattle.mt_types.specs.declared.ty.Ty.TheVariants.{UInt, Int, Date, Moment, FixedString, Str, outs-UInt, outs-Int, outs-Date, outs-Moment, outs-FixedString, outs-Str}
use Rattle.mt_types.specs.declared.value.Value.{Value}
use Rattle.mt_types.specs.declared.value.Value.TheVariants.{Num, Text, outs-Num, outs-Text}
use Rattle.mt_types.specs.Items.{item_bytes, item_step, whole, whole_at, fixed_at, text_at, state_at, width}
use Rattle.mt_types.proofs.Leb128Lemmas.{leb128_small}
use Rattle.mt_types.proofs.Levels.{same_level}
use Rattle.mt_types.proofs.NumberLemmas.{item_at}

-- ---- numbers

-- the items of a type of this level, at a value of this level
item_size_at : (t : Ty) (level : Ty-F Ty) (value : Value) → out-Ty t ≡ level → length (item_bytes t value) ≡ length (item_step (map-Ty Ty (Value → List ℕ) item_bytes level) value)
item_size_at t level value is = ap (λ f. length (f value)) (item_at t level is)

pub number_UInt : (t : Ty) (w : Width) (n : ℤ) → t ≡ UInt w → length (item_bytes t (Num n)) ≡ length (whole (width w) n)
number_UInt t w n is = item_size_at t (Ty-F.UInt w) (Num n) (ap out-Ty is ∙ outs-UInt w) ∙ ap (λ l. length (whole_at (width w) l)) (outs-Num n)

pub number_Int : (t : Ty) (w : Width) (n : ℤ) → t ≡ Int w → length (item_bytes t (Num n)) ≡ length (whole (width w) n)
number_Int t w n is = item_size_at t (Ty-F.Int w) (Num n) (ap out-Ty is ∙ outs-Int w) ∙ ap (λ l. length (whole_at (width w) l)) (outs-Num n)

pub number_Date : (t : Ty) (n : ℤ) → t ≡ Date → length (item_bytes t (Num n)) ≡ 2
number_Date t n is = item_size_at t Ty-F.Date (Num n) (ap out-Ty is ∙ outs-Date) ∙ ap (λ l. length (whole_at w16 l)) (outs-Num n)

pub number_Moment : (t : Ty) (n : ℤ) → t ≡ Moment → length (item_bytes t (Num n)) ≡ 4
number_Moment t n is = item_size_at t Ty-F.Moment (Num n) (ap out-Ty is ∙ outs-Moment) ∙ ap (λ l. length (whole_at w32 l)) (outs-Num n)

-- other types have no items of numbers
pub number_none : (t : Ty) (n : ℤ) (level : Ty-F Ty) → out-Ty t ≡ level → ((w : Width) → t ≡ UInt w → ⊥) → ((w : Width) → t ≡ Int w → ⊥) → (t ≡ Date → ⊥) → (t ≡ Moment → ⊥) → length (item_bytes t (Num n)) ≡ 0
number_none t n (Ty-F.UInt w) is not_unsigned not_signed not_day not_second = absurd (not_unsigned w (same_level t (UInt w) (is ∙ sym (outs-UInt w))))
number_none t n (Ty-F.Int w) is not_unsigned not_signed not_day not_second = absurd (not_signed w (same_level t (Int w) (is ∙ sym (outs-Int w))))
number_none t n Ty-F.Date is not_unsigned not_signed not_day not_second = absurd (not_day (same_level t Date (is ∙ sym outs-Date)))
number_none t n Ty-F.Moment is not_unsigned not_signed not_day not_second = absurd (not_second (same_level t Moment (is ∙ sym outs-Moment)))
number_none t n (Ty-F.FixedString size) is not_unsigned not_signed not_day not_second = item_size_at t (Ty-F.FixedString size) (Num n) is ∙ ap (λ l. length (fixed_at l)) (outs-Num n)
number_none t n Ty-F.Str is not_unsigned not_signed not_day not_second = item_size_at t Ty-F.Str (Num n) is ∙ ap (λ l. length (text_at l)) (outs-Num n)
number_none t n (Ty-F.Nullable u) is not_unsigned not_signed not_day not_second = item_size_at t (Ty-F.Nullable u) (Num n) is
number_none t n (Ty-F.Array u) is not_unsigned not_signed not_day not_second = item_size_at t (Ty-F.Array u) (Num n) is
number_none t n (Ty-F.State agg u) is not_unsigned not_signed not_day not_second = item_size_at t (Ty-F.State agg u) (Num n) is ∙ ap (λ l. length (state_at (item_bytes u) l)) (outs-Num n)
number_none t n Ty-F.CountState is not_unsigned not_signed not_day not_second = item_size_at t Ty-F.CountState (Num n) is ∙ ap (λ l. length (state_at (λ _. []) l)) (outs-Num n)

-- ---- texts without a byte, and of zeros

pub fixed_zeros : (t : Ty) (size : ℕ) → t ≡ FixedString size → length (item_bytes t (Text (replicate size 0))) ≡ size
fixed_zeros t size is =
    item_size_at t (Ty-F.FixedString size) (Text (replicate size 0)) (ap out-Ty is ∙ outs-FixedString size)
    ∙ ap (λ l. length (fixed_at l)) (outs-Text (replicate size 0)) ∙ length-replicate size 0

pub empty_text : (t : Ty) → t ≡ Str → length (item_bytes t (Text [])) ≡ 1
empty_text t is =
    item_size_at t Ty-F.Str (Text []) (ap out-Ty is ∙ outs-Str) ∙ ap (λ l. length (text_at l)) (outs-Text [])
    ∙ ap (λ bytes. length (bytes ++ [])) (leb128_small 0 (omega arith))
