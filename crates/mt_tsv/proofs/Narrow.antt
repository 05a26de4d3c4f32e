-- Numbers of a signed type are numbers of 128 bits signed.
use Rattle.std.proofs.Common.{◌≡◌, ℕ, ◌-◌, ◌^◌, ◌<◌, Bool, true, false, ltb, List, Result, Ok, Err, refl, sym, ◌∙◌, arith, ℤ, inl, inr}
use Rattle.std.proofs.lemmas.Bool.{cases_Bool, ltb-true, false≢true, false_from_ne_true}
use Rattle.mt_types.specs.declared.ty.Width.{Width}
use Rattle.mt_types.specs.declared.ty.Width.TheVariants.{W8, W16, W32, W64, W128}
use Rattle.mt_types.specs.declared.value.Value.{Value}
use Rattle.mt_types.specs.declared.value.Value.TheVariants.{Num}
use Rattle.mt_types.specs.Fits.{bits, is_signed, number_value}
use Rattle.mt_types.specs.Steps.{◌>>=◌}
use Rattle.mt_types.proofs.NumberLemmas.{number_num}
use Rattle.mt_table.proofs.WidthLemmas.{signed_wide}
use Rattle.mt_tsv.specs.declared.fault.RowWhy.{RowWhy}
use Rattle.mt_tsv.specs.declared.fault.RowWhy.TheVariants.{Range}
use Rattle.mt_tsv.specs.Results.{unless_bad}
use Rattle.mt_tsv.specs.Scalars.{integer_of, whole_number_of, whole_of}

pub signed_below : (width : Width) (n : ℕ) → ltb n (2 ^ (bits width - 1)) ≡ true → n < 2 ^ 127
signed_below W8 n h = omega (arith, ltb-true n (2 ^ 7) h)
signed_below W16 n h = omega (arith, ltb-true n (2 ^ 15) h)
signed_below W32 n h = omega (arith, ltb-true n (2 ^ 31) h)
signed_below W64 n h = omega (arith, ltb-true n (2 ^ 63) h)
signed_below W128 n h = ltb-true n (2 ^ 127) h

not_narrow : (width : Width) (n : ℤ) → is_signed 128 n ≡ false → is_signed (bits width) n ≡ false
not_narrow width n other = false_from_ne_true (is_signed (bits width) n) (λ e. false≢true (sym other ∙ signed_wide width n e))

-- an integer that was read, put to the test of a type
abbrev tested : (ℤ → Bool) → Result ℤ RowWhy → Result ℤ RowWhy
tested test read = read >>= λ n. unless_bad (test n) Range (Ok n)

abbrev valued : (ℤ → Bool) → Result ℤ RowWhy → Result Value RowWhy
valued test read = tested test read >>= λ n. Ok (number_value n)

untested : (width : Width) (read : Result ℤ RowWhy) (why : RowWhy) → tested (is_signed 128) read ≡ Err why → valued (is_signed (bits width)) read ≡ Err why
untested width (Err other) why e = let is : other ≡ why = cc in rw is refl
untested width (Ok n) why e =
    elim (cases_Bool (is_signed 128 n)) [
      | inl is ↦ let bad : Ok n ≡ Err why = rw is at e in cc
      | inr other ↦
          let range : Err Range ≡ Err why = rw other at e in
          let is : Range ≡ why = cc in
          rw (not_narrow width n other, is) refl
    ]

tested_is : (read : Result ℤ RowWhy) (n : ℤ) → tested (is_signed 128) read ≡ Ok n → read ≡ Ok n
tested_is (Err why) n e = cc
tested_is (Ok m) n e =
    elim (cases_Bool (is_signed 128 m)) [
      | inl is ↦ rw is at e
      | inr other ↦ let bad : Err Range ≡ Ok n = rw other at e in cc
    ]

-- the reading of 128 bits signed decides: no integer, one of the type, one outside it
pub no_integer : (width : Width) (text : List ℕ) (why : RowWhy) → whole_number_of (is_signed 128) text ≡ Err why → whole_of (is_signed (bits width)) text ≡ Err why
unfolding whole_number_of
no_integer width text why e = untested width (integer_of text) why e

pub inside : (width : Width) (text : List ℕ) (n : ℤ) → whole_number_of (is_signed 128) text ≡ Ok n → is_signed (bits width) n ≡ true → whole_of (is_signed (bits width)) text ≡ Ok (Num n)
unfolding whole_number_of
inside width text n e is = rw (tested_is (integer_of text) n e, is, number_num n (signed_wide width n is)) refl

pub outside : (width : Width) (text : List ℕ) (n : ℤ) → whole_number_of (is_signed 128) text ≡ Ok n → is_signed (bits width) n ≡ false → whole_of (is_signed (bits width)) text ≡ Err Range
unfolding whole_number_of
outside width text n e other = rw (tested_is (integer_of text) n e, other) refl
