-- The order on values, by one level of each.
use Rattle.std.proofs.Common.{◌≡◌, ℕ, List, refl, ap, ◌∙◌}
use Rattle.std.specs.declared.cmp.Ordering.{Ordering}
use Rattle.std.specs.declared.cmp.Ordering.TheVariants.{Less, Equal, Greater}
use Rattle.std.specs.Prelude.{pos}
use Rattle.std.specs.Ordering.{nat_cmp, int_cmp, ordering_then}
use Rattle.std.specs.Cmp.Lexicographic.{slice_cmp}
use Rattle.mt_types.specs.declared.value.Value.{Value, out-Value, map-Value}
use Rattle.mt_types.specs.declared.value.Value.TheOpen.{Value-F}
use Rattle.mt_types.specs.declared.value.Value.TheVariants.{Text, outs-Text}
use Rattle.mt_types.specs.declared.value.Value.TheFolds.{fold_out-Value}
use Rattle.mt_types.specs.Fits.{Level}
use Rattle.mt_types.specs.Ordered.{items_same}
use Rattle.mt_types.specs.Order.{value_cmp, values_cmp, state_cmp, cmp_step, rank}

abbrev pub level_cmp : Level → Level → Ordering
level_cmp (Value-F.Num m) (Value-F.Num n) = int_cmp m n
level_cmp (Value-F.Num m) (Value-F.Huge n) = ordering_then (int_cmp m (pos n)) Less
level_cmp (Value-F.Huge m) (Value-F.Num n) = ordering_then (int_cmp (pos m) n) Greater
level_cmp (Value-F.Huge m) (Value-F.Huge n) = nat_cmp m n
level_cmp (Value-F.Text a) (Value-F.Text b) = slice_cmp nat_cmp a b
level_cmp (Value-F.List a) (Value-F.List b) = values_cmp a b
level_cmp (Value-F.State a) (Value-F.State b) = state_cmp a b
level_cmp Value-F.Null Value-F.Null = Equal
level_cmp a b = nat_cmp (rank a) (rank b)

of_levels : (a : Level) (y : Value) (b : Level) → out-Value y ≡ b → cmp_step (map-Value Value (Value → Ordering) value_cmp a) y ≡ level_cmp a b
of_levels (Value-F.Num m) y (Value-F.Num n) is = rw is refl
of_levels (Value-F.Num m) y (Value-F.Huge n) is = rw is refl
of_levels (Value-F.Huge m) y (Value-F.Num n) is = rw is refl
of_levels (Value-F.Huge m) y (Value-F.Huge n) is = rw is refl
of_levels (Value-F.Text a) y (Value-F.Text b) is = rw is refl
of_levels (Value-F.List a) y (Value-F.List b) is = rw is (items_same a b)
of_levels (Value-F.State a) y (Value-F.State b) is = rw is refl
of_levels Value-F.Null y Value-F.Null is = rw is refl
of_levels a y b is = rw is refl

pub cmp_levels : (x y : Value) → value_cmp x y ≡ level_cmp (out-Value x) (out-Value y)
cmp_levels x y = ap (λ (f : Value → Ordering). f y) (fold_out-Value (Value → Ordering) cmp_step x) ∙ of_levels (out-Value x) y (out-Value y) refl

pub cmp_of : (x y : Value) (a b : Level) → out-Value x ≡ a → out-Value y ≡ b → value_cmp x y ≡ level_cmp a b
cmp_of x y a b is_a is_b = cmp_levels x y ∙ rw (is_a, is_b) refl

pub texts_cmp : (a b : List ℕ) → value_cmp (Text a) (Text b) ≡ slice_cmp nat_cmp a b
texts_cmp a b = cmp_of (Text a) (Text b) (Value-F.Text a) (Value-F.Text b) (outs-Text a) (outs-Text b)
