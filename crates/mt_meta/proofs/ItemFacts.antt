-- A value's bytes are those of no other value, whatever follows.
use Rattle.std.proofs.Common.{◌≡◌, ℕ, ◌<◌, pos, true, List, ◌++◌, Ok, refl, ap, sym, ◌∙◌}
use Rattle.mt_types.specs.declared.ty.Width.TheVariants.{W16}
use Rattle.mt_types.specs.declared.ty.Ty.{Ty}
use Rattle.mt_types.specs.declared.ty.Ty.TheVariants.{Date}
use Rattle.mt_types.specs.declared.value.Value.{Value}
use Rattle.mt_types.specs.declared.value.Value.TheVariants.{Num}
use Rattle.mt_types.specs.Fits.{fits_of}
use Rattle.mt_types.specs.Items.{item_bytes}
use Rattle.mt_item.specs.ItemReading.{First, item_front}
use Rattle.mt_item.specs.ItemTypes.{is_scalar}
use Rattle.mt_item.proofs.ItemLemmas.{item_exact}
use Rattle.mt_item.proofs.NumberLemmas.{narrow_num, numbers_Date}
use Rattle.mt_item.proofs.TypeLemmas.{scalar_has_items}

-- the value of a day
pub day_is : (v : Value) → fits_of Date v ≡ true → (n : ℕ) × (v ≡ Num (pos n)) × (n < 65536)
day_is v f = let day = numbers_Date.values v f in (day.0, day.1 ∙ narrow_num W16 refl day.0 day.2, day.2)

same_first : (p q : Value × List ℕ) → (let r : First Value = Ok p in r) ≡ Ok q → p ≡ q
same_first p q e = cc

-- the first value of some bytes is the only one
pub item_unique : (ty : Ty) → is_scalar ty ≡ true → (v w : Value) (x y : List ℕ) → fits_of ty v ≡ true → fits_of ty w ≡ true → item_bytes ty v ++ x ≡ item_bytes ty w ++ y → (v ≡ w) × (x ≡ y)
item_unique ty h v w x y f g e =
    let exact = item_exact ty (scalar_has_items ty h) in
    let same = same_first (v, x) (w, y) (sym (exact.complete v x f) ∙ ap (item_front ty) e ∙ exact.complete w y g) in
    (ap (λ (p : Value × List ℕ). p.0) same, ap (λ (p : Value × List ℕ). p.1) same)
