-- Taking tests and options apart.
use Rattle.std.proofs.Common.{◌≡◌, ◌⊎◌, inl, inr, Bool, true, false, Option, Some, None, refl, sym}
use Rattle.std.specs.Prelude.{◌&&◌, option_map, option_and_then, if◌then◌else◌}

-- two tests hold
pub both_true : (a b : Bool) → (a && b) ≡ true → (a ≡ true) × (b ≡ true)
both_true true b e = (refl, e)
both_true false b e = cc

-- a value is the one chosen, or the other's
pub chosen_is : {X : Type 0} (test : Bool) (u : X) (rest : Option X) (t : X) → (if test then Some u else rest) ≡ Some t → ((test ≡ true) × (t ≡ u)) ⊎ (rest ≡ Some t)
chosen_is true u rest t e = let same : u ≡ t = cc in inl (refl, sym same)
chosen_is false u rest t e = inr e

-- a value is made of another
pub mapped_is : {X Y : Type 0} (make : X → Y) (o : Option X) (y : Y) → option_map make o ≡ Some y → (x : X) × (o ≡ Some x) × (y ≡ make x)
mapped_is make None y e = cc
mapped_is make (Some x) y e = let same : make x ≡ y = cc in (x, refl, sym same)

-- a value comes of another
pub then_is : {X Y : Type 0} (f : X → Option Y) (o : Option X) (y : Y) → option_and_then f o ≡ Some y → (x : X) × (o ≡ Some x) × (f x ≡ Some y)
then_is f None y e = cc
then_is f (Some x) y e = (x, refl, e)

-- values are the same
pub some_is : {X : Type 0} (x y : X) → Some x ≡ Some y → x ≡ y
some_is x y e = cc
