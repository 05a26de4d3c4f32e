-- Serializations that differ only under NULL: docs/FORMAT.md, "Substreams".
use Rattle.std.specs.Prelude.{◌≡◌, ℕ, List, [], ◌∷◌}
use Rattle.mt_types.specs.declared.ty.Ty.{Ty}
use Rattle.mt_types.specs.declared.ty.Ty.TheOpen.{Ty-F}
use Rattle.mt_types.specs.declared.ty.Ty.TheFolds.{rec-Ty}
use Rattle.mt_types.specs.declared.value.Value.{Value}
use Rattle.mt_defs.specs.Encoding.{Encoding, EncodesAs}

-- what two serializations of as many values have in common
abbrev pub Alike : Type 1
Alike = List (List ℕ) → List (List ℕ) → Type 0

-- items are the same where a null map has a 0
abbrev pub AgreeUnder : List ℕ → List Value → List Value → Type 0
AgreeUnder [] [] [] = Unit {0}
AgreeUnder (byte ∷ bytes) (x ∷ xs) (y ∷ ys) = (byte ≡ 0 → x ≡ y) × AgreeUnder bytes xs ys
AgreeUnder _ _ _ = ⊥

-- the same null map, and items that are the same where it has a 0
abbrev pub AlikeNullable : Encoding → Alike
AlikeNullable inner (nulls ∷ streams) (nulls' ∷ streams') =
    (nulls ≡ nulls')
    × ((items : List Value) × ((items' : List Value) × inner items streams × inner items' streams' × AgreeUnder nulls items items'))
AlikeNullable inner _ _ = ⊥

-- the same sizes, and elements that are alike
abbrev pub AlikeArray : Alike → Alike
AlikeArray inner (sizes ∷ streams) (sizes' ∷ streams') = (sizes ≡ sizes') × inner streams streams'
AlikeArray inner _ _ = ⊥

abbrev pub alike_step : (X : Type 0) → (X → Ty) → (X → Alike) → Ty-F X → Alike
alike_step X type_of alike (Ty-F.Nullable inner) = AlikeNullable (EncodesAs (type_of inner))
alike_step X type_of alike (Ty-F.Array inner) = AlikeArray (alike inner)
alike_step X type_of alike level = λ streams streams'. streams ≡ streams'

-- substreams of the type that differ only under NULL
abbrev pub DifferUnderNull : Ty → Alike
DifferUnderNull = rec-Ty Alike alike_step
