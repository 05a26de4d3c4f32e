-- How a `List` stores its elements: as the `Vec` inside it does, in their order. With this a type
-- may reach itself through a list of its own values, as `Value` does through `Value::List`.
use mathlib.Core.Path.{◌≡◌, refl, sym}
use mathlib.Core.List.{List, []}
use mathlib.Core.Former.{Former, this, list, via, children}
use base.Stored.{code_map}
use denote.RattleType.{RattleType}
use denote.HoleLaws.{Alike}
use denote.HolePlaces.{Recodes, struct_places, laid}
use denote.Hole.Carrier.{listed, list-listed}
use denote.Hole.Fix.{over}
use denote.Param.Weighed.{Weighed, w_list}
use denote.Model.Placed.{view_places}
use Rattle.std.specs.formers.vec.Vec as stored_vec
use Rattle.std.specs.declared.alloc.Global.{Global}
use Rattle.std.specs.contracts.alloc.Global as global
use Rattle.std.specs.contracts.impls.GlobalAllocator.TheImpl.{ghosts}
use Rattle.mt_types.specs.declared.list.List.TheInside.{Inside}
use Rattle.mt_types.specs.declared.list.List.TheView.{view, invariant}
use Rattle.mt_types.specs.contracts.list.List as outside
use Rattle.mt_types.specs.contracts.list.List.TheInside as inside

-- a value of a `List` splits as a list does: its length, and its elements
abbrev pub the_former : Former {0} → Former {0}
the_former element = list element

-- its weight is the greatest of its elements' weights
abbrev pub the_weighed : {element : Former {0}} → Weighed element → Weighed (the_former element)
the_weighed weighed = w_list weighed

-- a list of no type at all is the empty one
pub the_empty : List ⊥
the_empty = []

-- the elements are the list itself
abbrev pub the_items : (X : Type 0) → List X → List X
the_items X elements = elements

pub the_items_listed : (X : Type 0) (elements : List X) → listed _ (children (the_former this) X elements) ≡ the_items X elements
the_items_listed X elements = list-listed X elements

-- the one field of the struct, a `Vec`
abbrev vec_field : Former {0}
vec_field = via (stored_vec.the_former this Global) Inside (λ X struct. struct.items) (λ X vec. record { items = vec }) (λ X struct. refl) (λ X vec. refl)

module _ (R S : RattleType) (h : R.Denot → S.Denot) where
  -- two element types laid out alike make lists laid out alike, since the view shows the `Vec`'s elements
  pub the_places : Alike R S h → Alike (outside.the_row R) (outside.the_row S) ((the_former this).map R.Denot S.Denot h)
  the_places alike = view_places vec_field (list this) view (λ X Y k struct. refl) (λ X struct. refl) R.Denot S.Denot h (outside.the_row R).coded (outside.the_row S).coded
      (invariant R.Denot) (invariant S.Denot) (λ struct p q. refl) (λ struct p q. refl) (λ struct e. tt) (λ struct e. tt)
      (over (inside.the_row R)) (over (inside.the_row S))
      (struct_places (inside.the_type R) (inside.the_type S) (stored_vec.mapped h, tt) _ (λ d. refl) refl (laid _ _ _ (stored_vec.the_places global.the_row ghosts R S h alike), tt))

  -- a list's code is made of its elements' codes
  pub the_codes_placed : Recodes R S h → Recodes (outside.the_row R) (outside.the_row S) ((the_former this).map R.Denot S.Denot h)
  the_codes_placed recodes elements = sym (code_map R.coded.code S.coded.code h (λ x. sym (recodes x)) elements)
