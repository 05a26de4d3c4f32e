-- Items that are read one by one.
use Rattle.std.proofs.Common.{◌≡◌, ℕ, suc, ◌+◌, ◌-◌, ◌<◌, true, List, [], ◌∷◌, ◌++◌, length, refl, ap, sym, ◌∙◌, subst, arith, append_assoc}
use Rattle.std.specs.Prelude.{Option, Some, None}
use Rattle.std.specs.List.{flat_map}
use Rattle.std.proofs.lemmas.Grind.{flat_map-append}
use Rattle.std.proofs.lemmas.List.{append-nil, length-append}
use Rattle.std.proofs.lemmas.List.Concat.{flat_map-cons}
use Rattle.std.proofs.lemmas.List.Elements.{All-push}
use Rattle.mt_types.specs.declared.ty.Ty.{Ty}
use Rattle.mt_types.specs.declared.value.Value.{Value}
use Rattle.mt_types.specs.Fits.{fits_of}
use Rattle.mt_types.specs.Items.{item_bytes}
use Rattle.mt_item.specs.Results.{IsFirst}
use Rattle.mt_skip.specs.Items.{AllFit, AreItems, ReadsItems}
use Rattle.mt_skip.proofs.DistinctLemmas.{nothing_fits}
use Rattle.mt_skip.proofs.LawLemmas.{tail_fits}

-- values whose items the bytes are begin with those that were read
pub record GoesOn (ty : Ty) (left : ℕ) (read others : List Value) (rest : List ℕ) : Type 0 where
  pub more : List Value
  pub is : others ≡ read ++ more
  pub items : AreItems ty left rest more

-- so many items of the bytes are read, and they are those of any such values
pub record ReadSoFar (ty : Ty) (count i : ℕ) (bytes : List ℕ) (read : List Value) (rest : List ℕ) : Type 0 where
  pub fit : AllFit ty read
  pub counted : length read ≡ i
  pub encoded : bytes ≡ flat_map (item_bytes ty) read ++ rest
  pub others : (values : List Value) → AreItems ty count bytes values → GoesOn ty (count - i) read values rest

pub nothing_read : (ty : Ty) (count : ℕ) (bytes : List ℕ) → ReadSoFar ty count 0 bytes [] bytes
nothing_read ty count bytes = record {
  fit = nothing_fits ty;
  counted = refl;
  encoded = refl;
  others = λ values items. record {
    more = values;
    is = refl;
    items = let all : count - 0 ≡ count = omega arith in subst (λ n. AreItems ty n bytes values) (sym all) items;
  };
}

-- what an item and others begin with, where this is what some bytes begin with
first_of : (ty : Ty) (left : ℕ) (rest : List ℕ) (read : Option (Value × List ℕ)) (more : List Value) → 0 < left → IsFirst (fits_of ty) (item_bytes ty) rest read → AreItems ty left rest more
    → (v : Value) × (vs : List Value) × (more ≡ v ∷ vs) × (read ≡ Some (v, flat_map (item_bytes ty) vs)) × AreItems ty (left - 1) (flat_map (item_bytes ty) vs) vs
first_of ty left rest read [] some first items = let none : 0 ≡ left = items.counted in absurd (omega (arith, some, none))
first_of ty left rest read (v ∷ vs) some first items = (
  v,
  vs,
  refl,
  first.only v (flat_map (item_bytes ty) vs) (items.fit 0 v (omega arith)) (items.encoded ∙ flat_map-cons (item_bytes ty) v vs),
  record {
    fit = tail_fits ty v vs items.fit;
    counted = let e : suc (length vs) ≡ left = items.counted in omega (arith, e);
    encoded = refl;
  },
)

same_first : (v w : Value) (x y : List ℕ) → ◌≡◌ {A = Option (Value × List ℕ)} (Some (v, x)) (Some (w, y)) → (v ≡ w) × (x ≡ y)
same_first v w x y e =
    let pair : ◌≡◌ {A = Value × List ℕ} (v, x) (w, y) = cc in
    (ap (λ (p : Value × List ℕ). p.0) pair, ap (λ (p : Value × List ℕ). p.1) pair)

-- an item more
pub read_more : (ty : Ty) (count i : ℕ) (bytes rest after : List ℕ) (read more : List Value) (value : Value) → i < count → ReadSoFar ty count i bytes read rest → IsFirst (fits_of ty) (item_bytes ty) rest (Some (value, after))
    → more ≡ read ++ value ∷ [] → ReadSoFar ty count (i + 1) bytes more after
read_more ty count i bytes rest after read more value inside so first pushed = subst (λ l. ReadSoFar ty count (i + 1) bytes l after) (sym pushed) (record {
  fit = All-push (λ v. fits_of ty v ≡ true) read value so.fit first.found.0;
  counted = let e = so.counted in omega (arith, e, length-append read (value ∷ []));
  encoded = so.encoded ∙ ap (λ b. flat_map (item_bytes ty) read ++ b) first.found.1 ∙ sym (append_assoc (flat_map (item_bytes ty) read) (item_bytes ty value) after)
      ∙ ap (λ b. (flat_map (item_bytes ty) read ++ b) ++ after) (sym (append-nil (item_bytes ty value))) ∙ ap (λ b. b ++ after) (sym (flat_map-append (item_bytes ty) read (value ∷ [])));
  others = λ values items.
      let on = so.others values items in
      let left : 0 < count - i = omega (arith, inside) in
      let f = first_of ty (count - i) rest (Some (value, after)) on.more left first on.items in
      let same = same_first value f.0 after (flat_map (item_bytes ty) f.1) f.3 in
      let less : count - i - 1 ≡ count - (i + 1) = omega arith in
      record {
        more = f.1;
        is = on.is ∙ ap (λ l. read ++ l) f.2 ∙ ap (λ v. read ++ v ∷ f.1) (sym same.0) ∙ sym (append_assoc read (value ∷ []) f.1);
        items = subst (λ n. AreItems ty n after f.1) less (subst (λ b. AreItems ty (count - i - 1) b f.1) (sym same.1) f.4);
      };
})

-- no item where one is to be
pub read_fails : (ty : Ty) (count i : ℕ) (bytes rest : List ℕ) (read : List Value) → i < count → ReadSoFar ty count i bytes read rest → IsFirst (fits_of ty) (item_bytes ty) rest None → ReadsItems ty count bytes None
read_fails ty count i bytes rest read inside so first = record {
  found = tt;
  only = λ values items.
      let on = so.others values items in
      let left : 0 < count - i = omega (arith, inside) in
      let f = first_of ty (count - i) rest None on.more left first on.items in
      let bad : ◌≡◌ {A = Option (Value × List ℕ)} None (Some (f.0, flat_map (item_bytes ty) f.1)) = f.3 in
      cc;
}

no_more : (ty : Ty) (left : ℕ) (rest : List ℕ) (more : List Value) → left ≡ 0 → AreItems ty left rest more → (more ≡ []) × (rest ≡ [])
no_more ty left rest [] none items = (refl, items.encoded)
no_more ty left rest (v ∷ vs) none items = let e : suc (length vs) ≡ left = items.counted in absurd (omega (arith, e, none))

-- all items, and no byte more
pub read_ends : (ty : Ty) (count i : ℕ) (bytes rest : List ℕ) (read : List Value) → i ≡ count → ReadSoFar ty count i bytes read rest → rest ≡ [] → ReadsItems ty count bytes (Some read)
read_ends ty count i bytes rest read all so none = record {
  found = record {
    fit = so.fit;
    counted = so.counted ∙ all;
    encoded = so.encoded ∙ ap (λ b. flat_map (item_bytes ty) read ++ b) none ∙ append-nil (flat_map (item_bytes ty) read);
  };
  only = λ values items.
      let on = so.others values items in
      let left : count - i ≡ 0 = omega (arith, all) in
      let over = no_more ty (count - i) rest on.more left on.items in
      ap (λ l. Some l) (sym (append-nil read) ∙ ap (λ l. read ++ l) (sym over.0) ∙ sym on.is);
}

-- bytes are left
pub read_over : (ty : Ty) (count i : ℕ) (bytes rest : List ℕ) (read : List Value) → i ≡ count → ReadSoFar ty count i bytes read rest → (rest ≡ [] → ⊥) → ReadsItems ty count bytes None
read_over ty count i bytes rest read all so some = record {
  found = tt;
  only = λ values items.
      let on = so.others values items in
      let left : count - i ≡ 0 = omega (arith, all) in
      absurd (some (no_more ty (count - i) rest on.more left on.items).1);
}
