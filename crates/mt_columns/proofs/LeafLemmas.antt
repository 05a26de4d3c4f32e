-- Values under a null map.
use Rattle.std.proofs.Common.{◌≡◌, ℕ, zero, suc, ◌+◌, ◌-◌, ◌<◌, ◌≤◌, inl, inr, Bool, true, false, List, [], ◌∷◌, ◌++◌, length, get_or, map, take, drop, refl, ap, ap₂, sym, ◌∙◌, subst, arith, length-append, length-drop, length-take}
use Rattle.std.specs.Prelude.{Option, Some, None, Result, Ok, Err, IfSome, OnOk, OnErr, min, not, ◌==◌, ◌||◌, if◌then◌else◌}
use Rattle.std.specs.Global.{Vec}
use Rattle.std.specs.List.{All, list_all}
use Rattle.std.proofs.lemmas.Bool.{and_parts, cases_Bool, eqb-true}
use Rattle.std.proofs.lemmas.List.{length-map, take_all, take_more}
use Rattle.std.proofs.lemmas.List.Elements.{All-head, All-tail}
use Rattle.mt_types.specs.declared.value.Value.{Value, out-Value, roll-Value}
use Rattle.mt_types.specs.declared.value.Value.TheOpen.{Value-F}
use Rattle.mt_types.specs.declared.value.Value.TheViews.{roll-out-Value}
use Rattle.mt_types.specs.declared.value.Value.TheVariants.{Null, outs-Null}
use Rattle.mt_types.specs.Fits.{null_at}
use Rattle.mt_types.specs.declared.memory.NoMemory.{NoMemory}
use Rattle.mt_table.proofs.PointwiseLemmas.{Pointwise-length}
use Rattle.mt_defs.specs.Encoding.{is_null, is_null_at, null_byte}
use Rattle.mt_defs.specs.WrittenStreams.{or_default}
use Rattle.mt_defs.specs.Lists.{Pointwise}
use Rattle.mt_cells.specs.declared.seen.Seen.{Seen}
use Rattle.mt_cells.specs.declared.seen.Seen.TheVariants as seen
use Rattle.mt_cells.specs.Items.{ItemKind, default_item, fits_items, is_item, huge_at, is_no_huge}
use Rattle.mt_cells.specs.Seen.{value_seen}
use Rattle.mt_cells.proofs.SeenLemmas.{level_seen, out_seen}
use Rattle.mt_cells.proofs.FitLemmas.{default_is_item, not_null}
use Rattle.mt_columns.specs.Leaves.{AreGathered, AreMore, HasNulls, IsBeside, is_nullable, leaf_fits, leaf_values, null_in, null_if, nulled, AreNotHuge, under_nulls}

-- a null map has a byte for each item
abbrev pub AreAsMany : Option (Vec ℕ) → List Value → Type 0
AreAsMany None values = Unit {0}
AreAsMany (Some nulls) values = length nulls.items ≡ length values

pub as_many : (d : Value) (nulls : Option (Vec ℕ)) (items : List Value) → HasNulls d nulls items → AreAsMany nulls items
as_many d None items has = tt
as_many d (Some nulls) items has = Pointwise-length (IsBeside d) nulls.items items has

pub length-nulled : (bytes : List ℕ) (values : List Value) → length bytes ≡ length values → length (nulled bytes values) ≡ length values
unfolding nulled
length-nulled [] [] e = refl
length-nulled [] (v ∷ values) e = cc
length-nulled (b ∷ bytes) [] e = cc
length-nulled (b ∷ bytes) (v ∷ values) e = ap suc (length-nulled bytes values (omega (arith, e)))

pub nulled_at : (bytes : List ℕ) (values : List Value) (i : ℕ) → length bytes ≡ length values → get_or (nulled bytes values) i Null ≡ null_if (get_or bytes i 0 == 1) (get_or values i Null)
unfolding nulled
nulled_at [] [] i e = refl
nulled_at [] (v ∷ values) i e = cc
nulled_at (b ∷ bytes) [] i e = cc
nulled_at (b ∷ bytes) (v ∷ values) zero e = refl
nulled_at (b ∷ bytes) (v ∷ values) (suc i) e = nulled_at bytes values i (omega (arith, e))

pub nulled_none : nulled [] [] ≡ []
unfolding nulled
nulled_none = refl

-- ---- with a null map, or with none

pub leaf_length : (nulls : Option (Vec ℕ)) (values : List Value) → AreAsMany nulls values → length (leaf_values nulls values) ≡ length values
leaf_length None values whole = refl
leaf_length (Some nulls) values whole = length-nulled nulls.items values whole

pub leaf_at : (nulls : Option (Vec ℕ)) (values : List Value) (i : ℕ) → AreAsMany nulls values → get_or (leaf_values nulls values) i Null ≡ null_if (null_in nulls i) (get_or values i Null)
leaf_at None values i whole = refl
leaf_at (Some nulls) values i whole = nulled_at nulls.items values i whole

-- ---- one value more

-- the default is not NULL
pub default_real : (k : ItemKind) → is_null (default_item k) ≡ false
default_real k = not_null k (default_item k) (default_is_item k)

null_level : (v : Value) (l : Value-F Value) → out-Value v ≡ l → is_null v ≡ true → v ≡ Null
null_level v Value-F.Null is e = sym (roll-out-Value v) ∙ ap roll-Value (is ∙ sym outs-Null) ∙ roll-out-Value Null
null_level v (Value-F.Num n) is e = let bad : false ≡ true = sym (ap is_null_at is) ∙ e in cc
null_level v (Value-F.Huge n) is e = let bad : false ≡ true = sym (ap is_null_at is) ∙ e in cc
null_level v (Value-F.Text t) is e = let bad : false ≡ true = sym (ap is_null_at is) ∙ e in cc
null_level v (Value-F.List vs) is e = let bad : false ≡ true = sym (ap is_null_at is) ∙ e in cc
null_level v (Value-F.State s) is e = let bad : false ≡ true = sym (ap is_null_at is) ∙ e in cc

-- a value, its byte and its item
pub beside : (d v : Value) → is_null d ≡ false → IsBeside d (null_byte v) (or_default d v)
beside d v real = by_test (is_null v) refl
  where
    by_test : (b : Bool) → is_null v ≡ b → IsBeside d (if is_null v then 1 else 0) (if is_null v then d else v)
    by_test true e = inr (ap (λ (t : Bool). if t then 1 else 0) e, ap (λ (t : Bool). if t then d else v) e)
    by_test false e = inl (ap (λ (t : Bool). if t then 1 else 0) e, ap (λ (t : Bool). is_null (if t then d else v)) e ∙ e)

null_is : (v : Value) → is_null v ≡ true → v ≡ Null
null_is v e = null_level v (out-Value v) refl e

nulled_one : (d v : Value) → null_if (null_byte v == 1) (or_default d v) ≡ v
nulled_one d v = by_test (is_null v) refl
  where
    by_test : (b : Bool) → is_null v ≡ b → null_if ((if is_null v then 1 else 0) == 1) (if is_null v then d else v) ≡ v
    by_test true e = ap (λ (t : Bool). null_if ((if t then 1 else 0) == 1) (if t then d else v)) e ∙ sym (null_is v e)
    by_test false e = ap (λ (t : Bool). null_if ((if t then 1 else 0) == 1) (if t then d else v)) e

pointwise_push : {A B : Type 0} (R : A → B → Type 0) (xs : List A) (ys : List B) (x : A) (y : B) → Pointwise R xs ys → R x y → Pointwise R (xs ++ x ∷ []) (ys ++ y ∷ [])
pointwise_push R [] [] x y p r = (r, tt)
pointwise_push R [] (w ∷ ys) x y p r = absurd p
pointwise_push R (w ∷ xs) [] x y p r = absurd p
pointwise_push R (w ∷ xs) (z ∷ ys) x y p r = (p.0, pointwise_push R xs ys x y p.1 r)

nulled_more : (bytes : List ℕ) (items : List Value) (byte : ℕ) (item : Value) → length bytes ≡ length items → nulled (bytes ++ byte ∷ []) (items ++ item ∷ []) ≡ nulled bytes items ++ null_if (byte == 1) item ∷ []
unfolding nulled
nulled_more [] [] byte item e = refl
nulled_more [] (w ∷ items) byte item e = cc
nulled_more (b ∷ bytes) [] byte item e = cc
nulled_more (b ∷ bytes) (w ∷ items) byte item e = ap (λ (vs : List Value). null_if (b == 1) w ∷ vs) (nulled_more bytes items byte item (omega (arith, e)))

-- a null map and its items with one value more
module _ (k : ItemKind) (nulls : Option (Vec ℕ)) (bytes bytes' : Vec ℕ) (items items' : List Value) (v : Value) (is : nulls ≡ Some bytes) (has : HasNulls (default_item k) nulls items)
    (more : (bytes'.items ≡ bytes.items ++ null_byte v ∷ []) × (items' ≡ items ++ or_default (default_item k) v ∷ [])) where
  before : Pointwise (IsBeside (default_item k)) bytes.items items
  before = subst (λ (n : Option (Vec ℕ)). HasNulls (default_item k) n items) is has

  pub pushed_has : Pointwise (IsBeside (default_item k)) bytes'.items items'
  pushed_has =
      subst (λ (bs : List ℕ). Pointwise (IsBeside (default_item k)) bs items') (sym more.0)
      (subst (λ (vs : List Value). Pointwise (IsBeside (default_item k)) (bytes.items ++ null_byte v ∷ []) vs) (sym more.1)
      (pointwise_push (IsBeside (default_item k)) bytes.items items (null_byte v) (or_default (default_item k) v) before (beside (default_item k) v (default_real k))))

  pub pushed_values : (seen : List Value) → leaf_values nulls items ≡ seen → nulled bytes'.items items' ≡ seen ++ v ∷ []
  pushed_values seen view =
      ap₂ nulled more.0 more.1 ∙ nulled_more bytes.items items (null_byte v) (or_default (default_item k) v) (Pointwise-length (IsBeside (default_item k)) bytes.items items before)
      ∙ ap₂ (λ (vs : List Value) (w : Value). vs ++ w ∷ []) (sym (ap (λ (n : Option (Vec ℕ)). leaf_values n items) is) ∙ view) (nulled_one (default_item k) v)

-- and where memory was refused they are as they were
pub kept_has : (k k' : ItemKind) (nulls : Option (Vec ℕ)) (bytes bytes' : Vec ℕ) (items items' : List Value) (v : Value) (r : Result (Unit {0}) NoMemory) → k' ≡ k → nulls ≡ Some bytes → HasNulls (default_item k) nulls items
    → OnOk r ((bytes'.items ≡ bytes.items ++ null_byte v ∷ []) × (items' ≡ items ++ or_default (default_item k) v ∷ [])) → OnErr r ((bytes'.items ≡ bytes.items) × (items' ≡ items))
    → Pointwise (IsBeside (default_item k')) bytes'.items items'
kept_has k k' nulls bytes bytes' items items' v (Ok u) same is has ok err = subst (λ (j : ItemKind). Pointwise (IsBeside (default_item j)) bytes'.items items') (sym same) (pushed_has k nulls bytes bytes' items items' v is has ok)
kept_has k k' nulls bytes bytes' items items' v (Err e) same is has ok err =
    subst (λ (j : ItemKind). Pointwise (IsBeside (default_item j)) bytes'.items items') (sym same)
    (subst (λ (bs : List ℕ). Pointwise (IsBeside (default_item k)) bs items') (sym err.0)
    (subst (λ (vs : List Value). Pointwise (IsBeside (default_item k)) bytes.items vs) (sym err.1) (subst (λ (n : Option (Vec ℕ)). HasNulls (default_item k) n items) is has)))

-- ---- at some indexes

nulled_gathered : (bytes : List ℕ) (values : List Value) (order : List ℕ) → length bytes ≡ length values
    → nulled (map (λ i. get_or bytes i 0) order) (map (λ i. get_or values i Null) order) ≡ map (λ i. get_or (nulled bytes values) i Null) order
unfolding nulled
nulled_gathered bytes values [] e = refl
nulled_gathered bytes values (i ∷ order) e = ap₂ ◌∷◌ (sym (nulled_at bytes values i e)) (nulled_gathered bytes values order e)

pub gathered_alike : (order : List ℕ) (nulls gathered : Option (Vec ℕ)) → AreGathered order nulls gathered → is_nullable gathered ≡ is_nullable nulls
gathered_alike order None gathered e = e
gathered_alike order (Some nulls) None e = cc
gathered_alike order (Some nulls) (Some gathered) e = refl

pub gathered_whole : (order : List ℕ) (nulls gathered : Option (Vec ℕ)) (values values' : List Value) → AreGathered order nulls gathered → values' ≡ map (λ i. get_or values i Null) order → AreAsMany gathered values'
gathered_whole order None None values values' e is = tt
gathered_whole order None (Some gathered) values values' e is = cc
gathered_whole order (Some nulls) None values values' e is = cc
gathered_whole order (Some nulls) (Some gathered) values values' e is =
    ap (λ (bs : List ℕ). length bs) e ∙ length-map order (λ i. get_or nulls.items i 0) ∙ sym (length-map order (λ i. get_or values i Null)) ∙ ap (λ (vs : List Value). length vs) (sym is)

pub gathered_leaf : (order : List ℕ) (nulls gathered : Option (Vec ℕ)) (values values' seen : List Value) → AreGathered order nulls gathered → AreAsMany nulls values → leaf_values nulls values ≡ seen → values' ≡ map (λ i. get_or values i Null) order
    → leaf_values gathered values' ≡ map (λ i. get_or seen i Null) order
gathered_leaf order None None values values' seen e whole view is = is ∙ ap (λ (vs : List Value). map (λ i. get_or vs i Null) order) view
gathered_leaf order None (Some gathered) values values' seen e whole view is = cc
gathered_leaf order (Some nulls) None values values' seen e whole view is = cc
gathered_leaf order (Some nulls) (Some gathered) values values' seen e whole view is =
    ap₂ nulled e is ∙ nulled_gathered nulls.items values order whole ∙ ap (λ (vs : List Value). map (λ i. get_or vs i Null) order) view

-- ---- a range more

nulled-append : (b1 b2 : List ℕ) (v1 v2 : List Value) → length b1 ≡ length v1 → nulled (b1 ++ b2) (v1 ++ v2) ≡ nulled b1 v1 ++ nulled b2 v2
unfolding nulled
nulled-append [] b2 [] v2 e = refl
nulled-append [] b2 (v ∷ v1) v2 e = cc
nulled-append (b ∷ b1) b2 [] v2 e = cc
nulled-append (b ∷ b1) b2 (v ∷ v1) v2 e = ap (λ (vs : List Value). null_if (b == 1) v ∷ vs) (nulled-append b1 b2 v1 v2 (omega (arith, e)))

nulled-take : (n : ℕ) (bytes : List ℕ) (values : List Value) → length bytes ≡ length values → nulled (take n bytes) (take n values) ≡ take n (nulled bytes values)
unfolding nulled
nulled-take zero bytes values e = refl
nulled-take (suc n) [] [] e = refl
nulled-take (suc n) [] (v ∷ values) e = cc
nulled-take (suc n) (b ∷ bytes) [] e = cc
nulled-take (suc n) (b ∷ bytes) (v ∷ values) e = ap (λ (vs : List Value). null_if (b == 1) v ∷ vs) (nulled-take n bytes values (omega (arith, e)))

nulled-drop : (n : ℕ) (bytes : List ℕ) (values : List Value) → length bytes ≡ length values → nulled (drop n bytes) (drop n values) ≡ drop n (nulled bytes values)
unfolding nulled
nulled-drop zero bytes values e = refl
nulled-drop (suc n) [] [] e = refl
nulled-drop (suc n) [] (v ∷ values) e = cc
nulled-drop (suc n) (b ∷ bytes) [] e = cc
nulled-drop (suc n) (b ∷ bytes) (v ∷ values) e = nulled-drop n bytes values (omega (arith, e))

range_length : {X Y : Type 0} (n from : ℕ) (xs : List X) (ys : List Y) → length xs ≡ length ys → length (take n (drop from xs)) ≡ length (take n (drop from ys))
range_length n from xs ys e =
    length-take n (drop from xs) ∙ ap (min n) (length-drop from xs ∙ ap (λ (m : ℕ). m - from) e ∙ sym (length-drop from ys)) ∙ sym (length-take n (drop from ys))

nulled_range : (n from : ℕ) (bytes : List ℕ) (values : List Value) → length bytes ≡ length values → nulled (take n (drop from bytes)) (take n (drop from values)) ≡ take n (drop from (nulled bytes values))
nulled_range n from bytes values e =
    let left : length (drop from bytes) ≡ length (drop from values) = length-drop from bytes ∙ ap (λ (m : ℕ). m - from) e ∙ sym (length-drop from values) in
    nulled-take n (drop from bytes) (drop from values) left ∙ ap (take n) (nulled-drop from bytes values e)

pub more_alike : (from to : ℕ) (other nulls more : Option (Vec ℕ)) → AreMore from to other nulls more → is_nullable more ≡ is_nullable nulls
more_alike from to other None more e = e
more_alike from to None (Some nulls) more e = cc
more_alike from to (Some other) (Some nulls) None e = cc
more_alike from to (Some other) (Some nulls) (Some more) e = refl

pub more_whole : (from to : ℕ) (other nulls more : Option (Vec ℕ)) (others values values' : List Value) → AreMore from to other nulls more → AreAsMany other others → AreAsMany nulls values → values' ≡ values ++ take (to - from) (drop from others)
    → AreAsMany more values'
more_whole from to other None None others values values' e of_other whole is = tt
more_whole from to other None (Some more) others values values' e of_other whole is = cc
more_whole from to None (Some nulls) more others values values' e of_other whole is = cc
more_whole from to (Some other) (Some nulls) None others values values' e of_other whole is = cc
more_whole from to (Some other) (Some nulls) (Some more) others values values' e of_other whole is =
    ap (λ (bs : List ℕ). length bs) e ∙ length-append nulls.items (take (to - from) (drop from other.items))
    ∙ ap₂ ◌+◌ whole (range_length (to - from) from other.items others of_other)
    ∙ sym (length-append values (take (to - from) (drop from others))) ∙ ap (λ (vs : List Value). length vs) (sym is)

pub more_leaf : (from to : ℕ) (other nulls more : Option (Vec ℕ)) (others values values' seen seen' : List Value) → AreMore from to other nulls more → is_nullable other ≡ is_nullable nulls → AreAsMany other others → AreAsMany nulls values → values' ≡ values ++ take (to - from) (drop from others)
    → leaf_values nulls values ≡ seen → leaf_values other others ≡ seen' → leaf_values more values' ≡ seen ++ take (to - from) (drop from seen')
more_leaf from to None None None others values values' seen seen' e alike of_other whole is view view' = is ∙ ap₂ (λ (vs ws : List Value). vs ++ take (to - from) (drop from ws)) view view'
more_leaf from to (Some other) None None others values values' seen seen' e alike of_other whole is view view' = cc
more_leaf from to other None (Some more) others values values' seen seen' e alike of_other whole is view view' = cc
more_leaf from to None (Some nulls) more others values values' seen seen' e alike of_other whole is view view' = cc
more_leaf from to (Some other) (Some nulls) None others values values' seen seen' e alike of_other whole is view view' = cc
more_leaf from to (Some other) (Some nulls) (Some more) others values values' seen seen' e alike of_other whole is view view' =
    ap₂ nulled e is ∙ nulled-append nulls.items (take (to - from) (drop from other.items)) values (take (to - from) (drop from others)) whole
    ∙ ap₂ ◌++◌ view (nulled_range (to - from) from other.items others of_other ∙ ap (λ (ws : List Value). take (to - from) (drop from ws)) view')

pub null_bytes : (nulls : Option (Vec ℕ)) (values : List Value) (n : ℕ) → AreAsMany nulls values → n ≤ length values → IfSome nulls (λ bytes. n ≤ length bytes.items)
null_bytes None values n whole h = tt
null_bytes (Some nulls) values n whole h = omega (arith, whole, h)

-- ---- a null map at some indexes, and with a range of another behind

pointwise_at : {A B : Type 0} (R : A → B → Type 0) (xs : List A) (ys : List B) (i : ℕ) (x : A) (y : B) → Pointwise R xs ys → i < length ys → R (get_or xs i x) (get_or ys i y)
pointwise_at R [] [] i x y p h = absurd (omega (arith, h))
pointwise_at R [] (w ∷ ys) i x y p h = absurd p
pointwise_at R (w ∷ xs) [] i x y p h = absurd p
pointwise_at R (w ∷ xs) (z ∷ ys) zero x y p h = p.0
pointwise_at R (w ∷ xs) (z ∷ ys) (suc i) x y p h = pointwise_at R xs ys i x y p.1 (omega (arith, h))

pointwise_gathered : (d : Value) (bytes : List ℕ) (items : List Value) (order : List ℕ) → Pointwise (IsBeside d) bytes items → All (λ i. i < length items) order
    → Pointwise (IsBeside d) (map (λ i. get_or bytes i 0) order) (map (λ i. get_or items i Null) order)
pointwise_gathered d bytes items [] p all = tt
pointwise_gathered d bytes items (i ∷ order) p all =
    (pointwise_at (IsBeside d) bytes items i 0 Null p (All-head (λ i. i < length items) i order all), pointwise_gathered d bytes items order p (All-tail (λ i. i < length items) i order all))

pub gathered_has : (d : Value) (order : List ℕ) (nulls gathered : Option (Vec ℕ)) (items items' : List Value) → AreGathered order nulls gathered → HasNulls d nulls items → All (λ i. i < length items) order → items' ≡ map (λ i. get_or items i Null) order
    → HasNulls d gathered items'
gathered_has d order None None items items' e has all is = tt
gathered_has d order None (Some gathered) items items' e has all is = cc
gathered_has d order (Some nulls) None items items' e has all is = cc
gathered_has d order (Some nulls) (Some gathered) items items' e has all is =
    subst (λ (bs : List ℕ). Pointwise (IsBeside d) bs items') (sym e)
    (subst (λ (vs : List Value). Pointwise (IsBeside d) (map (λ i. get_or nulls.items i 0) order) vs) (sym is) (pointwise_gathered d nulls.items items order has all))

pointwise_append : {A B : Type 0} (R : A → B → Type 0) (xs xs' : List A) (ys ys' : List B) → Pointwise R xs ys → Pointwise R xs' ys' → Pointwise R (xs ++ xs') (ys ++ ys')
pointwise_append R [] xs' [] ys' p q = q
pointwise_append R [] xs' (y ∷ ys) ys' p q = absurd p
pointwise_append R (x ∷ xs) xs' [] ys' p q = absurd p
pointwise_append R (x ∷ xs) xs' (y ∷ ys) ys' p q = (p.0, pointwise_append R xs xs' ys ys' p.1 q)

pointwise_take : {A B : Type 0} (R : A → B → Type 0) (n : ℕ) (xs : List A) (ys : List B) → Pointwise R xs ys → Pointwise R (take n xs) (take n ys)
pointwise_take R zero xs ys p = tt
pointwise_take R (suc n) [] [] p = tt
pointwise_take R (suc n) [] (y ∷ ys) p = absurd p
pointwise_take R (suc n) (x ∷ xs) [] p = absurd p
pointwise_take R (suc n) (x ∷ xs) (y ∷ ys) p = (p.0, pointwise_take R n xs ys p.1)

pointwise_drop : {A B : Type 0} (R : A → B → Type 0) (n : ℕ) (xs : List A) (ys : List B) → Pointwise R xs ys → Pointwise R (drop n xs) (drop n ys)
pointwise_drop R zero xs ys p = p
pointwise_drop R (suc n) [] [] p = tt
pointwise_drop R (suc n) [] (y ∷ ys) p = absurd p
pointwise_drop R (suc n) (x ∷ xs) [] p = absurd p
pointwise_drop R (suc n) (x ∷ xs) (y ∷ ys) p = pointwise_drop R n xs ys p.1

pub more_has : (d : Value) (from to : ℕ) (other nulls more : Option (Vec ℕ)) (others items items' : List Value) → AreMore from to other nulls more → HasNulls d other others → HasNulls d nulls items → items' ≡ items ++ take (to - from) (drop from others)
    → HasNulls d more items'
more_has d from to other None None others items items' e of_other has is = tt
more_has d from to other None (Some more) others items items' e of_other has is = cc
more_has d from to None (Some nulls) more others items items' e of_other has is = cc
more_has d from to (Some other) (Some nulls) None others items items' e of_other has is = cc
more_has d from to (Some other) (Some nulls) (Some more) others items items' e of_other has is =
    let range = take (to - from) (drop from other.items) in
    let both = pointwise_append (IsBeside d) nulls.items range items (take (to - from) (drop from others)) has (pointwise_take (IsBeside d) (to - from) (drop from other.items) (drop from others) (pointwise_drop (IsBeside d) from other.items others of_other)) in
    subst (λ (bs : List ℕ). Pointwise (IsBeside d) bs items') (sym e)
    (subst (λ (vs : List Value). Pointwise (IsBeside d) (nulls.items ++ range) vs) (sym is) both)

-- ---- the substreams of the values

byte_back : (d : Value) (byte : ℕ) (item : Value) → is_null d ≡ false → IsBeside d byte item → byte ≡ null_byte (null_if (byte == 1) item)
byte_back d byte item real (inl h) = h.0 ∙ sym (ap (λ (n : ℕ). null_byte (null_if (n == 1) item)) h.0 ∙ ap (λ (b : Bool). if b then 1 else 0) h.1)
byte_back d byte item real (inr h) = h.0 ∙ sym (ap (λ (n : ℕ). null_byte (null_if (n == 1) item)) h.0 ∙ ap (λ (l : Value-F Value). if is_null_at l then 1 else 0) outs-Null)

item_back : (d : Value) (byte : ℕ) (item : Value) → IsBeside d byte item → item ≡ or_default d (null_if (byte == 1) item)
item_back d byte item (inl h) = sym (ap (λ (n : ℕ). or_default d (null_if (n == 1) item)) h.0 ∙ ap (λ (b : Bool). if b then d else item) h.1)
item_back d byte item (inr h) = h.1 ∙ sym (ap (λ (n : ℕ). or_default d (null_if (n == 1) item)) h.0 ∙ ap (λ (l : Value-F Value). if is_null_at l then d else Null) outs-Null)

bytes_back : (d : Value) (bytes : List ℕ) (items : List Value) → is_null d ≡ false → Pointwise (IsBeside d) bytes items → bytes ≡ map null_byte (nulled bytes items)
unfolding nulled
bytes_back d [] [] real p = refl
bytes_back d [] (item ∷ items) real p = absurd p
bytes_back d (byte ∷ bytes) [] real p = absurd p
bytes_back d (byte ∷ bytes) (item ∷ items) real p = ap₂ ◌∷◌ (byte_back d byte item real p.0) (bytes_back d bytes items real p.1)

items_back : (d : Value) (bytes : List ℕ) (items : List Value) → Pointwise (IsBeside d) bytes items → items ≡ map (or_default d) (nulled bytes items)
unfolding nulled
items_back d [] [] p = refl
items_back d [] (item ∷ items) p = absurd p
items_back d (byte ∷ bytes) [] p = absurd p
items_back d (byte ∷ bytes) (item ∷ items) p = ap₂ ◌∷◌ (item_back d byte item p.0) (items_back d bytes items p.1)

real_items : (d : Value) (items : List Value) → list_all is_item items ≡ true → items ≡ map (or_default d) items
real_items d [] all = refl
real_items d (item ∷ items) all =
    let parts = and_parts (is_item item) (list_all is_item items) all in
    ap₂ ◌∷◌ (sym (ap (λ (b : Bool). if b then d else item) (not_is (is_null item) parts.0))) (real_items d items parts.1)
  where
    not_is : (b : Bool) → not b ≡ true → b ≡ false
    not_is false e = refl
    not_is true e = cc

-- the items are the values, with the default under NULL
pub items_are : (d : Value) (nulls : Option (Vec ℕ)) (items seen : List Value) → HasNulls d nulls items → list_all is_item items ≡ true → leaf_values nulls items ≡ seen → items ≡ map (or_default d) seen
items_are d None items seen has all view = real_items d items all ∙ ap (map (or_default d)) view
items_are d (Some nulls) items seen has all view = items_back d nulls.items items has ∙ ap (map (or_default d)) view

-- the null map has the values' bytes
pub null_map_is : (k : ItemKind) (nulls : Option (Vec ℕ)) (bytes : Vec ℕ) (items seen : List Value) → nulls ≡ Some bytes → HasNulls (default_item k) nulls items → leaf_values nulls items ≡ seen → bytes.items ≡ map null_byte seen
null_map_is k nulls bytes items seen is has view =
    bytes_back (default_item k) bytes.items items (default_real k) (subst (λ (n : Option (Vec ℕ)). HasNulls (default_item k) n items) is has)
    ∙ ap (map null_byte) (sym (ap (λ (n : Option (Vec ℕ)). leaf_values n items) is) ∙ view)

-- ---- which values may be pushed

-- all but NULL are items
pub seen_fits : (nullable : Bool) (k : ItemKind) (s : Seen) → (s ≡ seen.Null → ⊥) → leaf_fits nullable k (value_seen s) ≡ true → fits_items k (value_seen s) ≡ true
seen_fits false k s other h = h
seen_fits true k s other h = sym (ap (λ (l : Value-F Value). null_at l || fits_items k (value_seen s)) (out_seen s) ∙ ap (λ (b : Bool). b || fits_items k (value_seen s)) (shown s other)) ∙ h
  where
    shown : (s : Seen) → (s ≡ seen.Null → ⊥) → null_at (level_seen s) ≡ false
    shown (seen.Num n) other = refl
    shown (seen.Huge n) other = refl
    shown (seen.Text bytes) other = refl
    shown seen.Null other = absurd (other refl)
    shown (seen.List items) other = refl
    shown (seen.State s) other = refl

seen_real : (s : Seen) → (s ≡ seen.Null → ⊥) → is_null (value_seen s) ≡ false
seen_real s other = ap is_null_at (out_seen s) ∙ real s other
  where
    real : (s : Seen) → (s ≡ seen.Null → ⊥) → is_null_at (level_seen s) ≡ false
    real (seen.Num n) other = refl
    real (seen.Huge n) other = refl
    real (seen.Text bytes) other = refl
    real seen.Null other = absurd (other refl)
    real (seen.List items) other = refl
    real (seen.State s) other = refl

-- the byte and the item of a value that is not NULL
pub seen_byte : (s : Seen) → (s ≡ seen.Null → ⊥) → null_byte (value_seen s) ≡ 0
seen_byte s other = ap (λ (b : Bool). if b then 1 else 0) (seen_real s other)

pub seen_item : (d : Value) (s : Seen) → (s ≡ seen.Null → ⊥) → or_default d (value_seen s) ≡ value_seen s
seen_item d s other = ap (λ (b : Bool). if b then d else value_seen s) (seen_real s other)

-- and those of NULL
pub null_has_byte : null_byte Null ≡ 1
null_has_byte = ap (λ (l : Value-F Value). if is_null_at l then 1 else 0) outs-Null

pub null_has_item : (d : Value) → or_default d Null ≡ d
null_has_item d = ap (λ (l : Value-F Value). if is_null_at l then d else Null) outs-Null

-- ---- the default brought under NULL

under-nothing : (d : Value) → under_nulls d [] [] ≡ []
unfolding under_nulls
under-nothing d = refl

under-more : (d : Value) (bytes : List ℕ) (items : List Value) (byte : ℕ) (item : Value) → length bytes ≡ length items → under_nulls d (bytes ++ byte ∷ []) (items ++ item ∷ []) ≡ under_nulls d bytes items ++ (if byte == 1 then d else item) ∷ []
unfolding under_nulls
under-more d [] [] byte item e = refl
under-more d [] (w ∷ items) byte item e = cc
under-more d (b ∷ bytes) [] byte item e = cc
under-more d (b ∷ bytes) (w ∷ items) byte item e = ap (λ (vs : List Value). (if b == 1 then d else w) ∷ vs) (under-more d bytes items byte item (omega (arith, e)))

-- one index more
pub under_step : (d : Value) (bytes : List ℕ) (items : List Value) (i : ℕ) → length bytes ≡ length items → i < length bytes
    → under_nulls d (take (i + 1) bytes) (take (i + 1) items) ≡ under_nulls d (take i bytes) (take i items) ++ (if get_or bytes i 0 == 1 then d else get_or items i Null) ∷ []
under_step d bytes items i e h =
    let there : i < length items = omega (arith, e, h) in
    let long : length (take i bytes) ≡ length (take i items) = length-take i bytes ∙ ap (min i) e ∙ sym (length-take i items) in
    ap₂ (under_nulls d) (take_more bytes i 0 h) (take_more items i Null there) ∙ under-more d (take i bytes) (take i items) (get_or bytes i 0) (get_or items i Null) long

pub under_none : (d : Value) (bytes : List ℕ) (items : List Value) → under_nulls d (take 0 bytes) (take 0 items) ≡ []
under_none d bytes items = under-nothing d

pub under_all : (d : Value) (bytes : List ℕ) (items : List Value) (i : ℕ) → length bytes ≡ length items → length bytes ≤ i → under_nulls d (take i bytes) (take i items) ≡ under_nulls d bytes items
under_all d bytes items i e h = ap₂ (under_nulls d) (take_all i bytes h) (take_all i items (omega (arith, e, h)))

-- an item that may stand there
pub kept_item : (d : Value) (byte : ℕ) (item : Value) → (byte ≡ 1 → item ≡ d) → (if byte == 1 then d else item) ≡ item
kept_item d byte item stands = elim (cases_Bool (byte == 1)) [
  | inl one ↦ ap (λ (b : Bool). if b then d else item) one ∙ sym (stands (eqb-true byte 1 one))
  | inr other ↦ ap (λ (b : Bool). if b then d else item) other
]

nulled_one_under : (d : Value) (byte : ℕ) (item : Value) → null_if (byte == 1) (if byte == 1 then d else item) ≡ null_if (byte == 1) item
nulled_one_under d byte item = by_test (byte == 1)
  where
    by_test : (b : Bool) → null_if b (if b then d else item) ≡ null_if b item
    by_test true = refl
    by_test false = refl

-- no value changes
pub nulled_under : (d : Value) (bytes : List ℕ) (items : List Value) → length bytes ≡ length items → nulled bytes (under_nulls d bytes items) ≡ nulled bytes items
unfolding nulled under_nulls
nulled_under d [] [] e = refl
nulled_under d [] (item ∷ items) e = cc
nulled_under d (byte ∷ bytes) [] e = cc
nulled_under d (byte ∷ bytes) (item ∷ items) e = ap₂ ◌∷◌ (nulled_one_under d byte item) (nulled_under d bytes items (omega (arith, e)))

beside_under : (d : Value) (byte : ℕ) (item : Value) → byte ≤ 1 → is_item item ≡ true → IsBeside d byte (if byte == 1 then d else item)
beside_under d zero item bit real = inl (refl, real_item (is_null item) real)
  where
    real_item : (b : Bool) → not b ≡ true → b ≡ false
    real_item false e = refl
    real_item true e = cc
beside_under d (suc zero) item bit real = inr (refl, refl)
beside_under d (suc (suc n)) item bit real = absurd (omega (arith, bit))

-- so the invariant holds
pub has_under : (d : Value) (bytes : List ℕ) (items : List Value) → length bytes ≡ length items → All (λ b. b ≤ 1) bytes → list_all is_item items ≡ true → Pointwise (IsBeside d) bytes (under_nulls d bytes items)
unfolding under_nulls
has_under d [] [] e bits real = tt
has_under d [] (item ∷ items) e bits real = cc
has_under d (byte ∷ bytes) [] e bits real = cc
has_under d (byte ∷ bytes) (item ∷ items) e bits real =
    let parts = and_parts (is_item item) (list_all is_item items) real in
    (beside_under d byte item (All-head (λ b. b ≤ 1) byte bytes bits) parts.0, has_under d bytes items (omega (arith, e)) (All-tail (λ b. b ≤ 1) byte bytes bits) parts.1)

-- ---- no Huge

not_huge_at : (vs : List Value) (i : ℕ) → list_all is_no_huge vs ≡ true → is_no_huge (get_or vs i Null) ≡ true
not_huge_at [] i all = ap (λ (l : Value-F Value). not (huge_at l)) outs-Null
not_huge_at (v ∷ vs) zero all = (and_parts (is_no_huge v) (list_all is_no_huge vs) all).0
not_huge_at (v ∷ vs) (suc i) all = not_huge_at vs i (and_parts (is_no_huge v) (list_all is_no_huge vs) all).1

null_or_not_huge : (b : Bool) (v : Value) → is_no_huge v ≡ true → is_no_huge (null_if b v) ≡ true
null_or_not_huge true v h = ap (λ (l : Value-F Value). not (huge_at l)) outs-Null
null_or_not_huge false v h = h

pub leaf_not_huge : (nulls : Option (Vec ℕ)) (items seen : List Value) → AreAsMany nulls items → leaf_values nulls items ≡ seen → list_all is_no_huge items ≡ true → AreNotHuge seen
leaf_not_huge nulls items seen whole view all i =
    ap (λ (vs : List Value). is_no_huge (get_or vs i Null)) (sym view) ∙ ap is_no_huge (leaf_at nulls items i whole) ∙ null_or_not_huge (null_in nulls i) (get_or items i Null) (not_huge_at items i all)
