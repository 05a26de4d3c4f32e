-- The boxes between two keys hold exactly the keys between them.
use Rattle.std.proofs.Common.{inl, inr, get_or, ◌≡◌, ℕ, zero, suc, ◌-◌, ◌^◌, ◌<◌, ℤ, pos, negsuc, Bool, true, false, ◌||◌, ◌&&◌, List, [], ◌∷◌, ◌++◌, length, ◌==◌, map, refl, ap, sym, subst, ◌∙◌, arith, Option, Some, None}
use Rattle.std.specs.Prelude.{◌+ℤ◌, ◌-ℤ◌, int_lt, nat_le, nat_lt, ◌⊎◌, if◌then◌else◌}
use Rattle.std.specs.List.{list_all, list_any}
use Rattle.std.specs.Ordering.{ordering_then, ordering_reverse, int_cmp, nat_cmp, is_eq, is_le, is_lt, is_gt, is_ge}
use Rattle.std.specs.declared.cmp.Ordering.{Ordering}
use Rattle.std.specs.declared.cmp.Ordering.TheVariants.{Less, Equal, Greater}
use Rattle.std.specs.Cmp.{first_so, ranks, second_so}
use Rattle.std.proofs.lemmas.Cmp.{by_ranked}
use Rattle.mt_types.specs.declared.ty.Width.{Width}
use Rattle.mt_types.specs.declared.ty.Width.TheVariants.{W16, W32}
use Rattle.mt_types.specs.declared.ty.Ty.{Ty, out-Ty, map-Ty}
use Rattle.mt_types.specs.declared.ty.Ty.TheOpen.{Ty-F}
use Rattle.mt_types.specs.declared.ty.Ty.TheFolds.{fold_out-Ty}
use Rattle.mt_types.specs.declared.value.Value.{Value, out-Value}
use Rattle.mt_types.specs.declared.value.Value.TheOpen.{Value-F}
use Rattle.mt_types.specs.declared.value.Value.TheVariants.{Num, Huge, outs-Num, outs-Huge}
use Rattle.mt_types.specs.Bytes.{is_byte}
use Rattle.mt_types.specs.declared.limits.TheConstants.{MAX_TEXT}
use Rattle.mt_types.specs.Fits.{Level, bits, is_unsigned, is_signed, natural_at, num_at, number_value, text_at, fits_of, fits_step}
use Rattle.mt_types.specs.Order.{value_cmp, values_cmp}
use Rattle.mt_table.specs.ColumnTypes.{is_key_at}
use Rattle.mt_cond.specs.declared.types.End.{End}
use Rattle.mt_cond.specs.declared.types.End.TheVariants.{Free, At, Past}
use Rattle.mt_cond.specs.declared.types.Interval.{Interval}
use Rattle.mt_cond.specs.declared.ranges.Range.{Range}
use Rattle.mt_cond.specs.Intervals.{above_low, below_high, is_in}
use Rattle.mt_cond.specs.Intervals.{span}
use Rattle.mt_cond.specs.Cover.{range_at, unsigned_range, signed_range, end_after, next_end, former_end, free_low, free_high, past_low, past_high, is_void, ends_empty, some_box, Spans, point, from_key, to_key, spans_between}
use Rattle.mt_cond.specs.Keys.{are_key_types, key_fits}
use Rattle.std.proofs.lemmas.Bool.{le-ltb, lt-ltb, ltb-false, ltb-true}
use Rattle.mt_facts.proofs.Orderings.{not_gt_from_le}
use Rattle.mt_types.proofs.NumberLemmas.{natural_is, num_is, number_num}
use Rattle.mt_table.proofs.WidthLemmas.{signed_wide}
use Rattle.mt_cond.proofs.LevelLemmas.{cmp_of, level_cmp}
use Rattle.mt_cond.proofs.OrderLemmas.{turned, less, more, left, right}

-- which keys lie in a box
abbrev pub lies : Spans → List Value → Bool
lies [] vs = true
lies (i ∷ is) [] = true
lies (i ∷ is) (v ∷ vs) = is_in i v && lies is vs

-- ---- one column

-- what the ends of intervals say of a value k, where an interval is to end past l
record Ends (r : Option Range) (l k : Value) : Type 0 where
  past_lows : above_low (past_low r l) k ≡ is_lt (value_cmp l k)
  past_highs : below_high (past_high r l) k ≡ is_lt (value_cmp k l)
  free_lows : above_low (free_low r) k ≡ true
  free_highs : below_high (free_high r) k ≡ true
  turned : value_cmp k l ≡ ordering_reverse (value_cmp l k)

record Within (r : Range) (v : Value) : Type 0 where
  number : ℤ
  is : v ≡ number_value number
  least : number_value r.least ≡ Num r.least
  low : is_le (int_cmp r.least number) ≡ true
  high : is_le (int_cmp number (pos r.greatest)) ≡ true

-- a text, or a number within the range
abbrev Held : Option Range → Value → Type 0
Held None v = (x : List ℕ) × (out-Value v ≡ Value-F.Text x)
Held (Some r) v = Within r v

-- the level of a number
abbrev number_level : ℤ → Level
number_level (pos n) = if nat_lt n (2 ^ 127) then Value-F.Num (pos n) else Value-F.Huge n
number_level (negsuc n) = Value-F.Num (negsuc n)

out_number : (a : ℤ) → out-Value (number_value a) ≡ number_level a
out_number (pos n) = by (nat_lt n (2 ^ 127))
  where
    by : (b : Bool) → out-Value (if b then Num (pos n) else Huge n) ≡ (if b then Value-F.Num (pos n) else Value-F.Huge n)
    by true = outs-Num (pos n)
    by false = outs-Huge n
out_number (negsuc n) = outs-Num (negsuc n)

nat_int : (m n : ℕ) → nat_cmp m n ≡ int_cmp (pos m) (pos n)
nat_int m n = by_ranked (m < n) (m ≡ n) (n < m) (nat_cmp m n) (ranks m n)
    (λ e less. e ∙ rw (lt-ltb m n less) refl)
    (λ e same. e ∙ rw (le-ltb m n (omega (arith, same)), le-ltb n m (omega (arith, same))) refl)
    (λ e more. e ∙ rw (le-ltb m n (omega (arith, more)), lt-ltb n m more) refl)

cmp_naturals : (m n : ℕ) (b c : Bool) → nat_lt m (2 ^ 127) ≡ b → nat_lt n (2 ^ 127) ≡ c
    → level_cmp (if b then Value-F.Num (pos m) else Value-F.Huge m) (if c then Value-F.Num (pos n) else Value-F.Huge n) ≡ int_cmp (pos m) (pos n)
cmp_naturals m n true true p q = refl
cmp_naturals m n true false p q =
    let low = ltb-true m (2 ^ 127) p in
    let high = ltb-false n (2 ^ 127) q in
    rw (lt-ltb m n (omega (arith, low, high))) refl
cmp_naturals m n false true p q =
    let high = ltb-false m (2 ^ 127) p in
    let low = ltb-true n (2 ^ 127) q in
    rw (le-ltb m n (omega (arith, low, high)), lt-ltb n m (omega (arith, low, high))) refl
cmp_naturals m n false false p q = nat_int m n

cmp_numbers : (a b : ℤ) → level_cmp (number_level a) (number_level b) ≡ int_cmp a b
cmp_numbers (pos m) (pos n) = cmp_naturals m n (nat_lt m (2 ^ 127)) (nat_lt n (2 ^ 127)) refl refl
cmp_numbers (pos m) (negsuc n) = by (nat_lt m (2 ^ 127))
  where
    by : (b : Bool) → level_cmp (if b then Value-F.Num (pos m) else Value-F.Huge m) (Value-F.Num (negsuc n)) ≡ int_cmp (pos m) (negsuc n)
    by true = refl
    by false = refl
cmp_numbers (negsuc m) (pos n) = by (nat_lt n (2 ^ 127))
  where
    by : (b : Bool) → level_cmp (Value-F.Num (negsuc m)) (if b then Value-F.Num (pos n) else Value-F.Huge n) ≡ int_cmp (negsuc m) (pos n)
    by true = refl
    by false = refl
cmp_numbers (negsuc m) (negsuc n) = refl

-- numbers compare by what they are
nums_cmp : (a b : ℤ) → value_cmp (number_value a) (number_value b) ≡ int_cmp a b
nums_cmp a b = cmp_of (number_value a) (number_value b) (number_level a) (number_level b) (out_number a) (out_number b) ∙ cmp_numbers a b

above_next : (a b : ℤ) → is_le (int_cmp (a +ℤ pos 1) b) ≡ is_lt (int_cmp a b)
above_next a b = grind arith

below_former : (a b : ℤ) → is_le (int_cmp a (b -ℤ pos 1)) ≡ is_lt (int_cmp a b)
below_former a b = grind arith

-- a number that isn't from 2 ^ 127 on
abbrev is_num : ℤ → Bool
is_num (pos n) = nat_lt n (2 ^ 127)
is_num (negsuc n) = true

former_pos : (n : ℕ) → pos (suc n) -ℤ pos 1 ≡ pos n
former_pos n = grind arith

former_neg : (n : ℕ) → negsuc n -ℤ pos 1 ≡ negsuc (suc n)
former_neg n = grind arith

-- the former of such a number is Num
former_num : (n : ℤ) → is_num n ≡ true → number_value (n -ℤ pos 1) ≡ Num (n -ℤ pos 1)
former_num (pos zero) h = refl
former_num (pos (suc n)) h =
    ap (λ m. number_value m) (former_pos n) ∙ number_num (pos n) (lt-ltb n (2 ^ 127) (let less = ltb-true (suc n) (2 ^ 127) h in omega (arith, less))) ∙ sym (ap (λ m. Num m) (former_pos n))
former_num (negsuc n) h = ap (λ m. number_value m) (former_neg n) ∙ sym (ap (λ m. Num m) (former_neg n))

next_neg : (n : ℕ) → negsuc (suc n) +ℤ pos 1 ≡ negsuc n
next_neg n = grind arith

-- the next of a number below 0 is Num, and every type has it
pub after_negative : (r : Range) (v : Value) (n : ℤ) → int_lt n (pos 0) ≡ true → end_after r v n ≡ At (Num (n +ℤ pos 1))
after_negative r v (pos n) h = absurd (grind (arith, h))
after_negative r v (negsuc zero) h = refl
after_negative r v (negsuc (suc n)) h = ap (λ m. At (number_value m)) (next_neg n) ∙ sym (ap (λ m. At (Num m)) (next_neg n))

module _ (r : Range) (a b : ℤ) where
  -- past a number is at the next, or past it
  past_after : above_low (end_after r (number_value a) a) (number_value b) ≡ is_lt (value_cmp (number_value a) (number_value b))
  past_after = by (is_lt (int_cmp a (pos r.greatest)))
    where
      by : (t : Bool) → above_low (if t then At (number_value (a +ℤ pos 1)) else Past (number_value a)) (number_value b) ≡ is_lt (value_cmp (number_value a) (number_value b))
      by true = ap is_le (nums_cmp (a +ℤ pos 1) b) ∙ above_next a b ∙ ap is_lt (sym (nums_cmp a b))
      by false = refl

  next_is : next_end r (number_value a) (number_level a) ≡ end_after r (number_value a) a
  next_is = by a
    where
      naturals : (v : Value) (n : ℕ) (b : Bool) → next_end r v (if b then Value-F.Num (pos n) else Value-F.Huge n) ≡ end_after r v (pos n)
      naturals v n true = refl
      naturals v n false = refl

      by : (n : ℤ) → next_end r (number_value a) (number_level n) ≡ end_after r (number_value a) n
      by (pos n) = naturals (number_value a) n (nat_lt n (2 ^ 127))
      by (negsuc n) = refl

  past_next : above_low (next_end r (number_value a) (out-Value (number_value a))) (number_value b) ≡ is_lt (value_cmp (number_value a) (number_value b))
  past_next = ap (λ level. above_low (next_end r (number_value a) level) (number_value b)) (out_number a) ∙ ap (λ e. above_low e (number_value b)) next_is ∙ past_after

  -- up to a number is at the former, or up to it
  up_to_num : (n : ℤ) → is_le (value_cmp (number_value b) (number_value (n -ℤ pos 1))) ≡ is_lt (int_cmp b n)
  up_to_num n = ap is_le (nums_cmp b (n -ℤ pos 1)) ∙ below_former b n

  huge_former : (n : ℕ) → 0 < n → is_le (value_cmp (number_value b) (number_value (pos (n - 1)))) ≡ is_lt (int_cmp b (pos n))
  huge_former zero some = absurd (omega (arith, some))
  huge_former (suc n) some =
      let same : pos (suc n - 1) ≡ pos (suc n) -ℤ pos 1 = grind arith in
      ap (λ m. is_le (value_cmp (number_value b) (number_value m))) same ∙ up_to_num (pos (suc n))

  former_by : number_value (a -ℤ pos 1) ≡ Num (a -ℤ pos 1) → (t : Bool) → below_high (if t then At (Num (a -ℤ pos 1)) else Past (number_value a)) (number_value b) ≡ is_lt (value_cmp (number_value b) (number_value a))
  former_by same true = ap (λ v. is_le (value_cmp (number_value b) v)) (sym same) ∙ up_to_num a ∙ ap is_lt (sym (nums_cmp b a))
  former_by same false = refl

  former_at : (n : ℤ) → n ≡ a → below_high (former_end r (number_value a) (number_level n)) (number_value b) ≡ is_lt (value_cmp (number_value b) (number_value a))
  former_at (negsuc n) e =
      subst (λ m. below_high (if is_gt (int_cmp m r.least) then At (Num (m -ℤ pos 1)) else Past (number_value a)) (number_value b) ≡ is_lt (value_cmp (number_value b) (number_value a))) (sym e)
      (former_by (subst (λ m. number_value (m -ℤ pos 1) ≡ Num (m -ℤ pos 1)) e (former_num (negsuc n) refl)) (is_gt (int_cmp a r.least)))
  former_at (pos n) e = by (nat_lt n (2 ^ 127)) refl
    where
      by : (c : Bool) → nat_lt n (2 ^ 127) ≡ c → below_high (former_end r (number_value a) (if c then Value-F.Num (pos n) else Value-F.Huge n)) (number_value b) ≡ is_lt (value_cmp (number_value b) (number_value a))
      by true small =
          subst (λ m. below_high (if is_gt (int_cmp m r.least) then At (Num (m -ℤ pos 1)) else Past (number_value a)) (number_value b) ≡ is_lt (value_cmp (number_value b) (number_value a))) (sym e)
          (former_by (subst (λ m. number_value (m -ℤ pos 1) ≡ Num (m -ℤ pos 1)) e (former_num (pos n) small)) (is_gt (int_cmp a r.least)))
      by false large = huge_former n (let le = ltb-false n (2 ^ 127) large in omega (arith, le)) ∙ ap (λ m. is_lt (int_cmp b m)) e ∙ ap is_lt (sym (nums_cmp b a))

  up_to_former : below_high (former_end r (number_value a) (out-Value (number_value a))) (number_value b) ≡ is_lt (value_cmp (number_value b) (number_value a))
  up_to_former = ap (λ level. below_high (former_end r (number_value a) level) (number_value b)) (out_number a) ∙ former_at a refl

ends : (r : Option Range) (l k : Value) → Held r l → Held r k → Ends r l k
ends None l k h g = record { past_lows = refl; past_highs = refl; free_lows = refl; free_highs = refl; turned = turned l k }
ends (Some r) l k h g = record {
  past_lows = subst (λ v. above_low (past_low (Some r) v) k ≡ is_lt (value_cmp v k)) (sym h.is) (subst (λ w. above_low (past_low (Some r) (number_value h.number)) w ≡ is_lt (value_cmp (number_value h.number) w)) (sym g.is) (past_next r h.number g.number));
  past_highs = subst (λ v. below_high (past_high (Some r) v) k ≡ is_lt (value_cmp k v)) (sym h.is) (subst (λ w. below_high (past_high (Some r) (number_value h.number)) w ≡ is_lt (value_cmp w (number_value h.number))) (sym g.is) (up_to_former r h.number g.number));
  free_lows = ap (λ v. is_le (value_cmp v k)) (sym g.least) ∙ ap (λ w. is_le (value_cmp (number_value r.least) w)) g.is ∙ ap is_le (nums_cmp r.least g.number) ∙ g.low;
  free_highs = ap (λ w. is_le (value_cmp w (number_value (pos r.greatest)))) g.is ∙ ap is_le (nums_cmp g.number (pos r.greatest)) ∙ g.high;
  turned = turned l k;
}

-- ---- which values a column's type has

text_held : (p : List ℕ → Bool) (v : Value) (layer : Level) → out-Value v ≡ layer → text_at p layer ≡ true → Held None v
text_held p v (Value-F.Text x) e h = (x, e)
text_held p v layer e h = absurd cc

unsigned_within : (size m : ℕ) → m < 2 ^ size → (v : Value) → v ≡ number_value (pos m) → Within (unsigned_range size) v
unsigned_within size m small v is = record { number = pos m; is = is; least = refl; low = grind arith; high = grind (arith, small) }

natural_held : (w : Width) (v : Value) → natural_at w (out-Value v) ≡ true → Within (unsigned_range (bits w)) v
natural_held w v h = let n = natural_is w v h in unsigned_within (bits w) n.0 n.2 v n.1

signed_held : (size : ℕ) (n : ℤ) → is_signed size n ≡ true → (v : Value) → v ≡ number_value n → Within (signed_range size) v
signed_held size (pos n) h v is = record { number = pos n; is = is; least = refl; low = grind arith; high = let less : n < 2 ^ (size - 1) = grind arith in grind (arith, less) }
signed_held size (negsuc n) h v is = record { number = negsuc n; is = is; least = refl; low = let less : n < 2 ^ (size - 1) = grind arith in grind (arith, less); high = grind arith }

integer_held : (w : Width) (v : Value) → num_at (is_signed (bits w)) (out-Value v) ≡ true → Within (signed_range (bits w)) v
integer_held w v h = let n = num_is (is_signed (bits w)) v h in signed_held (bits w) n.0 n.2 v (n.1 ∙ sym (number_num n.0 (signed_wide w n.0 n.2)))

abbrev fits_level : Ty-F Ty → Value → Bool
fits_level layer = fits_step (map-Ty Ty (Value → Bool) fits_of layer)

level_held : (layer : Ty-F Ty) → is_key_at layer ≡ true → (v : Value) → fits_level layer v ≡ true → Held (range_at layer) v
level_held (Ty-F.UInt w) k v h = natural_held w v h
level_held (Ty-F.Int w) k v h = integer_held w v h
level_held Ty-F.Date k v h = natural_held W16 v h
level_held Ty-F.Moment k v h = natural_held W32 v h
level_held (Ty-F.FixedString n) k v h = text_held (λ b. length b == n && list_all is_byte b) v (out-Value v) refl h
level_held Ty-F.Str k v h = text_held (λ b. nat_le (length b) MAX_TEXT && list_all is_byte b) v (out-Value v) refl h
level_held layer k v h = absurd cc

held : (t : Ty) → is_key_at (out-Ty t) ≡ true → (v : Value) → fits_of t v ≡ true → Held (range_at (out-Ty t)) v
held t k v h = level_held (out-Ty t) k v (ap (λ (f : Value → Bool). f v) (sym (fold_out-Ty (Value → Bool) fits_step t)) ∙ h)

-- ---- keys

point_in : (r : Option Range) (l k : Value) → Ends r l k → is_in (point l) k ≡ is_eq (value_cmp l k)
point_in r l k e = rw e.turned (both_le (value_cmp l k))
  where
    both_le : (o : Ordering) → (is_le o && is_le (ordering_reverse o)) ≡ is_eq o
    both_le Less = refl
    both_le Equal = refl
    both_le Greater = refl

-- boxes with one more interval in front
any_front : (i : Interval) (k : Value) (ks : List Value) (spans : List Spans) → list_any (λ is. lies is (k ∷ ks)) (map (λ is. i ∷ is) spans) ≡ (is_in i k && list_any (λ is. lies is ks) spans)
any_front i k ks [] = never (is_in i k)
  where
    never : (b : Bool) → false ≡ (b && false)
    never true = refl
    never false = refl
any_front i k ks (is ∷ more) = rw (any_front i k ks more) (shared (is_in i k) (lies is ks) (list_any (λ is. lies is ks) more))
  where
    shared : (a b c : Bool) → ((a && b) || (a && c)) ≡ (a && (b || c))
    shared true b c = refl
    shared false b c = refl

pub any_append : (f : Spans → Bool) (xs ys : List Spans) → list_any f (xs ++ ys) ≡ (list_any f xs || list_any f ys)
any_append f [] ys = refl
any_append f (x ∷ xs) ys = rw (any_append f xs ys) (shift (f x) (list_any f xs) (list_any f ys))
  where
    shift : (a b c : Bool) → (a || (b || c)) ≡ ((a || b) || c)
    shift true b c = refl
    shift false b c = refl

-- ---- an empty interval has no value

pub lt_le : (o : Ordering) → is_lt o ≡ true → is_le o ≡ true
lt_le Less h = refl
lt_le Equal h = absurd cc
lt_le Greater h = absurd cc

not_ge : (o : Ordering) → is_lt o ≡ true → is_ge o ≡ false
not_ge Less h = refl
not_ge Equal h = absurd cc
not_ge Greater h = absurd cc

turn_back : (o s : Ordering) → o ≡ ordering_reverse s → s ≡ ordering_reverse o
turn_back o Less e = rw e refl
turn_back o Equal e = rw e refl
turn_back o Greater e = rw e refl

-- a is at most k and k at most b: so a is less than b, or a ties with k
record Tied (a k b : Value) : Type 0 where
  first : value_cmp a k ≡ Equal
  second : value_cmp a b ≡ value_cmp k b

chained : (a k b : Value) → is_le (value_cmp a k) ≡ true → is_le (value_cmp k b) ≡ true → (value_cmp a b ≡ Less) ⊎ Tied a k b
chained a k b low high = by (value_cmp k a) refl
  where
    by : (o : Ordering) → value_cmp k a ≡ o → (value_cmp a b ≡ Less) ⊎ Tied a k b
    by Less e = absurd (cc (turned k a, e, low))
    by Equal e = inr (record { first = turned k a ∙ ap ordering_reverse e; second = sym (right k a b e) })
    by Greater e = inl (turn_back (value_cmp b a) (value_cmp a b) (turned a b) ∙ ap ordering_reverse (more k a b high e))

within_not_void : (k : Value) → (lo hi : End) → above_low lo k ≡ true → below_high hi k ≡ true → ends_empty lo hi ≡ false
within_not_void k Free hi low high = refl
within_not_void k (At a) Free low high = refl
within_not_void k (Past a) Free low high = refl
within_not_void k (At a) (At b) low high = elim (chained a k b low high) [ inl e ↦ rw e refl | inr t ↦ rw t.second (not_gt_from_le (value_cmp k b) high) ]
within_not_void k (At a) (Past b) low high = elim (chained a k b low (lt_le (value_cmp k b) high)) [ inl e ↦ rw e refl | inr t ↦ rw t.second (not_ge (value_cmp k b) high) ]
within_not_void k (Past a) (At b) low high = elim (chained a k b (lt_le (value_cmp a k) low) high) [ inl e ↦ rw e refl | inr t ↦ absurd (cc (t.first, low)) ]
within_not_void k (Past a) (Past b) low high = elim (chained a k b (lt_le (value_cmp a k) low) (lt_le (value_cmp k b) high)) [ inl e ↦ rw e refl | inr t ↦ absurd (cc (t.first, low)) ]

any_some : (i : Interval) (k : Value) (ks : List Value) → list_any (λ is. lies is (k ∷ ks)) (some_box i) ≡ is_in i k
any_some i k ks = by (is_void i) (is_in i k) refl (λ h. within_not_void k i.lo i.hi (first_so (above_low i.lo k) (below_high i.hi k) h) (second_so (above_low i.lo k) (below_high i.hi k) h))
  where
    by : (b c : Bool) → is_in i k ≡ c → (c ≡ true → b ≡ false) → list_any (λ is. lies is (k ∷ ks)) (if b then [] else (i ∷ []) ∷ []) ≡ c
    by true true e h = absurd (cc (h refl))
    by true false e h = refl
    by false true e h = rw e refl
    by false false e h = rw e refl

record Key (t : Ty) (v : Value) : Type 0 where
  type : is_key_at (out-Ty t) ≡ true
  fits : fits_of t v ≡ true

holds : (t : Ty) (v : Value) → Key t v → Held (range_at (out-Ty t)) v
holds t v k = held t k.type v k.fits

-- the values of keys fit their columns
abbrev Keys : List Ty → List Value → Type 0
Keys [] [] = Unit {0}
Keys (t ∷ ts) (v ∷ vs) = Key t v × Keys ts vs
Keys _ _ = ⊥

keys : (ts : List Ty) (vs : List Value) → are_key_types ts ≡ true → key_fits ts vs ≡ true → Keys ts vs
keys [] [] k f = tt
keys [] (v ∷ vs) k f = absurd cc
keys (t ∷ ts) [] k f = absurd cc
keys (t ∷ ts) (v ∷ vs) k f = (
  record { type = first_so (is_key_at (out-Ty t)) (are_key_types ts) k; fits = first_so (fits_of t v) (key_fits ts vs) f },
  keys ts vs (second_so (is_key_at (out-Ty t)) (are_key_types ts) k) (second_so (fits_of t v) (key_fits ts vs) f),
)

from_step : (o r : Ordering) → ((is_lt o && true) || (is_eq o && is_le r)) ≡ is_le (ordering_then o r)
from_step Less r = refl
from_step Equal r = refl
from_step Greater r = refl

from_law : (ts : List Ty) (ls ks : List Value) → Keys ts ls → Keys ts ks → list_any (λ is. lies is ks) (from_key ts ls) ≡ is_le (values_cmp ls ks)
from_law [] [] [] p q = refl
from_law (t ∷ ts) (l ∷ ls) (k ∷ ks) p q =
    let r = range_at (out-Ty t) in
    let e = ends r l k (holds t l p.0) (holds t k q.0) in
    rw (
      any_append (λ is. lies is (k ∷ ks)) (some_box (span (past_low r l) (free_high r))) (map (λ is. point l ∷ is) (from_key ts ls)),
      any_some (span (past_low r l) (free_high r)) k ks,
      any_front (point l) k ks (from_key ts ls),
      point_in (range_at (out-Ty t)) l k e,
      e.past_lows,
      e.free_highs,
      from_law ts ls ks p.1 q.1,
    ) (from_step (value_cmp l k) (values_cmp ls ks))
from_law [] [] (k ∷ ks) p q = absurd q
from_law [] (l ∷ ls) ks p q = absurd p
from_law (t ∷ ts) [] ks p q = absurd p
from_law (t ∷ ts) (l ∷ ls) [] p q = absurd q

to_step : (o r : Ordering) → ((true && is_lt o) || (is_eq (ordering_reverse o) && is_le r)) ≡ is_le (ordering_then o r)
to_step Less r = refl
to_step Equal r = refl
to_step Greater r = refl

to_law : (ts : List Ty) (hs ks : List Value) → Keys ts hs → Keys ts ks → list_any (λ is. lies is ks) (to_key ts hs) ≡ is_le (values_cmp ks hs)
to_law [] [] [] p q = refl
to_law (t ∷ ts) (h ∷ hs) (k ∷ ks) p q =
    let r = range_at (out-Ty t) in
    let e = ends r h k (holds t h p.0) (holds t k q.0) in
    rw (
      any_append (λ is. lies is (k ∷ ks)) (some_box (span (free_low r) (past_high r h))) (map (λ is. point h ∷ is) (to_key ts hs)),
      any_some (span (free_low r) (past_high r h)) k ks,
      any_front (point h) k ks (to_key ts hs),
      point_in (range_at (out-Ty t)) h k e,
      turn_back (value_cmp k h) (value_cmp h k) e.turned,
      e.past_highs,
      e.free_lows,
      to_law ts hs ks p.1 q.1,
    ) (to_step (value_cmp k h) (values_cmp ks hs))
to_law [] [] (k ∷ ks) p q = absurd q
to_law [] (h ∷ hs) ks p q = absurd p
to_law (t ∷ ts) [] ks p q = absurd p
to_law (t ∷ ts) (h ∷ hs) [] p q = absurd q

apart_step : (p q a b : Ordering) → (is_ge p ≡ true → q ≡ Less)
    → ((is_lt p && is_lt q) || ((is_eq p && is_le a) || (is_eq (ordering_reverse q) && is_le b))) ≡ (is_le (ordering_then p a) && is_le (ordering_then q b))
apart_step Less Less a b h = refl
apart_step Less Equal a b h = refl
apart_step Less Greater a b h = refl
apart_step Equal q a b h = rw (h refl) (alone (is_le a))
  where
    alone : (x : Bool) → (x || false) ≡ (x && true)
    alone true = refl
    alone false = refl
apart_step Greater q a b h = rw (h refl) refl

tied_step : (p a b : Ordering) → (is_eq p && (is_le a && is_le b)) ≡ (is_le (ordering_then p a) && is_le (ordering_then (ordering_reverse p) b))
tied_step Less a b = refl
tied_step Equal a b = refl
tied_step Greater a b = refl

le_turn : (o : Ordering) → is_ge o ≡ true → is_le (ordering_reverse o) ≡ true
le_turn Less h = absurd cc
le_turn Equal h = refl
le_turn Greater h = refl

-- where the keys differ at the first column, or don't
between_step : (t : Ty) (ts : List Ty) (l h k : Value) (ls hs ks : List Value) → Key t l → Key t h → Key t k → Keys ts ls → Keys ts hs → Keys ts ks
    → (is_le (values_cmp ls hs) ≡ true → list_any (λ is. lies is ks) (spans_between ts ls hs) ≡ (is_le (values_cmp ls ks) && is_le (values_cmp ks hs)))
    → (o : Ordering) → value_cmp l h ≡ o → is_le (ordering_then o (values_cmp ls hs)) ≡ true
    → list_any (λ is. lies is (k ∷ ks)) (spans_between (t ∷ ts) (l ∷ ls) (h ∷ hs)) ≡ (is_le (ordering_then (value_cmp l k) (values_cmp ls ks)) && is_le (ordering_then (value_cmp k h) (values_cmp ks hs)))
between_step t ts l h k ls hs ks fl fh fk pl ph pk rest Less e below =
    let r = range_at (out-Ty t) in
    let el = ends r l k (holds t l fl) (holds t k fk) in
    let eh = ends r h k (holds t h fh) (holds t k fk) in
    rw (
      e,
      any_append (λ is. lies is (k ∷ ks)) (some_box (span (past_low r l) (past_high r h))) (map (λ is. point l ∷ is) (from_key ts ls) ++ map (λ is. point h ∷ is) (to_key ts hs)),
      any_some (span (past_low r l) (past_high r h)) k ks,
      any_append (λ is. lies is (k ∷ ks)) (map (λ is. point l ∷ is) (from_key ts ls)) (map (λ is. point h ∷ is) (to_key ts hs)),
      any_front (point l) k ks (from_key ts ls),
      any_front (point h) k ks (to_key ts hs),
      point_in r l k el,
      point_in r h k eh,
      turn_back (value_cmp k h) (value_cmp h k) eh.turned,
      el.past_lows,
      eh.past_highs,
      from_law ts ls ks pl pk,
      to_law ts hs ks ph pk,
    )
    (apart_step (value_cmp l k) (value_cmp k h) (values_cmp ls ks) (values_cmp ks hs) (λ g. less l h k (ap is_le el.turned ∙ le_turn (value_cmp l k) g) e))
between_step t ts l h k ls hs ks fl fh fk pl ph pk rest Equal e below =
    let r = range_at (out-Ty t) in
    let el = ends r l k (holds t l fl) (holds t k fk) in
    let q : value_cmp k h ≡ ordering_reverse (value_cmp l k) = sym (left l h k e) ∙ el.turned in
    rw (e, any_front (point l) k ks (spans_between ts ls hs), point_in r l k el, rest below, q) (tied_step (value_cmp l k) (values_cmp ls ks) (values_cmp ks hs))
between_step t ts l h k ls hs ks fl fh fk pl ph pk rest Greater e below = absurd cc

between_law : (ts : List Ty) (ls hs ks : List Value) → Keys ts ls → Keys ts hs → Keys ts ks → is_le (values_cmp ls hs) ≡ true
    → list_any (λ is. lies is ks) (spans_between ts ls hs) ≡ (is_le (values_cmp ls ks) && is_le (values_cmp ks hs))
between_law [] [] [] [] p q s below = refl
between_law (t ∷ ts) (l ∷ ls) (h ∷ hs) (k ∷ ks) p q s below =
    between_step t ts l h k ls hs ks p.0 q.0 s.0 p.1 q.1 s.1 (between_law ts ls hs ks p.1 q.1 s.1) (value_cmp l h) refl below
between_law [] [] [] (k ∷ ks) p q s below = absurd s
between_law [] [] (h ∷ hs) ks p q s below = absurd q
between_law [] (l ∷ ls) hs ks p q s below = absurd p
between_law (t ∷ ts) [] hs ks p q s below = absurd p
between_law (t ∷ ts) (l ∷ ls) [] ks p q s below = absurd q
between_law (t ∷ ts) (l ∷ ls) (h ∷ hs) [] p q s below = absurd s

-- the boxes between two keys hold exactly the keys between them
pub key_law : (ts : List Ty) (ls hs ks : List Value) → are_key_types ts ≡ true → key_fits ts ls ≡ true → key_fits ts hs ≡ true → key_fits ts ks ≡ true → is_le (values_cmp ls hs) ≡ true
    → list_any (λ is. lies is ks) (spans_between ts ls hs) ≡ (is_le (values_cmp ls ks) && is_le (values_cmp ks hs))
key_law ts ls hs ks t l h k = between_law ts ls hs ks (keys ts ls t l) (keys ts hs t h) (keys ts ks t k)
