-- Ranks never fall along the order on values.
use Rattle.std.proofs.Common.{◌≡◌, ℕ, zero, suc, ◌+◌, ◌-◌, ◌*◌, ◌^◌, ◌<◌, ◌≤◌, true, false, cond, ℤ, pos, negsuc, List, [], ◌∷◌, refl, ap, sym, ◌∙◌, subst, arith, inl, inr}
use Rattle.std.specs.Prelude.{nat_lt, ◌<ℤ◌}
use Rattle.std.specs.declared.cmp.Ordering.{Ordering}
use Rattle.std.specs.declared.cmp.Ordering.TheVariants.{Less, Equal, Greater}
use Rattle.std.specs.Ordering.{ordering_then, nat_cmp, int_cmp}
use Rattle.std.specs.Cmp.{int_cmp_is, nat_cmp_is}
use Rattle.std.specs.Cmp.Lexicographic.{slice_cmp}
use Rattle.std.proofs.lemmas.Bool.{and_parts, cases_Bool, cases_order, ltb-true, ltb-false}
use Rattle.std.proofs.lemmas.Int.{ints}
use Rattle.std.proofs.lemmas.Nat.{rows}
use Rattle.std.proofs.Math.Nat.{pow-suc, mul-le-mul_right}
use Rattle.mt_types.specs.declared.value.Value.{Value, out-Value, map-Value}
use Rattle.mt_types.specs.declared.value.Value.TheOpen.{Value-F}
use Rattle.mt_types.specs.declared.value.Value.TheFolds.{fold_out-Value}
use Rattle.mt_types.specs.Fits.{Level}
use Rattle.mt_types.specs.Order.{value_cmp, cmp_step, rank, same_kind_cmp}
use Rattle.mt_blocks.specs.declared.rank.Scale.{Scale}
use Rattle.mt_blocks.specs.declared.rank.Scale.TheVariants.{Numbers, Wide, Texts}
use Rattle.mt_sort.specs.Ranks.{top_rank, number_rank, prefix_rank}
use Rattle.mt_blocks.specs.Ranks.{level_rank, value_rank, is_decided}
use Rattle.mt_cells.specs.Items.{huge_at}

-- ---- numbers

int_less : (a b : ℤ) → a <ℤ b → int_cmp a b ≡ Less
int_less a b h = sym (int_cmp_is a b Less h)

numbers_rise : (origin : ℕ) (a b : ℤ) → number_rank origin a < number_rank origin b → int_cmp a b ≡ Less
numbers_rise origin (pos a) (pos b) h = let less : a < b = omega (arith, h) in int_less (pos a) (pos b) (omega (arith, ints, less))
numbers_rise origin (pos a) (negsuc b) h = absurd (omega (arith, h))
numbers_rise origin (negsuc a) (pos b) h = int_less (negsuc a) (pos b) (omega (arith, ints))
numbers_rise origin (negsuc a) (negsuc b) h = let less : b < a = omega (arith, h) in int_less (negsuc a) (negsuc b) (omega (arith, ints, less))

number_bound : (origin : ℕ) (a : ℤ) → number_rank origin a ≤ top_rank
number_bound origin (pos a) = omega arith
number_bound origin (negsuc a) = omega arith

-- ---- texts

-- a digit and what follows it spell less than the room of one digit more
placed : (n w h x y : ℕ) → n ≡ w * h → x < w → y < h → y * w + x < n
placed n w h x y e p q = grind (arith, rows)

-- the first byte, and what follows it
at_byte : (n byte : ℕ) (bytes : List ℕ) → nat_lt byte 256 ≡ true → prefix_rank (suc n) (byte ∷ bytes) ≡ byte * 256 ^ n + prefix_rank n bytes
at_byte n byte bytes e = ap (λ b. cond b (byte * 256 ^ n + prefix_rank n bytes) (256 ^ suc n - 1)) e

at_other : (n byte : ℕ) (bytes : List ℕ) → nat_lt byte 256 ≡ false → prefix_rank (suc n) (byte ∷ bytes) ≡ 256 ^ suc n - 1
at_other n byte bytes e = ap (λ b. cond b (byte * 256 ^ n + prefix_rank n bytes) (256 ^ suc n - 1)) e

some_room : (n : ℕ) → 0 < 256 ^ n
some_room zero = omega arith
some_room (suc n) = let p : 256 ^ suc n ≡ 256 ^ n * 256 = pow-suc 256 n in let q = some_room n in omega (arith, p, q)

-- so many bytes spell less than their room
prefix_bound : (n : ℕ) (bytes : List ℕ) → prefix_rank n bytes < 256 ^ n
prefix_bound zero bytes = omega arith
prefix_bound (suc n) [] = some_room (suc n)
prefix_bound (suc n) (byte ∷ bytes) =
    elim (cases_Bool (nat_lt byte 256)) [
      | inl is ↦
          subst (λ r. r < 256 ^ suc n) (sym (at_byte n byte bytes is)) (
          placed (256 ^ suc n) (256 ^ n) 256 (prefix_rank n bytes) byte (pow-suc 256 n) (prefix_bound n bytes) (ltb-true byte 256 is))
      | inr other ↦
          subst (λ r. r < 256 ^ suc n) (sym (at_other n byte bytes other)) (let q = some_room (suc n) in omega (arith, q))
    ]

-- a list that begins with a lower element is below
lower_first : (x y : ℕ) (xs ys : List ℕ) → x < y → slice_cmp nat_cmp (x ∷ xs) (y ∷ ys) ≡ Less
lower_first x y xs ys h = ap (λ o. ordering_then o (slice_cmp nat_cmp xs ys)) (sym (nat_cmp_is x y Less h))

same_first : (x y : ℕ) (xs ys : List ℕ) → x ≡ y → slice_cmp nat_cmp (x ∷ xs) (y ∷ ys) ≡ slice_cmp nat_cmp xs ys
same_first x y xs ys h = ap (λ o. ordering_then o (slice_cmp nat_cmp xs ys)) (sym (nat_cmp_is x y Equal h))

-- a higher digit decides
higher_first : (w x y p q : ℕ) → q < w → y < x → y * w + q < x * w + p
higher_first w x y p q small less =
    let above : suc y * w ≤ x * w = mul-le-mul_right w less in
    let below : y * w + q < w * suc y = placed (w * suc y) w (suc y) q y refl small (omega arith) in
    omega (arith, above, below)

bytes_rise : (n x y : ℕ) (xs ys : List ℕ) → prefix_rank (suc n) (x ∷ xs) ≡ x * 256 ^ n + prefix_rank n xs → prefix_rank (suc n) (y ∷ ys) ≡ y * 256 ^ n + prefix_rank n ys → (prefix_rank n xs < prefix_rank n ys → slice_cmp nat_cmp xs ys ≡ Less) → prefix_rank (suc n) (x ∷ xs) < prefix_rank (suc n) (y ∷ ys) → slice_cmp nat_cmp (x ∷ xs) (y ∷ ys) ≡ Less
bytes_rise n x y xs ys is_x is_y rest h =
    elim (cases_order x y) [
      | inl same ↦
          let heads : x * 256 ^ n ≡ y * 256 ^ n = ap (λ k. k * 256 ^ n) same in
          same_first x y xs ys same ∙ rest (omega (arith, h, is_x, is_y, heads))
      | inr (inl less) ↦ lower_first x y xs ys less
      | inr (inr more) ↦
          let higher = higher_first (256 ^ n) x y (prefix_rank n xs) (prefix_rank n ys) (prefix_bound n ys) more in
          absurd (omega (arith, h, is_x, is_y, higher))
    ]

texts_rise : (n : ℕ) (a b : List ℕ) → prefix_rank n a < prefix_rank n b → slice_cmp nat_cmp a b ≡ Less
texts_rise zero a b h = absurd (omega (arith, h))
texts_rise (suc n) [] [] h = absurd (omega (arith, h))
texts_rise (suc n) [] (y ∷ ys) h = refl
texts_rise (suc n) (x ∷ xs) [] h = absurd (omega (arith, h))
texts_rise (suc n) (x ∷ xs) (y ∷ ys) h =
    elim (cases_Bool (nat_lt x 256)) [
      | inr other ↦
          let e = at_other n x xs other in
          let bound = prefix_bound (suc n) (y ∷ ys) in
          absurd (omega (arith, h, e, bound))
      | inl byte ↦
          elim (cases_Bool (nat_lt y 256)) [
            | inr other ↦ lower_first x y xs ys (omega (arith, ltb-true x 256 byte, ltb-false y 256 other))
            | inl both ↦ bytes_rise n x y xs ys (at_byte n x xs byte) (at_byte n y ys both) (texts_rise n xs ys) h
          ]
    ]

-- ---- levels, and values

level_bound : (scale : Scale) (l : Level) → level_rank scale l ≤ top_rank
level_bound (Numbers origin) (Value-F.Num a) = number_bound origin a
level_bound (Wide origin) (Value-F.Num a) = number_bound origin a
level_bound (Numbers origin) (Value-F.Huge a) = number_bound origin (pos a)
level_bound (Wide origin) (Value-F.Huge a) = number_bound origin (pos a)
level_bound Texts (Value-F.Num a) = omega arith
level_bound Texts (Value-F.Text bytes) = let b = prefix_bound 8 bytes in omega (arith, b)
level_bound _ _ = omega arith

-- the comparison of two values by their levels
abbrev level_cmp : Level → Level → Ordering
level_cmp l m = ordering_then (nat_cmp (rank (map-Value Value (Value → Ordering) value_cmp l)) (rank m)) (same_kind_cmp (map-Value Value (Value → Ordering) value_cmp l) m)

-- nothing is above what has the greatest rank
none_above : {P : Type 0} (scale : Scale) (l m : Level) → level_rank scale l ≡ top_rank → level_rank scale l < level_rank scale m → P
none_above scale l m e h = let b = level_bound scale m in absurd (omega (arith, e, h, b))

levels_rise : (scale : Scale) (l m : Level) → level_rank scale l < level_rank scale m → level_cmp l m ≡ Less
levels_rise (Numbers origin) (Value-F.Num a) (Value-F.Num b) h = numbers_rise origin a b h
levels_rise (Wide origin) (Value-F.Num a) (Value-F.Num b) h = numbers_rise origin a b h
levels_rise (Numbers origin) (Value-F.Num a) (Value-F.Huge b) h = ap (λ o. ordering_then o Less) (numbers_rise origin a (pos b) h)
levels_rise (Wide origin) (Value-F.Num a) (Value-F.Huge b) h = ap (λ o. ordering_then o Less) (numbers_rise origin a (pos b) h)
levels_rise (Numbers origin) (Value-F.Huge a) (Value-F.Num b) h = ap (λ o. ordering_then o Greater) (numbers_rise origin (pos a) b h)
levels_rise (Wide origin) (Value-F.Huge a) (Value-F.Num b) h = ap (λ o. ordering_then o Greater) (numbers_rise origin (pos a) b h)
levels_rise (Numbers origin) (Value-F.Huge a) (Value-F.Huge b) h = let less : a < b = omega (arith, h) in sym (nat_cmp_is a b Less less)
levels_rise (Wide origin) (Value-F.Huge a) (Value-F.Huge b) h = let less : a < b = omega (arith, h) in sym (nat_cmp_is a b Less less)
levels_rise Texts (Value-F.Num a) (Value-F.Num b) h = absurd (omega (arith, h))
levels_rise Texts (Value-F.Num a) (Value-F.Huge b) h = absurd (omega (arith, h))
levels_rise Texts (Value-F.Huge a) (Value-F.Num b) h = absurd (omega (arith, h))
levels_rise Texts (Value-F.Huge a) (Value-F.Huge b) h = absurd (omega (arith, h))
levels_rise scale (Value-F.Num a) m h = refl
levels_rise scale (Value-F.Huge a) m h = refl
levels_rise Texts (Value-F.Text a) (Value-F.Num b) h = absurd (omega (arith, h))
levels_rise Texts (Value-F.Text a) (Value-F.Huge b) h = absurd (omega (arith, h))
levels_rise Texts (Value-F.Text a) (Value-F.Text b) h = texts_rise 8 a b h
levels_rise Texts (Value-F.Text a) m h = refl
levels_rise (Numbers origin) (Value-F.Text a) m h = none_above (Numbers origin) (Value-F.Text a) m refl h
levels_rise (Wide origin) (Value-F.Text a) m h = none_above (Wide origin) (Value-F.Text a) m refl h
levels_rise (Numbers origin) (Value-F.List a) m h = none_above (Numbers origin) (Value-F.List a) m refl h
levels_rise (Wide origin) (Value-F.List a) m h = none_above (Wide origin) (Value-F.List a) m refl h
levels_rise Texts (Value-F.List a) m h = none_above Texts (Value-F.List a) m refl h
levels_rise (Numbers origin) (Value-F.State a) m h = none_above (Numbers origin) (Value-F.State a) m refl h
levels_rise (Wide origin) (Value-F.State a) m h = none_above (Wide origin) (Value-F.State a) m refl h
levels_rise Texts (Value-F.State a) m h = none_above Texts (Value-F.State a) m refl h
levels_rise (Numbers origin) Value-F.Null m h = none_above (Numbers origin) Value-F.Null m refl h
levels_rise (Wide origin) Value-F.Null m h = none_above (Wide origin) Value-F.Null m refl h
levels_rise Texts Value-F.Null m h = none_above Texts Value-F.Null m refl h

-- a value of lower rank is below
pub values_rise : (scale : Scale) (v w : Value) → value_rank scale v < value_rank scale w → value_cmp v w ≡ Less
values_rise scale v w h = ap (λ (f : Value → Ordering). f w) (fold_out-Value (Value → Ordering) cmp_step v) ∙ levels_rise scale (out-Value v) (out-Value w) h

-- ---- ranks that one value has

-- such a rank is inside its scale
inside : (origin rank : ℕ) → is_decided (Numbers origin) rank ≡ true → (0 < rank) × (rank < top_rank)
inside origin rank e = let parts = and_parts (nat_lt 0 rank) (nat_lt rank top_rank) e in (ltb-true 0 rank parts.0, ltb-true rank top_rank parts.1)

same_numbers : (origin : ℕ) (a b : ℤ) → 0 < number_rank origin a → number_rank origin a < top_rank → number_rank origin a ≡ number_rank origin b → a ≡ b
same_numbers origin (pos a) (pos b) low high e = ap pos (omega (arith, high, e))
same_numbers origin (pos a) (negsuc b) low high e = absurd (omega (arith, low, high, e))
same_numbers origin (negsuc a) (pos b) low high e = absurd (omega (arith, low, high, e))
same_numbers origin (negsuc a) (negsuc b) low high e = ap negsuc (omega (arith, low, high, e))

levels_tie : (origin : ℕ) (l m : Level) → huge_at l ≡ false → huge_at m ≡ false → (0 < level_rank (Numbers origin) l) × (level_rank (Numbers origin) l < top_rank) → level_rank (Numbers origin) l ≡ level_rank (Numbers origin) m → level_cmp l m ≡ Equal
levels_tie origin (Value-F.Huge a) m p q h e = cc
levels_tie origin (Value-F.Num a) (Value-F.Huge b) p q h e = cc
levels_tie origin (Value-F.Num a) (Value-F.Num b) p q h e = sym (int_cmp_is a b Equal (same_numbers origin a b h.0 h.1 e))
levels_tie origin (Value-F.Num a) m p q h e = let low = h.1 in absurd (omega (arith, low, e))
levels_tie origin l m p q h e = let low = h.1 in absurd (omega (arith, low))

-- values of such a rank are one, where none is a Huge
pub values_tie : (scale : Scale) (v w : Value) → huge_at (out-Value v) ≡ false → huge_at (out-Value w) ≡ false → is_decided scale (value_rank scale v) ≡ true → value_rank scale v ≡ value_rank scale w → value_cmp v w ≡ Equal
values_tie (Numbers origin) v w p q d e =
    ap (λ (f : Value → Ordering). f w) (fold_out-Value (Value → Ordering) cmp_step v) ∙ levels_tie origin (out-Value v) (out-Value w) p q (inside origin (value_rank (Numbers origin) v) d) e
values_tie Texts v w p q d e = cc
values_tie (Wide origin) v w p q d e = cc
