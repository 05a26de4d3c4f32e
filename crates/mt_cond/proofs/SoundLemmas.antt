-- Masks are sound.
use Rattle.std.proofs.Common.{◌≡◌, ℕ, ◌==◌, Bool, true, false, not, ◌||◌, ◌&&◌, List, [], ◌∷◌, length, refl, ap, sym, subst, ◌∙◌, arith, Option, Some, None}
use Rattle.std.specs.Prelude.{if◌then◌else◌}
use Rattle.std.specs.List.{list_all, list_any}
use Rattle.std.specs.Ordering.{ordering_reverse, nat_cmp, is_eq, is_le, is_lt, is_gt, is_ge}
use Rattle.std.specs.declared.cmp.Ordering.{Ordering}
use Rattle.std.specs.declared.cmp.Ordering.TheVariants.{Less, Equal, Greater}
use Rattle.std.specs.Cmp.{first_so, second_so}
use Rattle.std.specs.Cmp.Lexicographic.{slice_cmp}
use Rattle.mt_facts.proofs.Orderings.{equal_from}
use Rattle.mt_types.specs.declared.value.Value.{Value, out-Value}
use Rattle.mt_types.specs.declared.value.Value.TheOpen.{Value-F}
use Rattle.mt_types.specs.declared.value.Value.TheVariants.{Text, outs-Text}
use Rattle.mt_types.specs.Fits.{Level, text_at, null_at}
use Rattle.mt_types.specs.Order.{value_cmp}
use Rattle.mt_cond_syntax.specs.declared.op.Op.{Op}
use Rattle.mt_cond_syntax.specs.declared.op.Op.TheVariants.{Eq, Ne, Lt, Le, Gt, Ge}
use Rattle.mt_query.specs.declared.cond.Cond.{Cond, roll-Cond, map-Cond}
use Rattle.mt_query.specs.declared.cond.Cond.TheOpen.{Cond-F}
use Rattle.mt_query.specs.declared.cond.Cond.TheFolds.{fold-roll-Cond, ind-Cond}
use Rattle.mt_types.specs.Fits.{list_at}
use Rattle.mt_defs.specs.Rows.{Row, cell}
use Rattle.mt_query.specs.Truth.{Truth, not3, and3, or3, unless_null, null_is, is_same, holds, begins_with, truth_of, truth_step}
use Rattle.mt_table.specs.declared.column.Column.{Column}
use Rattle.mt_table.specs.Stored.{column_at}
use Rattle.mt_query.specs.Suits.{is_number_level, takes_literal, cond_suits, cond_suits_step}
use Rattle.mt_cond.specs.declared.types.End.{End}
use Rattle.mt_cond.specs.declared.types.End.TheVariants.{Free, At, Past}
use Rattle.mt_cond.specs.declared.types.Interval.{Interval}
use Rattle.mt_cond.specs.declared.types.Side.{Side}
use Rattle.mt_cond.specs.declared.types.MaskPair.{MaskPair}
use Rattle.mt_cond.specs.Intervals.{above_low, below_high, is_in, is_empty_text, low_less, high_greater, at_value, is_point, interval_at, lies_in}
use Rattle.mt_cond.specs.Masks.{value_begins, Box, pair, any_pair, swapped, cmp_mask, in_mask, next, reaches, is_before, starts_before, end_begins, starts_mask, sided, mask_by, mask_of, mask_step, allows}
use Rattle.mt_cond.proofs.LevelLemmas.{cmp_of}
use Rattle.mt_cond.proofs.SuitedLemmas.{alike, is_bytes, Suited}
use Rattle.mt_cond.proofs.OrderLemmas.{turned, less, more, left, right, pinned}
use Rattle.mt_cond.proofs.PrefixLemmas.{begun_before, begun_above, begun_between}
use Rattle.mt_cond.proofs.KeyLemmas.{lt_le}

-- ---- ends

-- nothing is below the empty text
abbrev Some-below : Value → Value → Type 0
Some-below v w = value_cmp v w ≡ Less → is_empty_text w ≡ false

module _ (v w : Value) (some : Some-below v w) where
  less_low : (lo : End) → above_low lo v ≡ true → value_cmp v w ≡ Less → low_less lo w ≡ true
  less_low Free h l = ap not (some l)
  less_low (At e) h l = ap is_lt (less v w e h l)
  less_low (Past e) h l = ap is_lt (less v w e (lt_le (value_cmp e v) h) l)

  more_high : (hi : End) → below_high hi v ≡ true → value_cmp v w ≡ Greater → high_greater hi w ≡ true
  more_high Free h m = refl
  more_high (At e) h m = ap is_gt (more v w e h m)
  more_high (Past e) h m = ap is_gt (more v w e (lt_le (value_cmp v e) h) m)

  same_low : (lo : End) → above_low lo v ≡ true → value_cmp v w ≡ Equal → above_low lo w ≡ true
  same_low Free h s = refl
  same_low (At e) h s = ap is_le (sym (left v w e s)) ∙ h
  same_low (Past e) h s = ap is_lt (sym (left v w e s)) ∙ h

  same_high : (hi : End) → below_high hi v ≡ true → value_cmp v w ≡ Equal → below_high hi w ≡ true
  same_high Free h s = refl
  same_high (At e) h s = ap is_le (sym (right v w e s)) ∙ h
  same_high (Past e) h s = ap is_lt (sym (right v w e s)) ∙ h

  at_both : (lo hi : End) → above_low lo v ≡ true → below_high hi v ≡ true → at_value lo w ≡ true → at_value hi w ≡ true → value_cmp v w ≡ Equal
  at_both (At a) (At b) h g e d = pinned v w a b h g (equal_from (value_cmp a w) e) (equal_from (value_cmp b w) d)
  at_both Free hi h g e d = absurd cc
  at_both (Past a) hi h g e d = absurd cc
  at_both (At a) Free h g e d = absurd cc
  at_both (At a) (Past b) h g e d = absurd cc

  -- ---- intervals

  module _ (i : Interval) (h : is_in i v ≡ true) where
    low_in : above_low i.lo v ≡ true
    low_in = first_so (above_low i.lo v) (below_high i.hi v) h

    high_in : below_high i.hi v ≡ true
    high_in = second_so (above_low i.lo v) (below_high i.hi v) h

    in_same : value_cmp v w ≡ Equal → is_in i w ≡ true
    in_same s = rw (same_low i.lo low_in s, same_high i.hi high_in s) refl

    point_same : is_point i w ≡ true → value_cmp v w ≡ Equal
    point_same p = at_both i.lo i.hi low_in high_in (first_so (at_value i.lo w) (at_value i.hi w) p) (second_so (at_value i.lo w) (at_value i.hi w) p)

    -- an interval off the value isn't its point
    no_point : (b : Bool) → (b ≡ true → value_cmp v w ≡ Equal) → is_eq (value_cmp v w) ≡ false → not b ≡ true
    no_point true e d = absurd (grind (arith, e refl, d))
    no_point false e d = refl

    by_order : (op : Op) (o : Ordering) → value_cmp v w ≡ o → allows (cmp_mask op i w) (Some (holds op o)) ≡ true
    by_order Eq Less e = no_point (is_point i w) point_same (ap is_eq e)
    by_order Eq Equal e = in_same e
    by_order Eq Greater e = no_point (is_point i w) point_same (ap is_eq e)
    by_order Ne Less e = no_point (is_point i w) point_same (ap is_eq e)
    by_order Ne Equal e = in_same e
    by_order Ne Greater e = no_point (is_point i w) point_same (ap is_eq e)
    by_order Lt Less e = less_low i.lo low_in e
    by_order Lt Equal e = rw (in_same e) refl
    by_order Lt Greater e = grind (arith, more_high i.hi high_in e)
    by_order Le Less e = grind (arith, less_low i.lo low_in e)
    by_order Le Equal e = rw (in_same e) refl
    by_order Le Greater e = more_high i.hi high_in e
    by_order Gt Less e = grind (arith, less_low i.lo low_in e)
    by_order Gt Equal e = rw (in_same e) refl
    by_order Gt Greater e = more_high i.hi high_in e
    by_order Ge Less e = less_low i.lo low_in e
    by_order Ge Equal e = rw (in_same e) refl
    by_order Ge Greater e = grind (arith, more_high i.hi high_in e)

-- ---- two numbers or two texts

not_before_empty : (a b : List ℕ) → slice_cmp nat_cmp a b ≡ Less → (length b == 0) ≡ false
not_before_empty [] [] h = absurd cc
not_before_empty (x ∷ xs) [] h = absurd cc
not_before_empty a (y ∷ ys) h = grind arith

number_some : (b : Level) → is_number_level b ≡ true → text_at (λ bytes. length bytes == 0) b ≡ false
number_some (Value-F.Num n) h = refl
number_some (Value-F.Huge n) h = refl
number_some b h = absurd cc

ready : (v w : Value) (a b : Level) → out-Value v ≡ a → out-Value w ≡ b → alike a b ≡ true → null_at a ≡ false → Some-below v w
ready v w (Value-F.Num m) b e d h k l = rw d (number_some b h)
ready v w (Value-F.Huge m) b e d h k l = rw d (number_some b h)
ready v w (Value-F.Text x) (Value-F.Text y) e d h k l = rw d (not_before_empty x y (sym (cmp_of v w (Value-F.Text x) (Value-F.Text y) e d) ∙ l))
ready v w Value-F.Null b e d h k l = absurd cc
ready v w a b e d h k l = absurd cc

-- ---- atoms

known_sound : (m : MaskPair) (v : Value) (b : Bool) → (null_at (out-Value v) ≡ false → allows m (Some b) ≡ true) → allows m (unless_null v b) ≡ true
known_sound m v b h = by (null_at (out-Value v)) h
  where
    by : (n : Bool) → (n ≡ false → allows m (Some b) ≡ true) → allows m (if n then None else Some b) ≡ true
    by true h = refl
    by false h = h refl

cmp_sound : (op : Op) (i : Interval) (v w : Value) → is_in i v ≡ true → alike (out-Value v) (out-Value w) ≡ true → allows (cmp_mask op i w) (unless_null v (holds op (value_cmp v w))) ≡ true
cmp_sound op i v w h a = known_sound (cmp_mask op i w) v (holds op (value_cmp v w)) (λ k.
    let r = ready v w (out-Value v) (out-Value w) refl refl a k in
    by_order v w r i h op (value_cmp v w) refl)

pub any_step : (s t r q : Bool) → (s ≡ true → t ≡ true) → (r ≡ true → q ≡ true) → (s || r) ≡ true → (t || q) ≡ true
any_step true t r q f g h = rw (f refl) refl
any_step false true r q f g h = refl
any_step false false r q f g h = g h

none_step : (s t r q : Bool) → (t ≡ true → s ≡ true) → (r ≡ false → q ≡ false) → (s || r) ≡ false → (t || q) ≡ false
none_step true t r q f g h = absurd cc
none_step false true r q f g h = absurd (grind (arith, f refl))
none_step false false r q f g h = g h

abbrev all_alike : Value → List Value → Bool
all_alike v ws = list_all (λ w. alike (out-Value v) (out-Value w)) ws

module _ (i : Interval) (v : Value) (h : is_in i v ≡ true) (k : null_at (out-Value v) ≡ false) where
  any_in : (ws : List Value) → all_alike v ws ≡ true → list_any (is_same v) ws ≡ true → list_any (is_in i) ws ≡ true
  any_in [] a e = absurd cc
  any_in (w ∷ ws) a e =
      let r = ready v w (out-Value v) (out-Value w) refl refl (first_so (alike (out-Value v) (out-Value w)) (all_alike v ws) a) k in
      any_step (is_same v w) (is_in i w) (list_any (is_same v) ws) (list_any (is_in i) ws)
      (λ s. in_same v w r i h (equal_from (value_cmp v w) s)) (any_in ws (second_so (alike (out-Value v) (out-Value w)) (all_alike v ws) a)) e

  any_point : (ws : List Value) → all_alike v ws ≡ true → list_any (is_same v) ws ≡ false → list_any (is_point i) ws ≡ false
  any_point [] a e = refl
  any_point (w ∷ ws) a e =
      let r = ready v w (out-Value v) (out-Value w) refl refl (first_so (alike (out-Value v) (out-Value w)) (all_alike v ws) a) k in
      none_step (is_same v w) (is_point i w) (list_any (is_same v) ws) (list_any (is_point i) ws)
      (λ p. ap is_eq (point_same v w r i h p)) (any_point ws (second_so (alike (out-Value v) (out-Value w)) (all_alike v ws) a)) e

in_sound : (i : Interval) (v : Value) (ws : List Value) → is_in i v ≡ true → all_alike v ws ≡ true → allows (in_mask i ws) (unless_null v (list_any (is_same v) ws)) ≡ true
in_sound i v ws h a = known_sound (in_mask i ws) v (list_any (is_same v) ws) (λ k. by (list_any (is_same v) ws) refl k)
  where
    by : (b : Bool) → list_any (is_same v) ws ≡ b → null_at (out-Value v) ≡ false → allows (in_mask i ws) (Some b) ≡ true
    by true e k = any_in i v h k ws a e
    by false e k = ap not (any_point i v h k ws a e)

-- ---- texts that begin so

ge_turn : (o : Ordering) → is_le o ≡ true → is_ge (ordering_reverse o) ≡ true
ge_turn Less h = refl
ge_turn Equal h = refl
ge_turn Greater h = absurd cc

gt_turn : (o : Ordering) → is_lt o ≡ true → is_gt (ordering_reverse o) ≡ true
gt_turn Less h = refl
gt_turn Equal h = absurd cc
gt_turn Greater h = absurd cc

module _ (p : List ℕ) (v : Value) (x : List ℕ) (text : out-Value v ≡ Value-F.Text x) where
  text_cmp : (y : List ℕ) → value_cmp v (Text y) ≡ slice_cmp nat_cmp x y
  text_cmp y = cmp_of v (Text y) (Value-F.Text x) (Value-F.Text y) text (outs-Text y)

  reach : (hi : End) (o : Ordering) → below_high hi v ≡ true → value_cmp v (Text p) ≡ o → is_ge o ≡ true → reaches p hi ≡ true
  reach Free o h e g = refl
  reach (At w) Greater h e g = ap is_ge (more v (Text p) w h e)
  reach (At w) Equal h e g = ap is_ge (sym (left v (Text p) w e) ∙ turned v w) ∙ ge_turn (value_cmp v w) h
  reach (At w) Less h e g = absurd cc
  reach (Past w) Greater h e g = ap is_gt (more v (Text p) w (lt_le (value_cmp v w) h) e)
  reach (Past w) Equal h e g = ap is_gt (sym (left v (Text p) w e) ∙ turned v w) ∙ gt_turn (value_cmp v w) h
  reach (Past w) Less h e g = absurd cc

  before : begins_with p x ≡ true → (w : Value) → is_le (value_cmp w v) ≡ true → (o : Option (List ℕ)) → next p ≡ o → is_before w o ≡ true
  before b w h None e = refl
  before b w h (Some n) e = ap is_lt (less v (Text n) w h (text_cmp n ∙ begun_before p x n b e))

  start : begins_with p x ≡ true → (lo : End) → above_low lo v ≡ true → starts_before p lo ≡ true
  start b Free h = refl
  start b (At w) h = before b w h (next p) refl
  start b (Past w) h = before b w (lt_le (value_cmp w v) h) (next p) refl

  squeezed : (a b : Value) (la lb : Level) → out-Value a ≡ la → out-Value b ≡ lb → is_le (value_cmp a v) ≡ true → is_le (value_cmp v b) ≡ true
      → text_at (begins_with p) la ≡ true → text_at (begins_with p) lb ≡ true → begins_with p x ≡ true
  squeezed a b (Value-F.Text s) (Value-F.Text t) ea eb low high ba bb =
      begun_between p s x t ba bb (ap is_le (sym (cmp_of a v (Value-F.Text s) (Value-F.Text x) ea text)) ∙ low) (ap is_le (sym (cmp_of v b (Value-F.Text x) (Value-F.Text t) text eb)) ∙ high)
  squeezed a b la lb ea eb low high ba bb = absurd cc

  ends_begin : (lo hi : End) → above_low lo v ≡ true → below_high hi v ≡ true → end_begins p lo ≡ true → end_begins p hi ≡ true → begins_with p x ≡ true
  ends_begin (At a) (At b) low high ba bb = squeezed a b (out-Value a) (out-Value b) refl refl low high ba bb
  ends_begin (At a) (Past b) low high ba bb = squeezed a b (out-Value a) (out-Value b) refl refl low (lt_le (value_cmp v b) high) ba bb
  ends_begin (Past a) (At b) low high ba bb = squeezed a b (out-Value a) (out-Value b) refl refl (lt_le (value_cmp a v) low) high ba bb
  ends_begin (Past a) (Past b) low high ba bb = squeezed a b (out-Value a) (out-Value b) refl refl (lt_le (value_cmp a v) low) (lt_le (value_cmp v b) high) ba bb
  ends_begin lo hi low high ba bb = absurd cc

  text_sound : (i : Interval) → is_in i v ≡ true → (b : Bool) → begins_with p x ≡ b → allows (starts_mask p i) (Some b) ≡ true
  text_sound i h true e =
      let low : above_low i.lo v ≡ true = first_so (above_low i.lo v) (below_high i.hi v) h in
      let high : below_high i.hi v ≡ true = second_so (above_low i.lo v) (below_high i.hi v) h in
      rw (reach i.hi (value_cmp v (Text p)) high refl (ap is_ge (text_cmp p) ∙ begun_above p x e), start e i.lo low) refl
  text_sound i h false e = unless (end_begins p i.lo) (end_begins p i.hi)
      (ends_begin i.lo i.hi (first_so (above_low i.lo v) (below_high i.hi v) h) (second_so (above_low i.lo v) (below_high i.hi v) h))
    where
      unless : (a b : Bool) → (a ≡ true → b ≡ true → begins_with p x ≡ true) → not (a && b) ≡ true
      unless true true f = absurd (grind (arith, f refl refl, e))
      unless true false f = refl
      unless false b f = refl

starts_sound : (p : List ℕ) (i : Interval) (v : Value) (layer : Level) → out-Value v ≡ layer → is_in i v ≡ true → is_bytes layer ≡ true → allows (starts_mask p i) (unless_null v (value_begins p v)) ≡ true
starts_sound p i v (Value-F.Text x) e h s = rw e (text_sound p v x e i h (begins_with p x) refl)
starts_sound p i v Value-F.Null e h s = rw e refl
starts_sound p i v layer e h s = absurd cc

-- ---- conditions

-- the box has each of the row's values in its interval
abbrev pub Covers : Box → List Value → Type 0
Covers box row = (column : ℕ) (i : Interval) → box column ≡ Some i → is_in i (cell row column) ≡ true

sided_sound : (mask : Interval → MaskPair) (t : Truth) (o : Option Interval) → ((i : Interval) → o ≡ Some i → allows (mask i) t ≡ true) → allows (sided mask o) t ≡ true
sided_sound mask (Some true) None h = refl
sided_sound mask (Some false) None h = refl
sided_sound mask None None h = refl
sided_sound mask t (Some i) h = h i refl

any_sound : (t : Truth) → allows any_pair t ≡ true
any_sound (Some true) = refl
any_sound (Some false) = refl
any_sound None = refl

and_sound : (m n : MaskPair) (s t : Truth) → allows m s ≡ true → allows n t ≡ true → allows (pair (m.may_true && n.may_true) (m.may_false || n.may_false)) (and3 s t) ≡ true
and_sound m n (Some true) (Some true) a b = rw (a, b) refl
and_sound m n (Some true) (Some false) a b = grind (arith, a, b)
and_sound m n (Some true) None a b = refl
and_sound m n (Some false) t a b = rw a refl
and_sound m n None (Some true) a b = refl
and_sound m n None (Some false) a b = grind (arith, a, b)
and_sound m n None None a b = refl

or_sound : (m n : MaskPair) (s t : Truth) → allows m s ≡ true → allows n t ≡ true → allows (pair (m.may_true || n.may_true) (m.may_false && n.may_false)) (or3 s t) ≡ true
or_sound m n (Some false) (Some false) a b = rw (a, b) refl
or_sound m n (Some false) (Some true) a b = grind (arith, a, b)
or_sound m n (Some false) None a b = refl
or_sound m n (Some true) t a b = rw a refl
or_sound m n None (Some false) a b = refl
or_sound m n None (Some true) a b = grind (arith, a, b)
or_sound m n None None a b = refl

not_sound : (m : MaskPair) (t : Truth) → allows m t ≡ true → allows (swapped m) (not3 t) ≡ true
not_sound m (Some true) a = a
not_sound m (Some false) a = a
not_sound m None a = refl

-- the values of the box's columns are of the kinds of the literals that suit them
abbrev pub Fitting : List Column → Box → Row → Type 0
Fitting columns box row = (column : ℕ) (i : Interval) → box column ≡ Some i → Suited ((column_at columns column).ty) (cell row column)

abbrev Sound : Cond → Type 0
Sound c = (columns : List Column) (box : Box) (row : Row) → Covers box row → Fitting columns box row → cond_suits columns c ≡ true → allows (mask_by c box) (truth_of c row) ≡ true

abbrev SoundLevel : Cond-F Cond → Type 0
SoundLevel x = (columns : List Column) (box : Box) (row : Row) → Covers box row → Fitting columns box row → cond_suits_step columns (map-Cond Cond Bool (cond_suits columns) x) ≡ true
    → allows (mask_step (map-Cond Cond (Box → MaskPair) mask_by x) box) (truth_step (map-Cond Cond (Row → Truth) truth_of x) row) ≡ true

all_suit : (columns : List Column) (column : ℕ) (v : Value) → Suited ((column_at columns column).ty) v → (ws : List Value) → list_all (takes_literal ((column_at columns column).ty)) ws ≡ true → all_alike v ws ≡ true
all_suit columns column v f [] h = refl
all_suit columns column v f (w ∷ ws) h =
    rw (
      f.0 w (first_so (takes_literal ((column_at columns column).ty) w) (list_all (takes_literal ((column_at columns column).ty)) ws) h),
      all_suit columns column v f ws (second_so (takes_literal ((column_at columns column).ty) w) (list_all (takes_literal ((column_at columns column).ty)) ws) h),
    ) refl

abbrev Below : Type 0
Below = (c : Cond) × Sound c

level_sound : (y : Cond-F Below) → SoundLevel (map-Cond Below Cond (λ e. e.0) y)
level_sound (Cond-F.Cmp column op literal) columns box row covers fit s =
    sided_sound (λ i. cmp_mask op i literal) (unless_null (cell row column) (holds op (value_cmp (cell row column) literal))) (box column)
    (λ i e. cmp_sound op i (cell row column) literal (covers column i e) ((fit column i e).0 literal s))
level_sound (Cond-F.OneOf column literals) columns box row covers fit s =
    sided_sound (λ i. in_mask i literals) (unless_null (cell row column) (list_any (is_same (cell row column)) literals)) (box column)
    (λ i e. in_sound i (cell row column) literals (covers column i e) (all_suit columns column (cell row column) (fit column i e) literals s))
level_sound (Cond-F.IsNull column negated) columns box row covers fit s = any_sound (Some (null_is negated (cell row column)))
level_sound (Cond-F.Starts column prefix) columns box row covers fit s =
    sided_sound (starts_mask prefix) (unless_null (cell row column) (value_begins prefix (cell row column))) (box column)
    (λ i e. starts_sound prefix i (cell row column) (out-Value (cell row column)) refl (covers column i e) ((fit column i e).1 prefix s))
level_sound (Cond-F.Has column literal) columns box row covers fit s = any_sound (Some (list_at (list_any (λ item. is_same item literal)) (out-Value (cell row column))))
level_sound (Cond-F.And a b) columns box row covers fit s =
    and_sound (mask_by a.0 box) (mask_by b.0 box) (truth_of a.0 row) (truth_of b.0 row)
    (a.1 columns box row covers fit (first_so (cond_suits columns a.0) (cond_suits columns b.0) s)) (b.1 columns box row covers fit (second_so (cond_suits columns a.0) (cond_suits columns b.0) s))
level_sound (Cond-F.Or a b) columns box row covers fit s =
    or_sound (mask_by a.0 box) (mask_by b.0 box) (truth_of a.0 row) (truth_of b.0 row)
    (a.1 columns box row covers fit (first_so (cond_suits columns a.0) (cond_suits columns b.0) s)) (b.1 columns box row covers fit (second_so (cond_suits columns a.0) (cond_suits columns b.0) s))
level_sound (Cond-F.Not a) columns box row covers fit s = not_sound (mask_by a.0 box) (truth_of a.0 row) (a.1 columns box row covers fit s)

rolled : (x : Cond-F Cond) → SoundLevel x → Sound (roll-Cond x)
rolled x h columns box row covers fit s =
    rw (fold-roll-Cond (Box → MaskPair) mask_step x, fold-roll-Cond (Row → Truth) truth_step x)
    (h columns box row covers fit (sym (fold-roll-Cond Bool (cond_suits_step columns) x) ∙ s))

pub sound : (c : Cond) → Sound c
sound = ind-Cond Sound (λ x y is. rolled x (subst SoundLevel is (level_sound y)))

-- ---- boxes by their sides

found_in : (side : Side) (column : ℕ) (row : List Value) (rest : Option Interval) (i : Interval) → is_in side.interval (cell row side.column) ≡ true → (rest ≡ Some i → is_in i (cell row column) ≡ true)
    → (b : Bool) → (side.column == column) ≡ b → (if b then Some side.interval else rest) ≡ Some i → is_in i (cell row column) ≡ true
found_in side column row rest i h more true same found =
    let at : side.column ≡ column = grind (arith, same) in
    let is : side.interval ≡ i = grind (arith, found) in
    subst (λ j. is_in j (cell row column) ≡ true) is (subst (λ k. is_in side.interval (cell row k) ≡ true) at h)
found_in side column row rest i h more false other found = more found

covers : (sides : List Side) (row : List Value) → lies_in sides row ≡ true → Covers (interval_at sides) row
covers [] row h column i e = absurd (grind arith)
covers (side ∷ sides) row h column i e =
    found_in side column row (interval_at sides column) i (first_so (is_in side.interval (cell row side.column)) (lies_in sides row) h)
    (covers sides row (second_so (is_in side.interval (cell row side.column)) (lies_in sides row) h) column i) (side.column == column) refl e

pub mask_sound : (columns : List Column) (c : Cond) (sides : List Side) (row : Row) → Fitting columns (interval_at sides) row → cond_suits columns c ≡ true → lies_in sides row ≡ true → allows (mask_of c sides) (truth_of c row) ≡ true
mask_sound columns c sides row f s h = sound c columns (interval_at sides) row (covers sides row h) f s
