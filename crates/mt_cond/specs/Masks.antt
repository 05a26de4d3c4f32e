-- What a condition can be on the rows of a box: docs/LANGUAGE.md, "Masks and covers".
use Rattle.std.specs.Prelude.{ℕ, ◌+◌, Bool, true, false, not, ◌&&◌, ◌||◌, ◌==◌, if◌then◌else◌, List, [], ◌∷◌, Option, Some, None}
use Rattle.std.specs.List.{list_all, list_any}
use Rattle.std.specs.Ordering.{is_lt, is_gt, is_ge, nat_cmp}
use Rattle.std.specs.Cmp.Lexicographic.{slice_cmp}
use Rattle.mt_types.specs.declared.value.Value.{Value, out-Value}
use Rattle.mt_types.specs.declared.value.Value.TheVariants.{Text}
use Rattle.mt_types.specs.Order.{value_cmp}
use Rattle.mt_cond_syntax.specs.declared.op.Op.{Op}
use Rattle.mt_cond_syntax.specs.declared.op.Op.TheVariants.{Eq, Ne, Lt, Le, Gt, Ge}
use Rattle.mt_query.specs.declared.cond.Cond.{Cond}
use Rattle.mt_query.specs.declared.cond.Cond.TheOpen.{Cond-F}
use Rattle.mt_query.specs.declared.cond.Cond.TheFolds.{fold-Cond}
use Rattle.mt_types.specs.Fits.{text_at}
use Rattle.mt_query.specs.Truth.{Truth, begins_with}
use Rattle.mt_cond.specs.declared.types.End.{End}
use Rattle.mt_cond.specs.declared.types.End.TheVariants.{Free, At, Past}
use Rattle.mt_cond.specs.declared.types.Interval.{Interval}
use Rattle.mt_cond.specs.declared.types.Side.{Side}
use Rattle.mt_cond.specs.declared.types.MaskPair.{MaskPair}
use Rattle.mt_cond.specs.Intervals.{is_in, is_point, low_less, high_greater, interval_at}

-- whether it may be true, and whether it may be false
abbrev pub pair : Bool → Bool → MaskPair
pair t f = record { may_true = t; may_false = f }

-- it may be both
abbrev pub any_pair : MaskPair
any_pair = pair true true

-- what NOT makes of it
abbrev pub swapped : MaskPair → MaskPair
swapped m = pair m.may_false m.may_true

-- ---- the table of atoms

-- of a comparison with a literal v
abbrev pub cmp_mask : Op → Interval → Value → MaskPair
cmp_mask Eq i v = pair (is_in i v) (not (is_point i v))
cmp_mask Ne i v = pair (not (is_point i v)) (is_in i v)
cmp_mask Lt i v = pair (low_less i.lo v) (is_in i v || high_greater i.hi v)
cmp_mask Le i v = pair (is_in i v || low_less i.lo v) (high_greater i.hi v)
cmp_mask Gt i v = pair (high_greater i.hi v) (is_in i v || low_less i.lo v)
cmp_mask Ge i v = pair (is_in i v || high_greater i.hi v) (low_less i.lo v)

-- of IN, with a list of literals
abbrev pub in_mask : Interval → List Value → MaskPair
in_mask i vs = pair (list_any (is_in i) vs) (not (list_any (is_point i) vs))

-- one byte of it, before what follows
abbrev pub next_byte : ℕ → Option (List ℕ) → Option (List ℕ)
next_byte b (Some rest) = Some (b ∷ rest)
next_byte b None = if b == 255 then None else Some ((b + 1) ∷ [])

-- next(p), the first text after all that begin with p: trailing bytes ff dropped and 1 added to the last, where one is left
abbrev pub next : List ℕ → Option (List ℕ)
next [] = None
next (b ∷ bytes) = next_byte b (next bytes)

-- a text, before the next of a prefix
abbrev pub text_before : List ℕ → Option (List ℕ) → Bool
text_before x None = true
text_before x (Some n) = is_lt (slice_cmp nat_cmp x n)

-- there is no next(p)
abbrev pub is_whole_ff : List ℕ → Bool
is_whole_ff = list_all (λ b. b == 255)

-- the high end is Free, or its value is above p, or it is At(p)
abbrev pub reaches : List ℕ → End → Bool
reaches p Free = true
reaches p (At w) = is_ge (value_cmp w (Text p))
reaches p (Past w) = is_gt (value_cmp w (Text p))

-- a value, before the next of a prefix
abbrev pub is_before : Value → Option (List ℕ) → Bool
is_before w None = true
is_before w (Some bytes) = is_lt (value_cmp w (Text bytes))

-- the low end is Free, or its value is below next(p), or there is no next(p)
abbrev pub starts_before : List ℕ → End → Bool
starts_before p Free = true
starts_before p (At w) = is_before w (next p)
starts_before p (Past w) = is_before w (next p)

-- the value is a text that begins so
abbrev pub value_begins : List ℕ → Value → Bool
value_begins p v = text_at (begins_with p) (out-Value v)

-- the end has a value, which is a text that begins so
abbrev pub end_begins : List ℕ → End → Bool
end_begins p Free = false
end_begins p (At w) = value_begins p w
end_begins p (Past w) = value_begins p w

-- of startsWith, with a prefix p
abbrev pub starts_mask : List ℕ → Interval → MaskPair
starts_mask p i = pair (reaches p i.hi && starts_before p i.lo) (not (end_begins p i.lo && end_begins p i.hi))

-- ---- conditions

-- an atom's mask, by the interval of its column where the box has one
abbrev pub sided : (Interval → MaskPair) → Option Interval → MaskPair
sided mask None = any_pair
sided mask (Some i) = mask i

-- a box, by the interval of each column
abbrev pub Box : Type 0
Box = ℕ → Option Interval

-- one level of a condition, where the conditions inside it are given by their masks in each box
abbrev pub mask_step : Cond-F (Box → MaskPair) → Box → MaskPair
mask_step (Cond-F.Cmp column op literal) box = sided (λ i. cmp_mask op i literal) (box column)
mask_step (Cond-F.OneOf column literals) box = sided (λ i. in_mask i literals) (box column)
mask_step (Cond-F.IsNull column negated) box = any_pair
mask_step (Cond-F.Starts column prefix) box = sided (starts_mask prefix) (box column)
mask_step (Cond-F.Has column literal) box = any_pair
mask_step (Cond-F.And a b) box = pair ((a box).may_true && (b box).may_true) ((a box).may_false || (b box).may_false)
mask_step (Cond-F.Or a b) box = pair ((a box).may_true || (b box).may_true) ((a box).may_false && (b box).may_false)
mask_step (Cond-F.Not a) box = swapped (a box)

-- the mask of a condition, where the box is given by the interval of each column
abbrev pub mask_by : Cond → Box → MaskPair
mask_by = fold-Cond (Box → MaskPair) mask_step

-- the mask of a condition in a box
abbrev pub mask_of : Cond → List Side → MaskPair
mask_of c sides = mask_by c (interval_at sides)

-- ---- what a mask allows

-- the condition's value is one that the mask says it may be; NULL is always allowed
abbrev pub allows : MaskPair → Truth → Bool
allows m None = true
allows m (Some true) = m.may_true
allows m (Some false) = m.may_false
