-- The value of a condition on a row, true, false or NULL: docs/LANGUAGE.md, "Answers" (ClickHouse: an expression of WHERE).
use Rattle.std.specs.Prelude.{ℕ, Bool, true, false, not, if◌then◌else◌, List, length, take, Option, Some, None}
use Rattle.std.specs.List.{list_any}
use Rattle.std.specs.Str.{bytes_eq}
use Rattle.std.specs.declared.cmp.Ordering.{Ordering}
use Rattle.std.specs.Ordering.{is_lt, is_le, is_gt, is_ge, is_eq, is_ne}
use Rattle.mt_types.specs.declared.value.Value.{Value, out-Value}
use Rattle.mt_types.specs.Fits.{null_at, text_at, list_at}
use Rattle.mt_types.specs.Order.{value_cmp}
use Rattle.mt_defs.specs.Rows.{Row, cell}
use Rattle.mt_cond_syntax.specs.declared.op.Op.{Op}
use Rattle.mt_cond_syntax.specs.declared.op.Op.TheVariants.{Eq, Ne, Lt, Le, Gt, Ge}
use Rattle.mt_query.specs.declared.cond.Cond.{Cond}
use Rattle.mt_query.specs.declared.cond.Cond.TheOpen.{Cond-F}
use Rattle.mt_query.specs.declared.cond.Cond.TheFolds.{fold-Cond}

-- ---- three values

-- true, false, or None for NULL
abbrev pub Truth : Type 0
Truth = Option Bool

-- NOT: of NULL it is NULL
abbrev pub not3 : Truth → Truth
not3 None = None
not3 (Some a) = Some (not a)

-- AND: false beside false, also beside NULL; NULL beside NULL or true
abbrev pub and3 : Truth → Truth → Truth
and3 (Some false) b = Some false
and3 (Some true) b = b
and3 None (Some false) = Some false
and3 None _ = None

-- OR: true beside true, also beside NULL; NULL beside NULL or false
abbrev pub or3 : Truth → Truth → Truth
or3 (Some true) b = Some true
or3 (Some false) b = b
or3 None (Some true) = Some true
or3 None _ = None

-- ---- tests of one value

-- NULL on NULL, and else whether the test holds
abbrev pub unless_null : Value → Bool → Truth
unless_null value holds = if null_at (out-Value value) then None else Some holds

-- whether a comparison holds, where a value stands so to a literal
abbrev pub holds : Op → Ordering → Bool
holds Eq order = is_eq order
holds Ne order = is_ne order
holds Lt order = is_lt order
holds Le order = is_le order
holds Gt order = is_gt order
holds Ge order = is_ge order

-- the values are equal
abbrev pub is_same : Value → Value → Bool
is_same a b = is_eq (value_cmp a b)

-- the bytes begin with the prefix
abbrev pub begins_with : (prefix bytes : List ℕ) → Bool
begins_with prefix bytes = bytes_eq (take (length prefix) bytes) prefix

-- the value is NULL, or is not where that is asked
abbrev pub null_is : (negated : Bool) → Value → Bool
null_is negated value = if negated then not (null_at (out-Value value)) else null_at (out-Value value)

-- ---- conditions

-- one level, where the conditions inside it are given by their values on each row
abbrev pub truth_step : Cond-F (Row → Truth) → Row → Truth
truth_step (Cond-F.Cmp column op literal) row = unless_null (cell row column) (holds op (value_cmp (cell row column) literal))
truth_step (Cond-F.OneOf column literals) row = unless_null (cell row column) (list_any (is_same (cell row column)) literals)
truth_step (Cond-F.IsNull column negated) row = Some (null_is negated (cell row column))
truth_step (Cond-F.Starts column prefix) row = unless_null (cell row column) (text_at (begins_with prefix) (out-Value (cell row column)))
truth_step (Cond-F.Has column literal) row = Some (list_at (list_any (λ item. is_same item literal)) (out-Value (cell row column)))
truth_step (Cond-F.And a b) row = and3 (a row) (b row)
truth_step (Cond-F.Or a b) row = or3 (a row) (b row)
truth_step (Cond-F.Not a) row = not3 (a row)

-- the value of a condition on a row
abbrev pub truth_of : Cond → Row → Truth
truth_of = fold-Cond (Row → Truth) truth_step
