-- The condition of a sentence: docs/LANGUAGE.md, "Queries".
use Rattle.std.specs.Prelude.{ℕ, Bool, true, ◌&&◌, List, Option, Some, None, option_map}
use Rattle.mt_table.specs.declared.column.Column.{Column}
use Rattle.mt_cond_syntax.specs.declared.op.Op.{Op}
use Rattle.mt_cond_syntax.specs.declared.tree.Literal.{Literal}
use Rattle.mt_cond_syntax.specs.declared.tree.CondText.{CondText}
use Rattle.mt_cond_syntax.specs.declared.tree.CondText.TheOpen.{CondText-F}
use Rattle.mt_cond_syntax.specs.declared.tree.CondText.TheFolds.{fold-CondText}
use Rattle.mt_query.specs.declared.cond.Cond.{Cond}
use Rattle.mt_query.specs.declared.cond.Cond.TheVariants.{Cmp, OneOf, IsNull, Starts, Has, And, Or, Not}
use Rattle.mt_query.specs.Columns.{column_of, is_there, place_of}
use Rattle.mt_query.specs.Lists.{◌>>=◌, all_of}
use Rattle.mt_query.specs.Literals.{element_value_of, prefix_of, literal_value_of}

-- ---- NoSuchColumn

-- one level: the columns of the conditions inside it are there, or not
abbrev pub present_step : List Column → CondText-F Bool → Bool
present_step columns (CondText-F.Cmp name op literal) = is_there columns name
present_step columns (CondText-F.OneOf name literals) = is_there columns name
present_step columns (CondText-F.IsNull name negated) = is_there columns name
present_step columns (CondText-F.Starts name prefix) = is_there columns name
present_step columns (CondText-F.Has name literal) = is_there columns name
present_step columns (CondText-F.And a b) = a && b
present_step columns (CondText-F.Or a b) = a && b
present_step columns (CondText-F.Not a) = a

-- every column that a condition names is there
abbrev pub is_present : List Column → CondText → Bool
is_present columns = fold-CondText Bool (present_step columns)

-- the same of a condition that may be left out
abbrev pub given_is_present : List Column → Option CondText → Bool
given_is_present columns None = true
given_is_present columns (Some cond) = is_present columns cond

-- ---- BadLiteral

-- a comparison, where its literal suits its column
abbrev pub comparison_on : List Column → (name : List ℕ) → Op → Literal → Option Cond
comparison_on columns name op literal = do
  column ← column_of columns name
  value ← literal_value_of column.1 literal
  Some (Cmp column.0 op value)

-- an IN, where each of its literals suits its column
abbrev pub one_of : List Column → (name : List ℕ) → List Literal → Option Cond
one_of columns name literals = do
  column ← column_of columns name
  values ← all_of (literal_value_of column.1) literals
  Some (OneOf column.0 values)

-- an IS NULL, of whatever column
abbrev pub null_test_on : List Column → (name : List ℕ) → (negated : Bool) → Option Cond
null_test_on columns name negated = do
  place ← place_of columns name
  Some (IsNull place negated)

-- a startsWith, where its text suits its column
abbrev pub starts_on : List Column → (name prefix : List ℕ) → Option Cond
starts_on columns name prefix = do
  column ← column_of columns name
  text ← prefix_of column.1 prefix
  Some (Starts column.0 text)

-- a has, where its literal suits the elements of its column
abbrev pub has_on : List Column → (name : List ℕ) → Literal → Option Cond
has_on columns name literal = do
  column ← column_of columns name
  value ← element_value_of column.1 literal
  Some (Has column.0 value)

-- two conditions joined, where both are there
abbrev pub joined_conditions : (join : Cond → Cond → Cond) → Option Cond → Option Cond → Option Cond
joined_conditions join left right = do
  a ← left
  b ← right
  Some (join a b)

-- one level: the conditions inside it are there, where their literals suit
abbrev pub cond_step : List Column → CondText-F (Option Cond) → Option Cond
cond_step columns (CondText-F.Cmp name op literal) = comparison_on columns name op literal
cond_step columns (CondText-F.OneOf name literals) = one_of columns name literals
cond_step columns (CondText-F.IsNull name negated) = null_test_on columns name negated
cond_step columns (CondText-F.Starts name prefix) = starts_on columns name prefix
cond_step columns (CondText-F.Has name literal) = has_on columns name literal
cond_step columns (CondText-F.And left right) = joined_conditions And left right
cond_step columns (CondText-F.Or left right) = joined_conditions Or left right
cond_step columns (CondText-F.Not inner) = option_map Not inner

-- the condition of a sentence's, where each literal suits its column
abbrev pub cond_of : List Column → CondText → Option Cond
cond_of columns = fold-CondText (Option Cond) (cond_step columns)

-- a condition that is there is given
abbrev pub given : Option Cond → Option (Option Cond)
given None = None
given (Some cond) = Some (Some cond)

-- the same of a condition that may be left out
abbrev pub given_cond : List Column → Option CondText → Option (Option Cond)
given_cond columns None = Some None
given_cond columns (Some cond) = given (cond_of columns cond)
