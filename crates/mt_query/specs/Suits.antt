-- Conditions whose literals suit the columns of a table: docs/LANGUAGE.md, "Queries".
use Rattle.std.specs.Prelude.{ℕ, Bool, true, false, ◌&&◌, ◌==◌, nat_le, List, length, Option, Some, None}
use Rattle.std.specs.List.{list_all}
use Rattle.mt_types.specs.declared.ty.Ty.{Ty, out-Ty}
use Rattle.mt_types.specs.declared.ty.Ty.TheOpen.{Ty-F}
use Rattle.mt_types.specs.declared.ty.Ty.TheFolds.{fold-Ty}
use Rattle.mt_types.specs.declared.value.Value.{Value, out-Value}
use Rattle.mt_types.specs.declared.value.Value.TheOpen.{Value-F}
use Rattle.mt_types.specs.Fits.{Level, text_at}
use Rattle.mt_table.specs.declared.column.Column.{Column}
use Rattle.mt_table.specs.Stored.{column_at}
use Rattle.mt_query.specs.declared.cond.Cond.{Cond}
use Rattle.mt_query.specs.declared.cond.Cond.TheOpen.{Cond-F}
use Rattle.mt_query.specs.declared.cond.Cond.TheFolds.{fold-Cond}

-- ---- literals beside types

-- the value is a number
abbrev pub is_number_level : Level → Bool
is_number_level (Value-F.Num n) = true
is_number_level (Value-F.Huge n) = true
is_number_level _ = false

abbrev pub is_number_value : Value → Bool
is_number_value value = is_number_level (out-Value value)

-- a number beside integers, dates and times, a text beside texts, of as many bytes as FixedString has; a Nullable goes by its inside
abbrev pub literal_step : Ty-F (Value → Bool) → Value → Bool
literal_step (Ty-F.UInt width) value = is_number_value value
literal_step (Ty-F.Int width) value = is_number_value value
literal_step Ty-F.Date value = is_number_value value
literal_step Ty-F.Moment value = is_number_value value
literal_step (Ty-F.FixedString size) value = text_at (λ bytes. length bytes == size) (out-Value value)
literal_step Ty-F.Str value = text_at (λ bytes. true) (out-Value value)
literal_step (Ty-F.Nullable inner) value = inner value
literal_step _ value = false

-- a value that a column of the type may be compared with
abbrev pub takes_literal : Ty → Value → Bool
takes_literal = fold-Ty (Value → Bool) literal_step

-- a text type, of FixedString with no more bytes; a Nullable goes by its inside
abbrev pub prefix_step : Ty-F (List ℕ → Bool) → List ℕ → Bool
prefix_step (Ty-F.FixedString size) prefix = nat_le (length prefix) size
prefix_step Ty-F.Str prefix = true
prefix_step (Ty-F.Nullable inner) prefix = inner prefix
prefix_step _ prefix = false

-- a text that the values of a column of the type may begin with
abbrev pub takes_prefix : Ty → List ℕ → Bool
takes_prefix = fold-Ty (List ℕ → Bool) prefix_step

-- a value that the elements of an array may be compared with
abbrev pub takes_item_at : Ty-F Ty → Value → Bool
takes_item_at (Ty-F.Array inner) value = takes_literal inner value
takes_item_at _ value = false

-- ---- conditions

-- one level, where the conditions inside it are given by their own tests
abbrev pub cond_suits_step : List Column → Cond-F Bool → Bool
cond_suits_step columns (Cond-F.Cmp column op literal) = takes_literal (column_at columns column).ty literal
cond_suits_step columns (Cond-F.OneOf column literals) = list_all (takes_literal (column_at columns column).ty) literals
cond_suits_step columns (Cond-F.IsNull column negated) = true
cond_suits_step columns (Cond-F.Starts column prefix) = takes_prefix (column_at columns column).ty prefix
cond_suits_step columns (Cond-F.Has column literal) = takes_item_at (out-Ty (column_at columns column).ty) literal
cond_suits_step columns (Cond-F.And a b) = a && b
cond_suits_step columns (Cond-F.Or a b) = a && b
cond_suits_step columns (Cond-F.Not a) = a

-- each literal of the condition suits its column
abbrev pub cond_suits : List Column → Cond → Bool
cond_suits columns = fold-Cond Bool (cond_suits_step columns)

-- the same of a condition that may be left out
abbrev pub given_cond_suits : List Column → Option Cond → Bool
given_cond_suits columns None = true
given_cond_suits columns (Some cond) = cond_suits columns cond
