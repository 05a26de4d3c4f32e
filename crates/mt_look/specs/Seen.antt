-- Values as a reader shows them.
use Rattle.std.specs.Prelude.{ℕ, List, [], slice_index_or}
use Rattle.mt_types.specs.declared.value.Value.{Value}
use Rattle.mt_types.specs.declared.value.Value.TheVariants as value
use Rattle.mt_defs.specs.Rows.{Row}
use Rattle.mt_look.specs.declared.seen.Seen.{Seen}
use Rattle.mt_look.specs.declared.seen.Seen.TheVariants.{Num, Huge, Text, Null, Held}

-- the value that is shown
abbrev pub value_seen : Seen → Value
value_seen (Num n) = value.Num n
value_seen (Huge n) = value.Huge n
value_seen (Text bytes) = value.Text bytes.now
value_seen Null = value.Null
value_seen (Held v) = v.now

-- a row by its index; an index below the number of rows has one
abbrev pub row_by_index : List Row → ℕ → Row
row_by_index rows row_index = slice_index_or rows row_index []
