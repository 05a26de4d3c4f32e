-- Values as a reader shows them.
use Rattle.std.specs.Prelude.{ℕ, pos}
use Rattle.std.specs.Ordering.{int_cmp, nat_cmp, ordering_then}
use Rattle.std.specs.Cmp.Lexicographic.{slice_cmp}
use Rattle.std.specs.declared.cmp.Ordering.{Ordering}
use Rattle.std.specs.declared.cmp.Ordering.TheVariants.{Less, Equal, Greater}
use Rattle.mt_types.specs.declared.value.Value.{Value}
use Rattle.mt_types.specs.declared.value.Value.TheVariants as value
use Rattle.mt_types.specs.Order.{state_cmp, values_cmp}
use Rattle.mt_cells.specs.declared.seen.Seen.{Seen}
use Rattle.mt_cells.specs.declared.seen.Seen.TheVariants.{Num, Huge, Text, Null, List, State}

-- the value that is shown
abbrev pub value_seen : Seen → Value
value_seen (Num n) = value.Num n
value_seen (Huge n) = value.Huge n
value_seen (Text bytes) = value.Text bytes.now
value_seen Null = value.Null
value_seen (List items) = value.List items.now
value_seen (State s) = value.State s

-- the rank of its kind
abbrev pub kind_rank : Seen → ℕ
kind_rank (Num n) = 0
kind_rank (Huge n) = 0
kind_rank (Text bytes) = 1
kind_rank (List items) = 2
kind_rank (State s) = 3
kind_rank Null = 4

-- how two of one kind compare
abbrev pub alike_cmp : Seen → Seen → Ordering
alike_cmp (Num m) (Num n) = int_cmp m n
alike_cmp (Num m) (Huge n) = ordering_then (int_cmp m (pos n)) Less
alike_cmp (Huge m) (Num n) = ordering_then (int_cmp (pos m) n) Greater
alike_cmp (Huge m) (Huge n) = nat_cmp m n
alike_cmp (Text a) (Text b) = slice_cmp nat_cmp a.now b.now
alike_cmp (List a) (List b) = values_cmp a.now b.now
alike_cmp (State s) (State t) = state_cmp s t
alike_cmp _ _ = Equal
