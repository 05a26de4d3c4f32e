-- What is hashed of a row: all of each value. Equal rows are the same, so they hash alike.
use Rattle.std.specs.Prelude.{◌≡◌, List, [], ◌++◌, refl}
use Rattle.std.specs.List.{flat_map}
use Rattle.std.specs.Hash as fed
use Rattle.std.specs.Hash.{HashWrites}
use Rattle.std.specs.Ordering.{is_eq, eq_by_cmp}
use Rattle.std.specs.declared.cmp.Ordering.{Ordering}
use Rattle.std.specs.declared.cmp.Ordering.TheVariants.{Less, Equal, Greater}
use Rattle.std.proofs.Common.{ap, true}
use Rattle.mt_types.specs.declared.value.AggState.{AggState}
use Rattle.mt_types.specs.declared.value.AggState.TheVariants.{Count, Sum, Least, Greatest}
use Rattle.mt_types.specs.declared.value.Value.{Value}
use Rattle.mt_types.specs.declared.value.Value.TheOpen.{Value-F}
use Rattle.mt_types.specs.declared.value.Value.TheFolds.{fold-Value}
use Rattle.mt_types.specs.Order.{values_cmp}
use Rattle.mt_types.specs.Ordered.{exact_lists}

-- what a state feeds: the rank of its variant, and what it holds
abbrev pub state_writes : AggState → HashWrites
state_writes (Count n) = fed.u8 0 ++ fed.u64 n
state_writes (Sum n) = fed.u8 1 ++ fed.u64 n
state_writes (Least n) = fed.u8 2 ++ fed.option fed.i128 n
state_writes (Greatest n) = fed.u8 3 ++ fed.option fed.i128 n

-- what a value feeds: the rank of its kind, and what it holds, where the writes of elements are given
abbrev pub level_writes : Value-F HashWrites → HashWrites
level_writes (Value-F.Num n) = fed.u8 0 ++ fed.i128 n
level_writes (Value-F.Text bytes) = fed.u8 1 ++ fed.slice fed.u8 bytes
level_writes (Value-F.List items) = fed.u8 2 ++ fed.slice (λ writes. writes) items
level_writes (Value-F.State s) = fed.u8 3 ++ state_writes s
level_writes Value-F.Null = fed.u8 4
level_writes (Value-F.Huge n) = fed.u8 5 ++ fed.u128 n

-- what a value feeds to a hash
abbrev pub value_writes : Value → HashWrites
value_writes = fold-Value HashWrites level_writes

-- what a row feeds: its values, one after another
abbrev pub row_writes : List Value → HashWrites
row_writes row = flat_map value_writes row

-- a comparison that answers Equal
equal_if : (o : Ordering) → is_eq o ≡ true → o ≡ Equal
equal_if Less e = cc
equal_if Equal e = refl
equal_if Greater e = cc

-- rows that are equal feed the same
pub row_writes_respects_eq : (x y : List Value) → eq_by_cmp values_cmp x y ≡ true → row_writes x ≡ row_writes y
row_writes_respects_eq x y h = ap row_writes (exact_lists x y (equal_if (values_cmp x y) h))
