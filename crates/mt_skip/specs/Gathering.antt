-- Distinct values behind references, in the order of their first appearance.
use Rattle.std.specs.Prelude.{◌≡◌, ℕ, Bool, true, false, ◌&&◌, nat_le, List, length, map, Option, Some, None}
use Rattle.std.specs.List.{list_all, list_any}
use Rattle.std.specs.Ordering.{is_eq}
use Rattle.std.specs.declared.hash.FoldHasher.{FoldHasher}
use Rattle.std.specs.declared.hash.BuildHasherDefault.{BuildHasherDefault}
use Rattle.indexmap.specs.IndexSet.{IndexSet}
use Rattle.mt_types.specs.declared.value.Value.{Value}
use Rattle.mt_types.specs.Order.{value_cmp}
use Rattle.mt_defs.specs.SkipIndexes.{distinct_values, is_too_many}
use Rattle.mt_skip.specs.declared.seen.Seen.{Seen}

-- the values that keys point to
abbrev pub values_in : List Seen → List Value
values_in seen = map (λ key. key.value.now) seen

-- the same value
abbrev pub is_same : Value → Value → Bool
is_same a b = is_eq (value_cmp a b)

-- no value is listed twice, and each of the others is
abbrev pub has_each : List Value → List Value → Bool
has_each listed values = nat_le (length listed) (length (distinct_values listed)) && list_all (λ value. list_any (is_same value) (distinct_values listed)) values

-- a set of the distinct values, in order; none where they are too many
abbrev pub GathersDistinct : ℕ → List Value → Option (IndexSet Seen (BuildHasherDefault FoldHasher)) → Type 0
GathersDistinct max_rows values None = is_too_many max_rows values ≡ true
GathersDistinct max_rows values (Some set) = (is_too_many max_rows values ≡ false) × (values_in set.keys ≡ distinct_values values)
