use Rattle.std.proofs.Common.{◌≡◌, ℕ, ◌<◌, length, get_or}
use Rattle.std.specs.Prelude.{None}
use Rattle.mt_types.specs.declared.value.Value.TheVariants.{Null}
use Rattle.mt_defs.specs.Metadata.{column_at}
use Rattle.mt_definition.specs.ListedPlaces.{value_by}
use Rattle.mt_definition.proofs.WholeLemmas.{Left}
use Rattle.mt_definition.proofs.whole_rows.whole_row.Given as goal

abbrev pub invariant-loop-index : goal.invariant-loop-index
invariant-loop-index l = record {
  each : (i : ℕ) → i < l.index → get_or l.whole i Null ≡ value_by (column_at l.columns i) l.fn.row (get_or l.places i None);
  long : length l.whole ≡ l.index;
  left : Left l.places l.fn.row l.values.items l.index;
  wide : length l.values.items ≡ length l.fn.row;
}
