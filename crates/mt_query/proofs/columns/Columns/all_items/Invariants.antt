use Rattle.std.proofs.Common.{◌≡◌, map}
use Rattle.std.specs.List.{range_with_len}
use Rattle.mt_query.specs.declared.query.Item.TheVariants.{Column}
use Rattle.mt_query.proofs.columns.Columns.all_items.Given as goal

abbrev pub invariant-loop-place : goal.invariant-loop-place
invariant-loop-place l = l.items ≡ map Column (range_with_len 0 l.place)
