use Rattle.std.proofs.Common.{◌≡◌, ◌+◌, drop}
use Rattle.mt_defs.specs.Projections.{aggregate_index}
use Rattle.mt_agg.proofs.place.aggregate_index.Given as goal

-- what is left decides
abbrev pub invariant-loop-place : goal.invariant-loop-place
invariant-loop-place l = aggregate_index (drop l.place l.aggs) l.aggregate + l.place ≡ aggregate_index l.aggs l.aggregate
