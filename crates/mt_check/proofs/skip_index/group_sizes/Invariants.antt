use Rattle.std.proofs.Common.{◌≡◌, ◌≤◌, ◌++◌, length}
use Rattle.std.specs.Prelude.{sum}
use Rattle.mt_check.specs.RowGroups.{group_sizes}
use Rattle.mt_check.proofs.skip_index.group_sizes.Given as goal

abbrev pub invariant-loop-rest : goal.invariant-loop-rest
invariant-loop-rest l = record {
  ahead : l.sizes ++ group_sizes l.per_entry (length l.rest) l.rest ≡ group_sizes l.per_entry (length l.granules) l.granules;
  small : sum l.rest ≤ sum l.granules;
}

abbrev pub decreases-loop-rest : goal.decreases-loop-rest
decreases-loop-rest l = length l.rest
