use Rattle.std.proofs.Common.{◌≡◌, ◌≤◌, ◌++◌, length, map}
use Rattle.std.specs.Prelude.{sum}
use Rattle.mt_defs.specs.WrittenSkips.{written_entry}
use Rattle.mt_skip.specs.Groups.{value_groups}
use Rattle.mt_skip.specs.Items.{AllFit}
use Rattle.mt_skip.proofs.groups.group_entries.Given as goal

-- what is made, and what is left to make
abbrev pub invariant-loop-counts : goal.invariant-loop-counts
invariant-loop-counts l = record {
  ahead : l.made ++ map (written_entry l.skip.kind l.ty) (value_groups l.skip.granularity (length l.counts) l.counts l.rest)
      ≡ map (written_entry l.skip.kind l.ty) (value_groups l.skip.granularity (length l.granules) l.granules l.values);
  cut : sum l.counts ≡ length l.rest;
  fit : AllFit l.ty l.rest;
  short : length l.rest ≤ length l.values;
}

abbrev pub decreases-loop-counts : goal.decreases-loop-counts
decreases-loop-counts l = length l.counts
