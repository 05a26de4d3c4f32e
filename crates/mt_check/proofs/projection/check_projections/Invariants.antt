use Rattle.std.proofs.Common.{◌≡◌}
use Rattle.std.specs.List.{zip}
use Rattle.mt_check.specs.FolderChecks.{projections_checks}
use Rattle.mt_check.proofs.FolderLemmas.{as_folders, checks_from}
use Rattle.mt_check.proofs.projection.check_projections.Given as goal

-- what is left decides
abbrev pub invariant-loop-place : goal.invariant-loop-place
invariant-loop-place l = checks_from l.table l.accepted l.folders l.place ≡ projections_checks l.table l.accepted (zip l.table.projections (as_folders l.folders))
