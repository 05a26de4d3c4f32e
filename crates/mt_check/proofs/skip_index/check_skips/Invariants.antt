use Rattle.std.proofs.Common.{◌≡◌, drop}
use Rattle.mt_defs.specs.Folder.{folder_of}
use Rattle.mt_check.specs.FolderChecks.{each, skip_checks}
use Rattle.mt_check.proofs.skip_index.check_skips.Given as goal

-- what is left decides
abbrev pub invariant-loop-skip : goal.invariant-loop-skip
invariant-loop-skip l = each (skip_checks l.table (folder_of l.files) l.accepted) (drop l.skip-index l.skip-items) ≡ each (skip_checks l.table (folder_of l.files) l.accepted) l.table.skips
