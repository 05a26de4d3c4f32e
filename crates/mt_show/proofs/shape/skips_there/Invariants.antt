use Rattle.std.proofs.Common.{◌≡◌, map, take}
use Rattle.mt_defs.specs.Folder.{folder_of}
use Rattle.mt_check.specs.FolderChecks.{skip_is_there}
use Rattle.mt_show.proofs.shape.skips_there.Given as goal

-- the indexes so far
abbrev pub invariant-loop-skip : goal.invariant-loop-skip
invariant-loop-skip l = l.there ≡ map (skip_is_there (folder_of l.files)) (take l.skip-index l.table.skips)
