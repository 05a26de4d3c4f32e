use Rattle.std.proofs.Common.{◌≡◌, ◌++◌, drop, length, map}
use Rattle.std.specs.Prelude.{option_map}
use Rattle.mt_defs.specs.Folder.{folder_of}
use Rattle.mt_show.specs.Shape.{sizes_in}
use Rattle.mt_show.proofs.shape.projection_sizes.Given as goal

-- the sizes so far and of what is left
abbrev pub invariant-loop-place : goal.invariant-loop-place
invariant-loop-place l =
    record {
      sizes : l.sizes ++ sizes_in l.table (drop l.place l.table.projections) (map (option_map folder_of) (drop l.place l.folders)) ≡ sizes_in l.table l.table.projections (map (option_map folder_of) l.folders);
      long : length l.sizes ≡ l.place;
    }
