use Rattle.std.proofs.Common.{◌≡◌, ◌++◌, take}
use Rattle.std.specs.List.{flat_map}
use Rattle.mt_defs.specs.Part.{projection_names}
use Rattle.mt_files.specs.Listings.{listed_folder}
use Rattle.mt_strays.proofs.known_names.push_projections.Given as goal

abbrev pub invariant-loop-place : goal.invariant-loop-place
invariant-loop-place l = l.names.items ≡ l.initial.names.items ++ flat_map (projection_names l.table (listed_folder l.listing)) (take l.place l.table.projections)
