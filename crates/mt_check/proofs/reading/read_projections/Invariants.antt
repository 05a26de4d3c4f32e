use Rattle.std.specs.Prelude.{◌≡◌, map, take, option_map, IfSome}
use Rattle.mt_shelf.specs.State.{files_of}
use Rattle.mt_files.specs.Listings.{listed_folder, entry_names}
use Rattle.mt_files.specs.NamedFiles.{file_names, part_folder}
use Rattle.mt_check.specs.PartFiles.{read_projection_files}
use Rattle.mt_check.proofs.reading.read_projections.Given as goal

abbrev pub invariant-loop-place : goal.invariant-loop-place
invariant-loop-place g l = record {
  known : IfSome (files_of (g.F.Shelf.state l.fn.shelf)) (λ files. l.projections ≡ map (read_projection_files l.table (part_folder l.part files) (entry_names l.listing)) (take l.place l.table.projections));
  names : map (option_map file_names) l.projections ≡ map (option_map file_names) (map (read_projection_files l.table (listed_folder l.listing) (entry_names l.listing)) (take l.place l.table.projections));
  files : files_of (g.F.Shelf.state l.shelf) ≡ files_of (g.F.Shelf.state l.fn.shelf);
  faults : g.F.Shelf.faults l.shelf ≡ g.F.Shelf.faults l.fn.shelf;
}
