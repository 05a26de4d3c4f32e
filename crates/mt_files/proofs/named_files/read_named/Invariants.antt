use Rattle.std.specs.Prelude.{◌≡◌, take, IfSome}
use Rattle.mt_defs.specs.Folder.{folder_below}
use Rattle.mt_shelf.specs.State.{files_of}
use Rattle.mt_files.specs.Listings.{listed_folder}
use Rattle.mt_files.specs.NamedFiles.{file_names, files_named, part_folder}
use Rattle.mt_files.proofs.named_files.read_named.Given as goal

abbrev pub invariant-loop-name : goal.invariant-loop-name
invariant-loop-name g l = record {
  known : IfSome (files_of (g.F.Shelf.state l.fn.shelf)) (λ files. l.files ≡ files_named (folder_below (part_folder l.part files) l.prefix) (take l.name-index l.names));
  names : file_names l.files ≡ file_names (files_named (folder_below (listed_folder l.listing) l.prefix) (take l.name-index l.names));
  files : files_of (g.F.Shelf.state l.shelf) ≡ files_of (g.F.Shelf.state l.fn.shelf);
  faults : g.F.Shelf.faults l.shelf ≡ g.F.Shelf.faults l.fn.shelf;
}
