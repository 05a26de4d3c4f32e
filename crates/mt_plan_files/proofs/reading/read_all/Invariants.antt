use Rattle.std.specs.Prelude.{◌≡◌, ◌++◌, take, IfSome}
use Rattle.std.specs.List.{sum_by}
use Rattle.mt_shelf.specs.State.{files_of, ReadsUpTo}
use Rattle.mt_files.specs.NamedFiles.{files_named, part_folder}
use Rattle.mt_plan_files.specs.Sizes.{listed_size}
use Rattle.mt_plan_files.proofs.reading.read_all.Given as goal

abbrev pub invariant-loop-name : goal.invariant-loop-name
invariant-loop-name g l = record {
  known : IfSome (files_of (g.F.Shelf.state l.fn.shelf)) (λ stored. l.files ≡ l.fn.files ++ files_named (part_folder l.part stored) (take l.name-index l.names));
  taken : ReadsUpTo (sum_by (listed_size l.listing) (take l.name-index l.names)) (g.F.Shelf.state l.fn.shelf) (g.F.Shelf.state l.shelf);
  faults : g.F.Shelf.faults l.shelf ≡ g.F.Shelf.faults l.fn.shelf;
}
