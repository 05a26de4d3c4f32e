use Rattle.std.proofs.Common.{◌≡◌, ◌<◌, length, sym, subst, arith, rules}
use Rattle.std.specs.Prelude.{Option, IfSome}
use Rattle.mt_shelf.specs.Files.{Files, entries_below}
use Rattle.mt_shelf.specs.State.{files_of}
use Rattle.mt_table.specs.Stored.{no_projection, projection_at}
use Rattle.mt_files.specs.Listings.{listed_folder, entry_names}
use Rattle.mt_files.specs.NamedFiles.{part_folder}
use Rattle.mt_check.specs.PartFiles.{read_projection_files}
use Rattle.mt_check.proofs.ReadLemmas.{inner_names, inner_push}
use Rattle.mt_check.proofs.reading.read_projections.Goals as goal

pub read_projection-requires-clause-known : goal.read_projection-requires-clause-known
read_projection-requires-clause-known g c =
    subst (λ (o : Option Files). IfSome o (λ files. c.args.listing.now ≡ entries_below c.args.part.now files)) (sym c.loop-place.invariant.files) c.requires.known

pub loop-place-preserved : goal.loop-place-preserved
loop-place-preserved g c =
    let table = c.args.table.now in
    let read = c.in_ok-files.files in
    let less = c.loop-place-test.true in
    let end = c.len-place-end.ensures in
    let inside : c.loop-place.place < length table.projections = omega (arith, less, end) in
    record {
      known = inner_push (λ s. read_projection_files table (part_folder c.args.part.now s) (entry_names c.args.listing.now)) (files_of (g.F.Shelf.state c.args.shelf.now)) table.projections c.loop-place.place no_projection c.loop-place.projections c.push.new.self read inside c.loop-place.invariant.known
          (subst (λ (o : Option Files). IfSome o (λ s. read ≡ read_projection_files table (part_folder c.args.part.now s) (entry_names c.args.listing.now) (projection_at table c.loop-place.place))) c.loop-place.invariant.files c.in_ok-files.ensures.known) c.in_ok-push.ensures.ok;
      names = inner_names (read_projection_files table (listed_folder c.args.listing.now) (entry_names c.args.listing.now)) table.projections c.loop-place.place no_projection c.loop-place.projections c.push.new.self read inside c.loop-place.invariant.names c.in_ok-files.ensures.names c.in_ok-push.ensures.ok;
      files = search rules;
      faults = search rules;
    }
