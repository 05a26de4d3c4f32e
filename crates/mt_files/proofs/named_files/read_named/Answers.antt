use Rattle.std.proofs.Common.{◌≡◌, ◌∙◌, subst, rules}
use Rattle.std.specs.Prelude.{Option, IfSome}
use Rattle.mt_defs.specs.Folder.{folder_below}
use Rattle.mt_shelf.specs.Files.{Files}
use Rattle.mt_shelf.specs.State.{files_of}
use Rattle.mt_files.specs.Listings.{listed_folder}
use Rattle.mt_files.specs.NamedFiles.{file_named, part_folder}
use Rattle.mt_files.proofs.NamedLemmas.{known_push, names_more}
use Rattle.mt_files.proofs.named_files.read_named.Goals as goal

pub loop-name-preserved : goal.loop-name-preserved
loop-name-preserved g c =
    let part = c.args.part.now in
    let prefix = c.args.prefix.now in
    let names = c.args.names.now in
    let name = c.as_slice.result.now in
    let i = c.loop-name.name-index in
    let at = c.as_slice.ensures ∙ c.name-item.is in
    let file = c.in_ok-file.file in
    record {
      known = known_push part prefix (files_of (g.F.Shelf.state c.args.shelf.now)) names i name c.name-item.result file c.loop-name.files c.push_file.new.files c.loop-name-test.true at c.loop-name.invariant.known
          (subst (λ (o : Option Files). IfSome o (λ s. file ≡ file_named (folder_below (part_folder part s) prefix) name)) c.loop-name.invariant.files c.in_ok-file.ensures.known) c.in_ok-push_file.ensures;
      names = names_more (folder_below (listed_folder c.args.listing.now) prefix) names i name c.name-item.result file c.loop-name.files c.push_file.new.files c.loop-name-test.true at c.loop-name.invariant.names c.in_ok-file.ensures.names c.in_ok-push_file.ensures;
      files = search rules;
      faults = search rules;
    }
