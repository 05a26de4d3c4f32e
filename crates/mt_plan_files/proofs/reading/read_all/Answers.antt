use Rattle.std.proofs.Common.{◌∙◌, rules}
use Rattle.std.specs.List.{sum_by}
use Rattle.std.specs.Prelude.{take}
use Rattle.mt_shelf.specs.State.{files_of}
use Rattle.mt_plan_files.specs.Sizes.{listed_size}
use Rattle.mt_plan_files.proofs.ListedLemmas.{known_more}
use Rattle.mt_plan_files.proofs.TakenLemmas.{reads_failed, reads_next, same_files}
use Rattle.mt_plan_files.proofs.reading.read_all.Goals as goal

pub returns-in_err-read_into-clause-taken : goal.returns-in_err-read_into-clause-taken
returns-in_err-read_into-clause-taken g c =
    reads_failed (listed_size c.args.listing.now) c.args.names.now c.loop-name.name-index c.name-item.result c.as_slice.result.now c.loop-name-test.true (c.as_slice.ensures ∙ c.name-item.is)
    (g.F.Shelf.state c.args.shelf.now) (g.F.Shelf.state c.loop-name.shelf) (g.F.Shelf.state c.read_into.new.shelf) c.loop-name.invariant.taken c.in_err-read_into.ensures.taken

pub loop-name-preserved : goal.loop-name-preserved
loop-name-preserved g c =
    let names = c.args.names.now in
    let i = c.loop-name.name-index in
    let name = c.as_slice.result.now in
    let at = c.as_slice.ensures ∙ c.name-item.is in
    let old = g.F.Shelf.state c.args.shelf.now in
    let mid = g.F.Shelf.state c.loop-name.shelf in
    record {
      known = known_more c.args.part.now (files_of old) (files_of mid) names i name c.name-item.result c.args.files.now c.loop-name.files c.read_into.new.files c.loop-name-test.true at
          (same_files (sum_by (listed_size c.args.listing.now) (take i names)) old mid c.loop-name.invariant.taken) c.loop-name.invariant.known c.in_ok-read_into.ensures.known;
      taken = reads_next (listed_size c.args.listing.now) names i c.name-item.result name c.loop-name-test.true at old mid (g.F.Shelf.state c.read_into.new.shelf) c.loop-name.invariant.taken c.in_ok-read_into.ensures.taken;
      faults = search rules;
    }
