use Rattle.std.proofs.Common.{◌≡◌, ◌<◌, ◌∙◌, ap, sym, subst, None, length, slice_get}
use Rattle.std.specs.Option.{option_map}
use Rattle.std.specs.FinMap.{get}
use Rattle.mt_shelf.specs.Held.{files_in, all_paths, AllDiffer, IsFirst}
use Rattle.mt_shelf.proofs.HeldFacts.{files-set, files-push, paths-set, paths-push, differ-set, differ-push}
use Rattle.mt_shelf.proofs.held.set_file.Goals as goal

pub returns-in-Some-clause-files : goal.returns-in-Some-clause-files
returns-in-Some-clause-files c =
    let first : IsFirst c.args.held.now.items c.args.file.name c.in-Some.i = rw (← c.deref.ensures.value, ← c.as_slice.ensures) c.in-Some.ensures.first in
    files-set c.args.held.now.items c.in-Some.i c.index_mut.result.now c.args.file.name c.args.file.bytes first c.index_mut.ensures.value

pub returns-in-Some-clause-paths : goal.returns-in-Some-clause-paths
returns-in-Some-clause-paths c =
    let first : IsFirst c.args.held.now.items c.args.file.name c.in-Some.i = rw (← c.deref.ensures.value, ← c.as_slice.ensures) c.in-Some.ensures.first in
    λ good path. paths-set c.args.held.now.items c.in-Some.i c.index_mut.result.now c.args.file.name c.args.file.bytes first c.index_mut.ensures.value ∙ good

pub returns-in_ok-push-in-None-clause-files : goal.returns-in_ok-push-in-None-clause-files
returns-in_ok-push-in-None-clause-files c =
    let none : get (files_in c.args.held.now.items) c.args.file.name ≡ None = rw (← c.deref.ensures.value, ← c.as_slice.ensures) c.in-None.ensures.first in
    ap files_in c.in_ok-push-in-None.ensures.items ∙ files-push c.args.held.now.items c.args.file none

pub returns-in_ok-push-in-None-clause-paths : goal.returns-in_ok-push-in-None-clause-paths
returns-in_ok-push-in-None-clause-paths c = λ good path. ap all_paths c.in_ok-push-in-None.ensures.items ∙ paths-push c.args.held.now.items c.args.file good path

pub returns-in-Some-clause-names : goal.returns-in-Some-clause-names
returns-in-Some-clause-names c =
    let first : IsFirst c.args.held.now.items c.args.file.name c.in-Some.i = rw (← c.deref.ensures.value, ← c.as_slice.ensures) c.in-Some.ensures.first in
    let inside : c.in-Some.i < length c.args.held.now.items = rw (← c.deref.ensures.value) c.in-Some.ensures.inside in
    let found : get (files_in c.args.held.now.items) c.args.file.name ≡ option_map (λ f. f.bytes) (slice_get c.args.held.now.items c.in-Some.i) = rw (← c.deref.ensures.value, ← c.as_slice.ensures) c.in-Some.ensures.found in
    λ differ. differ-set c.args.held.now.items c.in-Some.i c.index_mut.result.now c.args.file.name c.args.file.bytes first c.index_mut.ensures.value inside found differ

pub returns-in_ok-push-in-None-clause-names : goal.returns-in_ok-push-in-None-clause-names
returns-in_ok-push-in-None-clause-names c =
    let none : get (files_in c.args.held.now.items) c.args.file.name ≡ None = rw (← c.deref.ensures.value, ← c.as_slice.ensures) c.in-None.ensures.first in
    λ differ. subst AllDiffer (sym c.in_ok-push-in-None.ensures.items) (differ-push c.args.held.now.items c.args.file none differ)
