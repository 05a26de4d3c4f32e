use Rattle.std.proofs.Common.{◌≡◌, ◌+◌, List, get_or, refl, subst}
use Rattle.std.proofs.lemmas.Result.{on_ok_weaker}
use Rattle.mt_shelf.specs.State.{files_of}
use Rattle.mt_shelf_frame.specs.Taking.{KnownBytes}
use Rattle.mt_shelf_frame.proofs.TakingLemmas.{known_so}
use Rattle.mt_defs.specs.declared.mark.Mark.{Mark}
use Rattle.mt_stream.specs.Held.{IsBehind}
use Rattle.mt_stream.specs.Reading.{IsGood, Pays, PaysOk, Shows, StaysOnFrames}
use Rattle.mt_payload_stream.proofs.MarkedLemmas.{shown_payload}
use Rattle.mt_payload_stream.proofs.ReadyLemmas.{finds_no_fault, on_ok_both, stays_ready}
use Rattle.mt_payload_stream.proofs.payload_stream.PayloadStream.read.Goals as goal

pub returns-clause-shows : goal.returns-clause-shows
returns-clause-shows g c =
    let index = c.args.index in
    let d : Mark = record { offset = 0; inner = 0 } in
    on_ok_weaker c.read.result
    (known_so (files_of (g.F.Shelf.state c.args.shelf.now)) c.args.path.now _ _ (λ bytes shows.
    shown_payload c.args.self.now.marks index c.args.into.now.items c.read.new.into.items bytes c.args.self.now.complete c.requires.index
    (subst (λ (ms : List Mark). Shows (get_or ms index d) (get_or ms (index + 1) d) bytes c.args.into.now.items c.read.new.into.items) c.as_slice-places.ensures shows)))
    c.read.ensures.shows

pub returns-clause-pays : goal.returns-clause-pays
returns-clause-pays g c =
    let state = g.F.Shelf.state c.args.shelf.now in
    let after = g.F.Shelf.state c.read.new.shelf in
    let index = c.args.index in
    let d : Mark = record { offset = 0; inner = 0 } in
    on_ok_weaker c.read.result
    (known_so (files_of state) c.args.path.now _ _ (λ bytes pays.
    subst (λ (ms : List Mark). PaysOk (get_or ms index d) (get_or ms (index + 1) d) bytes c.args.self.now.file c.read.new.self state after) c.as_slice-places.ensures pays))
    c.read.ensures.pays

pub returns-clause-most : goal.returns-clause-most
returns-clause-most g c =
    let state = g.F.Shelf.state c.args.shelf.now in
    let after = g.F.Shelf.state c.read.new.shelf in
    let index = c.args.index in
    let d : Mark = record { offset = 0; inner = 0 } in
    known_so (files_of state) c.args.path.now _ _ (λ bytes pays.
    subst (λ (ms : List Mark). Pays (get_or ms index d) (get_or ms (index + 1) d) bytes c.args.self.now.file state after) c.as_slice-places.ensures pays)
    c.read.ensures.most

pub returns-clause-good : goal.returns-clause-good
returns-clause-good g c =
    let index = c.args.index in
    let d : Mark = record { offset = 0; inner = 0 } in
    known_so (files_of (g.F.Shelf.state c.args.shelf.now)) c.args.path.now _ _ (λ bytes good.
    finds_no_fault c.args.self.now index c.read.result bytes c.args.self.now.complete c.requires.index
    (subst (λ (ms : List Mark). IsGood (get_or ms index d) (get_or ms (index + 1) d) bytes c.args.self.now.file c.read.result) c.as_slice-places.ensures good))
    c.read.ensures.good

pub returns-clause-ready : goal.returns-clause-ready
returns-clause-ready g c =
    let files = files_of (g.F.Shelf.state c.args.shelf.now) in
    let path = c.args.path.now in
    let places = c.as_slice-places.result.now in
    let index = c.args.index in
    let d : Mark = record { offset = 0; inner = 0 } in
    let file = c.args.self.now.file in
    let now = c.read.new.self in
    on_ok_weaker c.read.result
    (λ both.
    known_so files path _ _ (λ bytes stays.
    stays_ready c.args.self.now _ index bytes c.args.self.now.complete c.requires.index refl
    (subst (λ (ms : List Mark). StaysOnFrames (get_or ms index d) bytes file now) c.as_slice-places.ensures stays)
    (subst (λ (ms : List Mark). IsBehind file (get_or ms index d).offset → IsBehind now (get_or ms (index + 1) d).offset) c.as_slice-places.ensures both.1))
    both.0)
    (on_ok_both (KnownBytes files path (λ bytes. StaysOnFrames (get_or places index d) bytes file now)) (IsBehind file (get_or places index d).offset → IsBehind now (get_or places (index + 1) d).offset)
    c.read.result c.read.ensures.on_frames c.read.ensures.behind)
