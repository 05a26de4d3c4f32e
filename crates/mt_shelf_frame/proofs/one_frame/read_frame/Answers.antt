use Rattle.std.proofs.Common.{◌≡◌, ◌∙◌, ◌+◌, ◌-◌, ap, arith, subst, refl, take, drop}
use Rattle.std.specs.Prelude.{Ok}
use Rattle.std.proofs.lemmas.List.{length-drop}
use Rattle.mt_shelf.specs.State.{State, files_of, after_read}
use Rattle.mt_shelf_frame.specs.Taking.{KnownBytes}
use Rattle.mt_frame.proofs.HeaderLemmas.{is_short}
use Rattle.mt_shelf_frame.proofs.TakingLemmas.{read_twice, read_at_most, known_so, known_both, reads_on, reads_within}
use Rattle.mt_shelf_frame.proofs.OneFrameLemmas.{reading_of, whole_frame, frame_taken}
use Rattle.mt_shelf_frame.proofs.one_frame.read_frame.Goals as goal

pub returns-then-left-clause-reads : goal.returns-then-left-clause-reads
returns-then-left-clause-reads g c =
    known_so (files_of (g.F.Shelf.state c.args.shelf.now)) c.args.path.now _ _ (λ bytes size. (refl, is_short (drop c.args.at bytes) (omega (arith, length-drop c.args.at bytes)))) c.requires.size

pub returns-in_ok-bytes-in-Ok-clause-reads : goal.returns-in_ok-bytes-in-Ok-clause-reads
returns-in_ok-bytes-in-Ok-clause-reads g c =
    let now = g.F.Shelf.state c.args.shelf.now in
    let path = c.args.path.now in
    let at = c.args.at in
    let n = c.in-Ok.payload in
    let payload = c.in_ok-bytes-in-Ok.bytes in
    let read : KnownBytes (files_of now) path (λ bytes. payload ≡ take n (drop (at + 25) bytes)) =
    subst (λ (s : State). KnownBytes (files_of s) path (λ bytes. payload ≡ take n (drop (at + 25) bytes))) c.in_ok-fill.ensures.state c.in_ok-bytes-in-Ok.ensures.known in
    known_so (files_of now) path _ _
    (λ bytes p. whole_frame bytes c.fill.new.into at c.args.size n payload (reading_of bytes c.fill.new.into at c.args.size (Ok n) c.in-Ok.ensures.gives p.0.0 p.0.1) c.in_ok-bytes-in-Ok.ensures.len p.1)
    (known_both (files_of now) path _ _ (known_both (files_of now) path _ _ c.in_ok-fill.ensures.known c.requires.size) read)

pub returns-in_ok-bytes-in-Ok-clause-most : goal.returns-in_ok-bytes-in-Ok-clause-most
returns-in_ok-bytes-in-Ok-clause-most g c =
    let now = g.F.Shelf.state c.args.shelf.now in
    let path = c.args.path.now in
    let at = c.args.at in
    let n = c.in-Ok.payload in
    known_so (files_of now) path _ _
    (λ bytes p. frame_taken bytes c.fill.new.into at c.args.size n _ _ (reading_of bytes c.fill.new.into at c.args.size (Ok n) c.in-Ok.ensures.gives p.0 p.1)
    (read_at_most _ _ (25 + n) (25 + n) (c.in_ok-bytes-in-Ok.ensures.state ∙ ap (λ (s : State). after_read n s) c.in_ok-fill.ensures.state ∙ read_twice now 25 n) (omega arith)))
    (known_both (files_of now) path _ _ c.in_ok-fill.ensures.known c.requires.size)

pub returns-in_err-bytes-in-Ok-clause-most : goal.returns-in_err-bytes-in-Ok-clause-most
returns-in_err-bytes-in-Ok-clause-most g c =
    let now = g.F.Shelf.state c.args.shelf.now in
    let path = c.args.path.now in
    let at = c.args.at in
    let n = c.in-Ok.payload in
    known_so (files_of now) path _ _
    (λ bytes p. frame_taken bytes c.fill.new.into at c.args.size n _ _ (reading_of bytes c.fill.new.into at c.args.size (Ok n) c.in-Ok.ensures.gives p.0 p.1)
    (reads_on now _ _ 25 n c.in_ok-fill.ensures.state c.in_err-bytes-in-Ok.ensures.most))
    (known_both (files_of now) path _ _ c.in_ok-fill.ensures.known c.requires.size)

pub returns-in_err-bytes-in-Ok-clause-limit : goal.returns-in_err-bytes-in-Ok-clause-limit
returns-in_err-bytes-in-Ok-clause-limit g c =
    reads_within _ _ (25 + c.in-Ok.payload) (c.args.size - c.args.at) c.in-Ok.ensures.bounds.2
    (reads_on (g.F.Shelf.state c.args.shelf.now) _ _ 25 c.in-Ok.payload c.in_ok-fill.ensures.state c.in_err-bytes-in-Ok.ensures.most)

pub returns-in_ok-bytes-in-Ok-clause-limit : goal.returns-in_ok-bytes-in-Ok-clause-limit
returns-in_ok-bytes-in-Ok-clause-limit g c =
    reads_within _ _ (25 + c.in-Ok.payload) (c.args.size - c.args.at) c.in-Ok.ensures.bounds.2
    (reads_on (g.F.Shelf.state c.args.shelf.now) _ _ 25 c.in-Ok.payload c.in_ok-fill.ensures.state c.in_ok-bytes-in-Ok.ensures.most)
