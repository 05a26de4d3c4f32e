use Rattle.std.proofs.Common.{refl, ◌∙◌, ap, sym, arith, subst, List, ℕ, length, drop, take, ◌++◌}
use Rattle.std.specs.Prelude.{Err}
use Rattle.std.proofs.lemmas.Result.{err_from_is_err_and}
use Rattle.mt_stream.specs.Held.{HoldFails, AppendFails}
use Rattle.mt_shelf.specs.State.{files_of}
use Rattle.mt_frame.specs.FrameReading.{frame_reading}
use Rattle.mt_shelf_frame.specs.Taking.{IsFrameAt, KnownBytes}
use Rattle.mt_shelf_frame.proofs.TakingLemmas.{known_so, known_both}
use Rattle.mt_stream.proofs.TouchedLemmas.{touched_rest}
use Rattle.mt_stream.proofs.WalkLemmas.{Walk, walk_start, walk_step, walk_last, walk_end, touched_inside, touched_last, known_before}
use Rattle.mt_stream.specs.Touched.{IsFrameStart}
use Rattle.mt_stream.proofs.GoodLemmas.{walk_seam, ahead, hold_inside, append_inside, hold_last, append_last}
use Rattle.mt_stream.proofs.HoldLemmas.{reads_none, reads_then, paid_more, pays_most, pays_ok, paid_at_most}
use Rattle.mt_stream.proofs.stream.FrameStream.read.Goals as goal

-- before the loop
pub loop-at-init : goal.loop-at-init
loop-at-init g c =
    let now = g.F.Shelf.state c.args.shelf.now in
    let path = c.args.path.now in
    record {
      size = refl;
      rises = omega arith;
      climbs = omega arith;
      within = omega arith;
      taken = reads_none now _;
      faults = refl;
      held = c.requires.held;
      on_frames = known_so (files_of now) path _ _ (λ bytes long blocks p is begins had. had) c.requires.size;
      behind = λ had. had;
      ahead = known_so (files_of now) path _ _ (λ bytes long blocks p q is marks. marks.offsets) c.requires.size;
      walked = known_so (files_of now) path _ _ (λ bytes long blocks p is begins. walk_start blocks c.args.begins p c.args.into.now.items begins) c.requires.size;
      paid = known_so (files_of now) path _ _ (λ bytes long blocks p rest is begins. omega arith) c.requires.size;
    }

-- the loop's frame
pub loop-at-preserved : goal.loop-at-preserved
loop-at-preserved g c =
    let now = g.F.Shelf.state c.args.shelf.now in
    let mid = g.F.Shelf.state c.loop-at.shelf in
    let new = g.F.Shelf.state c.hold.new.shelf in
    let path = c.args.path.now in
    let at = c.loop-at.at in
    let hold = c.in_ok-hold.ensures in
    let inv = c.loop-at.invariant in
    let frame : KnownBytes (files_of now) path (λ bytes. IsFrameAt at c.hold.new.self.end c.hold.new.self.held (frame_reading (drop at bytes))) = known_before now mid path _ _ inv.taken hold.stands in
    record {
      size = hold.size ∙ inv.size;
      rises = omega (arith, inv.rises, hold.after);
      climbs = omega (arith, inv.climbs, hold.climbs);
      within = omega (arith, inv.within, hold.within, inv.size);
      taken = reads_then now mid new _ _ _ inv.taken hold.taken (omega (arith, inv.climbs, hold.climbs));
      faults = hold.cause.fails ∙ inv.faults;
      held = known_so (files_of now) path _ _ (λ bytes f some. subst (λ (k : ℕ). IsFrameAt k c.hold.new.self.end c.hold.new.self.held (frame_reading (drop k bytes))) (sym hold.start) f) frame;
      on_frames = known_so (files_of now) path _ _ (λ bytes walked blocks p is begins had some. subst (λ (k : ℕ). IsFrameStart blocks k) (sym hold.start) (walk_seam blocks at c.loop-at.skip p c.args.into.now.items c.loop-at.into.items (walked blocks p is begins))) inv.walked;
      behind = λ had some. omega (arith, hold.start, hold.after);
      ahead = known_so (files_of now) path _ _
          (λ bytes t blocks p q is marks. ahead bytes blocks at c.loop-at.skip p c.hold.new.self.end q c.args.ends c.args.into.now.items c.loop-at.into.items c.hold.new.self.held is (t.1 blocks p is marks.begins_at) t.0 marks.ends_at c.loop-at-test.true)
          (known_both (files_of now) path _ _ frame inv.walked);
      walked = known_so (files_of now) path _ _
          (λ bytes t blocks p is begins.
          subst (λ (xs : List ℕ). Walk blocks c.hold.new.self.end 0 p c.args.into.now.items xs)
          (ap (λ (ys : List ℕ). c.loop-at.into.items ++ drop c.loop-at.skip (take (length ys) ys)) (sym c.as_slice-held.ensures) ∙ sym c.in_ok-append.ensures.ok)
          (walk_step bytes blocks at c.loop-at.skip p c.hold.new.self.end c.args.into.now.items c.loop-at.into.items c.hold.new.self.held is (t.1 blocks p is begins) t.0 (rw (← c.as_slice-held.ensures) c.in_ok-append.ensures.from)))
          (known_both (files_of now) path _ _ frame inv.walked);
      paid = paid_more now mid new path c.args.begins c.args.ends c.loop-at.self c.hold.new.self at c.loop-at.skip c.args.self.now.end _ c.args.into.now.items c.loop-at.into.items inv.taken
          (λ rest. touched_inside c.args.begins c.args.ends at rest inv.rises c.loop-at-test.true) hold.unread hold.past hold.most inv.walked inv.paid hold.stands;
    }

pub returns-in_err-hold-clause-most : goal.returns-in_err-hold-clause-most
returns-in_err-hold-clause-most g c =
    let now = g.F.Shelf.state c.args.shelf.now in
    let mid = g.F.Shelf.state c.loop-at.shelf in
    let new = g.F.Shelf.state c.hold.new.shelf in
    let path = c.args.path.now in
    let at = c.loop-at.at in
    let hold = c.in_err-hold.ensures in
    let inv = c.loop-at.invariant in
    paid_at_most now mid new path c.args.begins c.args.ends c.loop-at.self c.hold.new.self at c.loop-at.skip c.args.self.now.end _ c.args.into.now.items c.loop-at.into.items inv.taken
    (λ rest. touched_inside c.args.begins c.args.ends at rest inv.rises c.loop-at-test.true) hold.unread hold.past hold.most inv.walked inv.paid (known_so (files_of now) path _ _ (λ bytes long. long ∙ sym inv.size) c.requires.size)

pub returns-in_err-hold-clause-reads : goal.returns-in_err-hold-clause-reads
returns-in_err-hold-clause-reads g c =
    let inv = c.loop-at.invariant in
    reads_then _ _ _ _ _ _ inv.taken c.in_err-hold.ensures.reads (omega (arith, inv.climbs, inv.within, inv.size))

pub returns-in_err-append-clause-most : goal.returns-in_err-append-clause-most
returns-in_err-append-clause-most g c =
    let now = g.F.Shelf.state c.args.shelf.now in
    let mid = g.F.Shelf.state c.loop-at.shelf in
    let new = g.F.Shelf.state c.hold.new.shelf in
    let path = c.args.path.now in
    let at = c.loop-at.at in
    let hold = c.in_ok-hold.ensures in
    let inv = c.loop-at.invariant in
    pays_most now mid new path c.args.begins c.args.ends c.loop-at.self c.hold.new.self at c.loop-at.skip c.args.self.now.end _ c.args.into.now.items c.loop-at.into.items inv.taken
    (λ rest. touched_inside c.args.begins c.args.ends at rest inv.rises c.loop-at-test.true) hold.unread hold.past hold.most inv.walked inv.paid hold.stands

pub returns-in_err-append-clause-reads : goal.returns-in_err-append-clause-reads
returns-in_err-append-clause-reads g c =
    let inv = c.loop-at.invariant in
    let hold = c.in_ok-hold.ensures in
    reads_then _ _ _ _ _ _ inv.taken hold.taken (omega (arith, inv.climbs, inv.within, inv.size, hold.climbs, hold.within))

pub returns-then-at-ends-clause-most : goal.returns-then-at-ends-clause-most
returns-then-at-ends-clause-most g c = known_so (files_of (g.F.Shelf.state c.args.shelf.now)) c.args.path.now _ _ (λ bytes paid blocks p rest is at. let h = paid blocks p rest is at in omega (arith, h)) c.loop-at.invariant.paid

-- the end, without a last frame
pub returns-else-ends-gt0-clause-shows : goal.returns-else-ends-gt0-clause-shows
returns-else-ends-gt0-clause-shows g c =
    known_so (files_of (g.F.Shelf.state c.args.shelf.now)) c.args.path.now _ _
    (λ bytes walked blocks p q is begins ends. walk_end bytes blocks c.loop-at.at c.loop-at.skip p q c.args.ends _ _ is (walked blocks p is begins) ends (omega arith) (omega arith)) c.loop-at.invariant.walked

pub returns-else-ends-gt0-clause-pays : goal.returns-else-ends-gt0-clause-pays
returns-else-ends-gt0-clause-pays g c =
    known_so (files_of (g.F.Shelf.state c.args.shelf.now)) c.args.path.now _ _
    (λ bytes paid blocks p rest is at. let h = paid blocks p rest is at in let less = touched_rest blocks c.loop-at.self.end 0 (record { begins = c.args.begins; ends = c.args.ends }) rest in omega (arith, h, less)) c.loop-at.invariant.paid

pub returns-else-ends-gt0-clause-most : goal.returns-else-ends-gt0-clause-most
returns-else-ends-gt0-clause-most g c = known_so (files_of (g.F.Shelf.state c.args.shelf.now)) c.args.path.now _ _ (λ bytes paid blocks p rest is at. let h = paid blocks p rest is at in omega (arith, h)) c.loop-at.invariant.paid

-- the last frame
pub returns-in_err-hold-2-clause-most : goal.returns-in_err-hold-2-clause-most
returns-in_err-hold-2-clause-most g c =
    let now = g.F.Shelf.state c.args.shelf.now in
    let mid = g.F.Shelf.state c.loop-at.shelf in
    let new = g.F.Shelf.state c.hold-then-ends-gt0.new.shelf in
    let path = c.args.path.now in
    let at = c.loop-at.at in
    let hold = c.in_err-hold-2.ensures in
    let inv = c.loop-at.invariant in
    paid_at_most now mid new path c.args.begins c.args.ends c.loop-at.self c.hold-then-ends-gt0.new.self at c.loop-at.skip c.args.self.now.end _ c.args.into.now.items c.loop-at.into.items inv.taken
    (λ rest. touched_last c.args.begins c.args.ends at rest inv.rises (omega arith) c.if-ends-gt0.true) hold.unread hold.past hold.most inv.walked inv.paid (known_so (files_of now) path _ _ (λ bytes long. long ∙ sym inv.size) c.requires.size)

pub returns-in_err-hold-2-clause-reads : goal.returns-in_err-hold-2-clause-reads
returns-in_err-hold-2-clause-reads g c =
    let inv = c.loop-at.invariant in
    reads_then _ _ _ _ _ _ inv.taken c.in_err-hold-2.ensures.reads (omega (arith, inv.climbs, inv.within, inv.size))

pub returns-in_err-append-2-clause-most : goal.returns-in_err-append-2-clause-most
returns-in_err-append-2-clause-most g c =
    let now = g.F.Shelf.state c.args.shelf.now in
    let mid = g.F.Shelf.state c.loop-at.shelf in
    let new = g.F.Shelf.state c.hold-then-ends-gt0.new.shelf in
    let path = c.args.path.now in
    let at = c.loop-at.at in
    let hold = c.in_ok-hold-2.ensures in
    let inv = c.loop-at.invariant in
    pays_most now mid new path c.args.begins c.args.ends c.loop-at.self c.hold-then-ends-gt0.new.self at c.loop-at.skip c.args.self.now.end _ c.args.into.now.items c.loop-at.into.items inv.taken
    (λ rest. touched_last c.args.begins c.args.ends at rest inv.rises (omega arith) c.if-ends-gt0.true) hold.unread hold.past hold.most inv.walked inv.paid hold.stands

pub returns-in_err-append-2-clause-reads : goal.returns-in_err-append-2-clause-reads
returns-in_err-append-2-clause-reads g c =
    let inv = c.loop-at.invariant in
    let hold = c.in_ok-hold-2.ensures in
    reads_then _ _ _ _ _ _ inv.taken hold.taken (omega (arith, inv.climbs, inv.within, inv.size, hold.climbs, hold.within))

pub returns-in_ok-append-2-clause-most : goal.returns-in_ok-append-2-clause-most
returns-in_ok-append-2-clause-most g c =
    let now = g.F.Shelf.state c.args.shelf.now in
    let mid = g.F.Shelf.state c.loop-at.shelf in
    let new = g.F.Shelf.state c.hold-then-ends-gt0.new.shelf in
    let path = c.args.path.now in
    let at = c.loop-at.at in
    let hold = c.in_ok-hold-2.ensures in
    let inv = c.loop-at.invariant in
    pays_most now mid new path c.args.begins c.args.ends c.loop-at.self c.hold-then-ends-gt0.new.self at c.loop-at.skip c.args.self.now.end _ c.args.into.now.items c.loop-at.into.items inv.taken
    (λ rest. touched_last c.args.begins c.args.ends at rest inv.rises (omega arith) c.if-ends-gt0.true) hold.unread hold.past hold.most inv.walked inv.paid hold.stands

pub returns-in_ok-append-2-clause-pays : goal.returns-in_ok-append-2-clause-pays
returns-in_ok-append-2-clause-pays g c =
    let now = g.F.Shelf.state c.args.shelf.now in
    let mid = g.F.Shelf.state c.loop-at.shelf in
    let new = g.F.Shelf.state c.hold-then-ends-gt0.new.shelf in
    let path = c.args.path.now in
    let at = c.loop-at.at in
    let hold = c.in_ok-hold-2.ensures in
    let inv = c.loop-at.invariant in
    pays_ok now mid new path c.args.begins c.args.ends c.loop-at.self c.hold-then-ends-gt0.new.self at c.loop-at.skip c.args.self.now.end _ c.args.into.now.items c.loop-at.into.items inv.taken
    (λ rest. touched_last c.args.begins c.args.ends at rest inv.rises (omega arith) c.if-ends-gt0.true) hold.unread hold.past hold.most inv.walked inv.paid hold.stands

pub returns-in_ok-append-2-clause-reads : goal.returns-in_ok-append-2-clause-reads
returns-in_ok-append-2-clause-reads g c =
    let inv = c.loop-at.invariant in
    let hold = c.in_ok-hold-2.ensures in
    reads_then _ _ _ _ _ _ inv.taken hold.taken (omega (arith, inv.climbs, inv.within, inv.size, hold.climbs, hold.within))

pub returns-in_ok-append-2-clause-shows : goal.returns-in_ok-append-2-clause-shows
returns-in_ok-append-2-clause-shows g c =
    let now = g.F.Shelf.state c.args.shelf.now in
    let mid = g.F.Shelf.state c.loop-at.shelf in
    let path = c.args.path.now in
    let at = c.loop-at.at in
    let hold = c.in_ok-hold-2.ensures in
    let inv = c.loop-at.invariant in
    let frame : KnownBytes (files_of now) path (λ bytes. IsFrameAt at c.hold-then-ends-gt0.new.self.end c.hold-then-ends-gt0.new.self.held (frame_reading (drop at bytes))) = known_before now mid path _ _ inv.taken hold.stands in
    known_so (files_of now) path _ _
    (λ bytes t blocks p q is begins ends.
    c.in_ok-append-2.ensures.ok ∙ ap (λ (ys : List ℕ). c.loop-at.into.items ++ drop c.loop-at.skip (take c.args.ends.inner ys)) c.as_slice.ensures
    ∙ walk_last bytes blocks at c.loop-at.skip p q c.hold-then-ends-gt0.new.self.end c.args.ends c.args.into.now.items c.loop-at.into.items c.hold-then-ends-gt0.new.self.held is (t.1 blocks p is begins) ends (omega arith) t.0
    (rw (← c.as_slice.ensures) c.in_ok-append-2.ensures.order))
    (known_both (files_of now) path _ _ frame inv.walked)

-- ---- no fault between good marks

pub returns-in_err-hold-clause-good : goal.returns-in_err-hold-clause-good
returns-in_err-hold-clause-good g c =
    let now = g.F.Shelf.state c.args.shelf.now in
    let mid = g.F.Shelf.state c.loop-at.shelf in
    let path = c.args.path.now in
    let at = c.loop-at.at in
    let inv = c.loop-at.invariant in
    let hold = c.in_err-hold.ensures in
    let why = c.in_err-hold.field-0.0 in
    let p = err_from_is_err_and c.from_residual.result c.from_residual.ensures.1 in
    let fails : KnownBytes (files_of now) path (λ bytes. HoldFails c.loop-at.self at (frame_reading (drop at bytes)) (Err why)) = known_before now mid path _ _ inv.taken hold.fails in
    rw (p.1, p.2) (known_so (files_of now) path _ _
    (λ bytes t blocks p q is marks seam behind.
    hold_inside bytes blocks at c.loop-at.skip p q c.args.ends c.args.into.now.items c.loop-at.into.items c.loop-at.self (Err why) is (t.0.0.0.1 blocks p is marks.begins_at) marks.ends_at c.loop-at-test.true (t.1 ∙ sym inv.size)
    t.0.0.1 (t.0.1 blocks p is marks.begins_at seam) (inv.behind behind) t.0.0.0.0)
    (known_both (files_of now) path _ _ (known_both (files_of now) path _ _ (known_both (files_of now) path _ _ (known_both (files_of now) path _ _ fails inv.walked) inv.held) inv.on_frames) c.requires.size))

pub returns-in_err-append-clause-good : goal.returns-in_err-append-clause-good
returns-in_err-append-clause-good g c =
    let now = g.F.Shelf.state c.args.shelf.now in
    let mid = g.F.Shelf.state c.loop-at.shelf in
    let path = c.args.path.now in
    let at = c.loop-at.at in
    let inv = c.loop-at.invariant in
    let hold = c.in_ok-hold.ensures in
    let why = c.in_err-append.field-0.0 in
    let p = err_from_is_err_and c.from_residual-in_err-append.result c.from_residual-in_err-append.ensures.1 in
    let frame : KnownBytes (files_of now) path (λ bytes. IsFrameAt at c.hold.new.self.end c.hold.new.self.held (frame_reading (drop at bytes))) = known_before now mid path _ _ inv.taken hold.stands in
    rw (p.1, p.2) (known_so (files_of now) path _ _
    (λ bytes t blocks p q is marks seam behind.
    append_inside bytes blocks at c.loop-at.skip p c.hold.new.self.end c.args.into.now.items c.loop-at.into.items c.hold.new.self.held (Err why) is (t.1 blocks p is marks.begins_at) t.0
    (subst (λ (xs : List ℕ). AppendFails c.loop-at.skip (length xs) (length xs) (Err why)) c.as_slice-held.ensures c.in_err-append.ensures.fails))
    (known_both (files_of now) path _ _ frame inv.walked))

pub returns-then-at-ends-clause-good : goal.returns-then-at-ends-clause-good
returns-then-at-ends-clause-good g c =
    known_so (files_of (g.F.Shelf.state c.args.shelf.now)) c.args.path.now _ _
    (λ bytes near blocks p q is marks seam behind. let h = near blocks p q is marks in absurd (omega (arith, h))) c.loop-at.invariant.ahead

pub returns-in_err-hold-2-clause-good : goal.returns-in_err-hold-2-clause-good
returns-in_err-hold-2-clause-good g c =
    let now = g.F.Shelf.state c.args.shelf.now in
    let mid = g.F.Shelf.state c.loop-at.shelf in
    let path = c.args.path.now in
    let at = c.loop-at.at in
    let inv = c.loop-at.invariant in
    let hold = c.in_err-hold-2.ensures in
    let why = c.in_err-hold-2.field-0.0 in
    let p = err_from_is_err_and c.from_residual-in_err-hold-2.result c.from_residual-in_err-hold-2.ensures.1 in
    let fails : KnownBytes (files_of now) path (λ bytes. HoldFails c.loop-at.self at (frame_reading (drop at bytes)) (Err why)) = known_before now mid path _ _ inv.taken hold.fails in
    rw (p.1, p.2) (known_so (files_of now) path _ _
    (λ bytes t blocks p q is marks seam behind.
    hold_last bytes blocks at q c.args.ends c.loop-at.self (Err why) is marks.ends_at (omega arith) c.if-ends-gt0.true (t.1 ∙ sym inv.size)
    t.0.0.1 (t.0.1 blocks p is marks.begins_at seam) (inv.behind behind) t.0.0.0.0)
    (known_both (files_of now) path _ _ (known_both (files_of now) path _ _ (known_both (files_of now) path _ _ (known_both (files_of now) path _ _ fails inv.walked) inv.held) inv.on_frames) c.requires.size))

pub returns-in_err-append-2-clause-good : goal.returns-in_err-append-2-clause-good
returns-in_err-append-2-clause-good g c =
    let now = g.F.Shelf.state c.args.shelf.now in
    let mid = g.F.Shelf.state c.loop-at.shelf in
    let path = c.args.path.now in
    let at = c.loop-at.at in
    let inv = c.loop-at.invariant in
    let hold = c.in_ok-hold-2.ensures in
    let why = c.in_err-append-2.field-0.0 in
    let p = err_from_is_err_and c.from_residual-in_err-append-2.result c.from_residual-in_err-append-2.ensures.1 in
    let frame : KnownBytes (files_of now) path (λ bytes. IsFrameAt at c.hold-then-ends-gt0.new.self.end c.hold-then-ends-gt0.new.self.held (frame_reading (drop at bytes))) = known_before now mid path _ _ inv.taken hold.stands in
    rw (p.1, p.2) (known_so (files_of now) path _ _
    (λ bytes t blocks p q is marks seam behind.
    append_last bytes blocks at c.loop-at.skip p c.hold-then-ends-gt0.new.self.end q c.args.ends c.args.into.now.items c.loop-at.into.items c.hold-then-ends-gt0.new.self.held (Err why) is (t.1 blocks p is marks.begins_at) marks.ends_at (omega arith) marks.positions t.0
    (subst (λ (xs : List ℕ). AppendFails c.loop-at.skip c.args.ends.inner (length xs) (Err why)) c.as_slice.ensures c.in_err-append-2.ensures.fails))
    (known_both (files_of now) path _ _ frame inv.walked))

pub returns-in_ok-append-2-clause-on_frames : goal.returns-in_ok-append-2-clause-on_frames
returns-in_ok-append-2-clause-on_frames g c =
    let now = g.F.Shelf.state c.args.shelf.now in
    let at = c.loop-at.at in
    let hold = c.in_ok-hold-2.ensures in
    let inv = c.loop-at.invariant in
    known_so (files_of now) c.args.path.now _ _ (λ bytes walked blocks p is begins had some. subst (λ (k : ℕ). IsFrameStart blocks k) (sym hold.start) (walk_seam blocks at c.loop-at.skip p c.args.into.now.items c.loop-at.into.items (walked blocks p is begins))) inv.walked
