-- Between good marks no fault of the file is met.
use Rattle.std.proofs.Common.{inl, inr, ◌≡◌, ℕ, ◌+◌, ◌<◌, ◌≤◌, List, [], ◌∷◌, ◌++◌, length, drop, refl, ap, sym, ◌∙◌, arith, subst, append-nil, length-append}
use Rattle.std.specs.Prelude.{Result, Ok, Err, All}
use Rattle.std.proofs.lemmas.List.{length-drop}
use Rattle.std.proofs.lemmas.Grind.{flat_map-append}
use Rattle.std.proofs.lemmas.Bool.{cases_lt}
use Rattle.mt_defs.specs.declared.mark.Mark.{Mark}
use Rattle.mt_defs.specs.Frames.{Block, IsBlock, IsFileOf, block_bytes, file_of, payload_of}
use Rattle.mt_frame.specs.declared.fault.FrameWhy.{FrameWhy}
use Rattle.mt_frame.specs.FrameReading.{frame_reading}
use Rattle.mt_shelf_frame.specs.Taking.{IsFrameAt}
use Rattle.mt_frame.proofs.BlockLemmas.{frame_len as block_len}
use Rattle.mt_stream.specs.declared.stream.FrameStream.{FrameStream}
use Rattle.mt_stream.specs.declared.error.StreamError.{StreamError}
use Rattle.mt_stream.specs.declared.error.StreamError.TheVariants as error
use Rattle.mt_stream.specs.Touched.{MarksBlocks, IsFrameStart, AreInOrder}
use Rattle.mt_stream.specs.Held.{HoldsItsFrame, HoldsOneOf, IsBehind, HoldFails, AppendFails, IsOutside}
use Rattle.mt_stream.proofs.MarkLemmas.{first_len, mark_split, split_on}
use Rattle.mt_stream.proofs.WalkLemmas.{Walk, Front, found, front_there, rest_bytes, next_seam, same_front}

-- some frame is left
pub record Starts (rest : List Block) : Type 0 where
  pub block : Block
  pub after : List Block
  pub is : rest ≡ block ∷ after

-- before a later seam some frame is left
some_left : (a r b s : List Block) → a ++ r ≡ b ++ s → length (file_of a) < length (file_of b) → Starts r
some_left a [] b s e less =
    let whole : length (file_of a) ≡ length (file_of b ++ file_of s) = ap (λ (cs : List Block). length (file_of cs)) (sym (append-nil a) ∙ e) ∙ ap (λ (bs : List ℕ). length bs) (flat_map-append block_bytes b s) in
    absurd (omega (arith, less, whole, length-append (file_of b) (file_of s)))
some_left a (c ∷ r) b s e less = record { block = c; after = r; is = refl }

-- a mark inside a payload is a frame's
some_here : (rest : List Block) (inner : ℕ) → inner ≤ first_len rest → 0 < inner → Starts rest
some_here [] inner within some = absurd (omega arith)
some_here (c ∷ rest) inner within some = record { block = c; after = rest; is = refl }

pub walk_seam : (blocks : List Block) (at skip p : ℕ) (old new : List ℕ) → Walk blocks at skip p old new → IsFrameStart blocks at
walk_seam blocks at skip p old new w = record { before = w.before; rest = w.rest; split = w.split; at_offset = w.here }

-- the end of a frame before a mark isn't after it
pub ahead : (bytes : List ℕ) (blocks : List Block) (at skip p end q : ℕ) (m : Mark) (old new held : List ℕ) → IsFileOf blocks bytes → Walk blocks at skip p old new → IsFrameAt at end held (frame_reading (drop at bytes))
    → MarksBlocks blocks m q → at < m.offset → end ≤ m.offset
ahead bytes blocks at skip p end q m old new held is w f marks less =
    let k = mark_split blocks m q marks in
    let g = found bytes blocks w.before w.rest at end held is w.split w.here f in
    let split : w.before ++ g.block ∷ g.after ≡ k.before ++ k.rest = sym (split_on w.before (g.block ∷ g.after) w.split g.rest_is) ∙ k.split in
    let next = next_seam k.before w.before k.rest g.after g.block split (omega (arith, less, w.here, k.offset)) in
    omega (arith, next, g.ends, w.here, k.offset)

-- between good marks the way doesn't pass the last
abbrev pub IsAhead : Mark → Mark → List ℕ → ℕ → Type 0
IsAhead begins ends bytes at = (blocks : List Block) (p q : ℕ) → IsFileOf blocks bytes → AreInOrder blocks begins ends p q → at ≤ ends.offset

-- ---- holding the frame at a seam

no_fault : {Z : Type 0} (r : Front) (first : Block × List ℕ) (why : FrameWhy) → r ≡ Ok first → r ≡ Err why → Z
no_fault r first why e f = cc

-- the frame held doesn't reach beyond a later seam
not_under : {Z : Type 0} (bytes : List ℕ) (blocks before' : List Block) (c : Block) (after : List Block) (at : ℕ) (s : FrameStream) → IsFileOf blocks bytes → blocks ≡ before' ++ c ∷ after → at ≡ length (file_of before')
    → HoldsItsFrame s bytes → HoldsOneOf s blocks → IsBehind s at → at < s.end → (at ≡ s.start → ⊥) → Z
not_under bytes blocks before' c after at s is split here holds seam' behind under differs =
    let some : 0 < s.end = omega (arith, under) in
    let seam = seam' some in
    let low = behind some in
    elim (cases_lt s.start at) [
      | inl less ↦
          let g = found bytes blocks seam.before seam.rest s.start s.end s.held is seam.split seam.at_offset (holds some) in
          let both : seam.before ++ g.block ∷ g.after ≡ before' ++ c ∷ after = sym (split_on seam.before (g.block ∷ g.after) seam.split g.rest_is) ∙ split in
          let next = next_seam before' seam.before (c ∷ after) g.after g.block both (omega (arith, less, seam.at_offset, here)) in
          absurd (omega (arith, next, g.ends, seam.at_offset, here, under))
      | inr over ↦ absurd (differs (omega (arith, over, low)))
    ]

-- a seam before a frame is inside the file
inside : (bytes : List ℕ) (blocks before' : List Block) (c : Block) (after : List Block) (at : ℕ) → IsFileOf blocks bytes → blocks ≡ before' ++ c ∷ after → at ≡ length (file_of before') → at < length bytes
inside bytes blocks before' c after at is split here =
    let there = front_there bytes blocks before' c after at is split here in
    let long : length (drop at bytes) ≡ length (block_bytes c) + length (file_of after) = ap (λ (bs : List ℕ). length bs) (rest_bytes bytes blocks before' (c ∷ after) at is split here) ∙ length-append (block_bytes c) (file_of after) in
    omega (arith, long, length-drop at bytes, block_len c there.1)

pub hold_good : (bytes : List ℕ) (blocks before' : List Block) (c : Block) (after : List Block) (at : ℕ) (s : FrameStream) (result : Result (Unit {0}) StreamError) → IsFileOf blocks bytes → blocks ≡ before' ++ c ∷ after
    → at ≡ length (file_of before') → length bytes ≡ s.size → HoldsItsFrame s bytes → HoldsOneOf s blocks → IsBehind s at → HoldFails s at (frame_reading (drop at bytes)) result → IsOutside result
hold_good bytes blocks before' c after at s (Ok x) is split here size holds seam behind fails = tt
hold_good bytes blocks before' c after at s (Err (error.At offset why)) is split here size holds seam behind fails =
    no_fault (frame_reading (drop at bytes)) (c, file_of after) why (front_there bytes blocks before' c after at is split here).0 fails.1
hold_good bytes blocks before' c after at s (Err error.Shelf) is split here size holds seam behind fails = tt
hold_good bytes blocks before' c after at s (Err error.Place) is split here size holds seam behind (inl under) = not_under bytes blocks before' c after at s is split here holds seam behind under.0 under.1
hold_good bytes blocks before' c after at s (Err error.Place) is split here size holds seam behind (inr over) = let less = inside bytes blocks before' c after at is split here in absurd (omega (arith, less, size, over))
hold_good bytes blocks before' c after at s (Err error.NoMemory) is split here size holds seam behind fails = tt

append_good : (from to len : ℕ) (result : Result (Unit {0}) StreamError) → from ≤ to → to ≤ len → AppendFails from to len result → IsOutside result
append_good from to len (Ok x) order within fails = tt
append_good from to len (Err (error.At offset why)) order within fails = elim fails [ ]
append_good from to len (Err error.Shelf) order within fails = elim fails [ ]
append_good from to len (Err error.Place) order within (inl less) = absurd (omega (arith, less, order))
append_good from to len (Err error.Place) order within (inr less) = absurd (omega (arith, less, within))
append_good from to len (Err error.NoMemory) order within fails = tt

-- ---- the frames between two marks

-- a frame between the marks
pub hold_inside : (bytes : List ℕ) (blocks : List Block) (at skip p q : ℕ) (m : Mark) (old new : List ℕ) (s : FrameStream) (result : Result (Unit {0}) StreamError) → IsFileOf blocks bytes → Walk blocks at skip p old new
    → MarksBlocks blocks m q → at < m.offset → length bytes ≡ s.size → HoldsItsFrame s bytes → HoldsOneOf s blocks → IsBehind s at → HoldFails s at (frame_reading (drop at bytes)) result → IsOutside result
hold_inside bytes blocks at skip p q m old new s result is w marks less size holds seam behind fails =
    let k = mark_split blocks m q marks in
    let left = some_left w.before w.rest k.before k.rest (sym w.split ∙ k.split) (omega (arith, less, w.here, k.offset)) in
    hold_good bytes blocks w.before left.block left.after at s result is (split_on w.before (left.block ∷ left.after) w.split left.is) w.here size holds seam behind fails

pub append_inside : (bytes : List ℕ) (blocks : List Block) (at skip p end : ℕ) (old new held : List ℕ) (result : Result (Unit {0}) StreamError) → IsFileOf blocks bytes → Walk blocks at skip p old new
    → IsFrameAt at end held (frame_reading (drop at bytes)) → AppendFails skip (length held) (length held) result → IsOutside result
append_inside bytes blocks at skip p end old new held result is w f fails =
    let g = found bytes blocks w.before w.rest at end held is w.split w.here f in
    let first : first_len w.rest ≡ length held = ap (λ (cs : List Block). first_len cs) g.rest_is ∙ ap (λ (xs : List ℕ). length xs) (sym g.payload) in
    append_good skip (length held) (length held) result (omega (arith, w.within, first)) (omega arith) fails

-- the frame in which the last mark lies
pub hold_last : (bytes : List ℕ) (blocks : List Block) (at q : ℕ) (m : Mark) (s : FrameStream) (result : Result (Unit {0}) StreamError) → IsFileOf blocks bytes
    → MarksBlocks blocks m q → at ≡ m.offset → 0 < m.inner → length bytes ≡ s.size → HoldsItsFrame s bytes → HoldsOneOf s blocks → IsBehind s at → HoldFails s at (frame_reading (drop at bytes)) result → IsOutside result
hold_last bytes blocks at q m s result is marks there some size holds seam behind fails =
    let k = mark_split blocks m q marks in
    let left = some_here k.rest m.inner k.within some in
    hold_good bytes blocks k.before left.block left.after at s result is (split_on k.before (left.block ∷ left.after) k.split left.is) (there ∙ k.offset) size holds seam behind fails

pub append_last : (bytes : List ℕ) (blocks : List Block) (at skip p end q : ℕ) (m : Mark) (old new held : List ℕ) (result : Result (Unit {0}) StreamError) → IsFileOf blocks bytes → Walk blocks at skip p old new
    → MarksBlocks blocks m q → at ≡ m.offset → p ≤ q → IsFrameAt at end held (frame_reading (drop at bytes)) → AppendFails skip m.inner (length held) result → IsOutside result
append_last bytes blocks at skip p end q m old new held result is w marks there order f fails =
    let k = mark_split blocks m q marks in
    let g = found bytes blocks k.before k.rest at end held is k.split (there ∙ k.offset) f in
    let first : first_len k.rest ≡ length held = ap (λ (cs : List Block). first_len cs) g.rest_is ∙ ap (λ (xs : List ℕ). length xs) (sym g.payload) in
    let same : k.before ≡ w.before = same_front k.before w.before k.rest w.rest (subst (λ (cs : List Block). All IsBlock cs) k.split is.each) (sym k.split ∙ w.split) (sym k.offset ∙ sym there ∙ w.here) in
    let front : length (payload_of k.before) ≡ length (payload_of w.before) = ap (λ (cs : List Block). length (payload_of cs)) same in
    append_good skip m.inner (length held) result (omega (arith, w.skip_is, k.position, order, front)) (omega (arith, k.within, first)) fails
