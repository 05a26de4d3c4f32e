-- What the holding of one frame does to what is known of the file.
use Rattle.std.proofs.Common.{◌≡◌, ℕ, ◌+◌, ◌<◌, ◌≤◌, true, List, ◌∷◌, length, drop, ap, sym, subst, arith}
use Rattle.std.specs.List.{list_any}
use Rattle.mt_shelf.specs.Causes.{grown_count}
use Rattle.mt_shelf.specs.State.{State, files_of, ReadsUpTo}
use Rattle.mt_defs.specs.declared.mark.Mark.{Mark}
use Rattle.mt_frame.specs.FrameReading.{frame_reading}
use Rattle.mt_shelf_frame.specs.Taking.{IsFrameAt, KnownBytes, frame_len}
use Rattle.mt_shelf_frame.proofs.TakingLemmas.{known_so, known_both, reads_on}
use Rattle.mt_stream.specs.declared.stream.FrameStream.{FrameStream}
use Rattle.mt_defs.specs.Frames.{Block, IsFileOf}
use Rattle.mt_stream.specs.Touched.{MarkRange, touches, touched_bytes, MarksBlocks}
use Rattle.mt_stream.specs.Held.{IsUnread}
use Rattle.mt_stream.proofs.TouchedLemmas.{touched_rest}
use Rattle.mt_stream.proofs.WalkLemmas.{Walked, Paid, held_pays, hold_within, known_before}

-- nothing was read
pub reads_none : (state : State) (n : ℕ) → ReadsUpTo n state state
reads_none state n = (0, omega arith, ap (λ (k : ℕ). record state { taken = k }) (grown_none state.taken))
  where
    grown_none : (count : ℕ) → count ≡ grown_count count 0
    grown_none count = grind arith

-- two readings, one after another
pub reads_then : (old mid new : State) (a b n : ℕ) → ReadsUpTo a old mid → ReadsUpTo b mid new → a + b ≤ n → ReadsUpTo n old new
reads_then old mid new a b n (k, le, is) more within =
    let r = reads_on old mid new k b is more in (r.0, omega (arith, r.1, le, within), r.2)

-- the frame at an offset is held, after some reading
module _ (old mid new : State) (path : List ℕ) (begins ends : Mark) (before now : FrameStream) (at skip from n : ℕ) (shown into : List ℕ)
    (read : ReadsUpTo n old mid)
    (touched : (rest : List MarkRange) → list_any (touches at) (record { begins = begins; ends = ends } ∷ rest) ≡ true)
    (unread : at < before.end → IsUnread before now mid new)
    (past : before.size ≤ at → IsUnread before now mid new)
    (most : KnownBytes (files_of mid) path (λ bytes. ReadsUpTo (frame_len (frame_reading (drop at bytes))) mid new))
    (walked : KnownBytes (files_of old) path (λ bytes. Walked begins bytes at skip shown into))
    (paid : KnownBytes (files_of old) path (λ bytes. Paid begins ends bytes from before.end old mid)) where
  took : KnownBytes (files_of old) path (λ bytes. ReadsUpTo (frame_len (frame_reading (drop at bytes))) mid new)
  took = known_before old mid path _ n read most

  pub paid_more : KnownBytes (files_of mid) path (λ bytes. IsFrameAt at now.end now.held (frame_reading (drop at bytes))) → KnownBytes (files_of old) path (λ bytes. Paid begins ends bytes from now.end old new)
  paid_more stands =
      known_so (files_of old) path _ _
      (λ bytes t blocks p rest is begins_at.
      let had = t.1 blocks p rest is begins_at in
      let step = held_pays bytes blocks at skip p before.size now.end before.end shown into now.held mid new (record { begins = begins; ends = ends } ∷ rest) is (t.0.1 blocks p is begins_at) t.0.0.0
      (record { unread = λ under. (ap (λ (s : FrameStream). s.end) (unread under).same, (unread under).state); past = λ over. (past over).state; took = t.0.0.1 }) (touched rest) in
      omega (arith, had, step))
      (known_both (files_of old) path _ _ (known_both (files_of old) path _ _ (known_both (files_of old) path _ _ (known_before old mid path _ n read stands) took) walked) paid)

  -- what was taken was owed, whatever else is still to come
  pub pays_most : KnownBytes (files_of mid) path (λ bytes. IsFrameAt at now.end now.held (frame_reading (drop at bytes))) → KnownBytes (files_of old) path (λ bytes. (blocks : List Block) (p : ℕ) (rest : List MarkRange) → IsFileOf blocks bytes → MarksBlocks blocks begins p
      → new.taken ≤ old.taken + touched_bytes from 0 blocks (record { begins = begins; ends = ends } ∷ rest))
  pays_most stands = known_so (files_of old) path _ _ (λ bytes paid blocks p rest is begins_at. let h = paid blocks p rest is begins_at in omega (arith, h)) (paid_more stands)

  -- and so is what is owed from here on
  pub pays_ok : KnownBytes (files_of mid) path (λ bytes. IsFrameAt at now.end now.held (frame_reading (drop at bytes))) → KnownBytes (files_of old) path (λ bytes. (blocks : List Block) (p : ℕ) (rest : List MarkRange) → IsFileOf blocks bytes → MarksBlocks blocks begins p
      → new.taken + touched_bytes now.end 0 blocks rest ≤ old.taken + touched_bytes from 0 blocks (record { begins = begins; ends = ends } ∷ rest))
  pays_ok stands =
      known_so (files_of old) path _ _
      (λ bytes paid blocks p rest is begins_at.
      let h = paid blocks p rest is begins_at in
      let less = touched_rest blocks now.end 0 (record { begins = begins; ends = ends }) rest in omega (arith, h, less))
      (paid_more stands)

  -- also where the holding fails
  pub paid_at_most : KnownBytes (files_of old) path (λ bytes. length bytes ≡ before.size) → KnownBytes (files_of old) path (λ bytes. (blocks : List Block) (p : ℕ) (rest : List MarkRange) → IsFileOf blocks bytes → MarksBlocks blocks begins p
      → new.taken ≤ old.taken + touched_bytes from 0 blocks (record { begins = begins; ends = ends } ∷ rest))
  paid_at_most size =
      known_so (files_of old) path _ _
      (λ bytes t blocks p rest is begins_at.
      let had = t.1 blocks p rest is begins_at in
      let w = t.0.1 blocks p is begins_at in
      let step = hold_within bytes blocks w.before w.rest at before.size before.end now.end mid new (record { begins = begins; ends = ends } ∷ rest) is w.split w.here t.0.0.0
      (record { unread = λ under. (ap (λ (s : FrameStream). s.end) (unread under).same, (unread under).state); past = λ over. (past over).state; took = t.0.0.1 }) (touched rest) in
      omega (arith, had, step))
      (known_both (files_of old) path _ _ (known_both (files_of old) path _ _ (known_both (files_of old) path _ _ size took) walked) paid)

-- what is known of a file stays known while any files are read
pub known_after : (old new : State) (path : List ℕ) (P : List ℕ → Type 0) (n : ℕ) → ReadsUpTo n old new → KnownBytes (files_of old) path P → KnownBytes (files_of new) path P
known_after old new path P n (k, le, is) known = subst (λ (s : State). KnownBytes (files_of s) path P) (sym is) known
