-- The way through a file's frames from one mark to another.
use Rattle.std.proofs.Common.{inl, inr, ◌≡◌, ℕ, zero, suc, ◌+◌, ◌-◌, ◌<◌, ◌≤◌, true, List, [], ◌∷◌, ◌++◌, take, drop, length, refl, ap, sym, ◌∙◌, arith, subst, append_assoc, append-nil, length-append}
use Rattle.std.specs.Prelude.{Result, Ok, Err, All, max, min, ◌^◌}
use Rattle.std.specs.List.{list_any}
use Rattle.std.proofs.Math.Seq.{drop-append_seam, take-append-add, take_all}
use Rattle.std.proofs.lemmas.List.{drop_all, take-append-le}
use Rattle.std.proofs.lemmas.Grind.{flat_map-append}
use Rattle.std.proofs.lemmas.Bool.{cases_lt}
use Rattle.std.proofs.lemmas.List.Elements.{All-head, All-tail}
use Rattle.mt_shelf.specs.State.{State, files_of, ReadsUpTo}
use Rattle.mt_frame.specs.declared.fault.FrameWhy.{FrameWhy}
use Rattle.mt_frame.specs.declared.fault.FrameWhy.TheVariants as why
use Rattle.mt_defs.specs.declared.mark.Mark.{Mark}
use Rattle.mt_defs.specs.Frames.{Block, IsBlock, IsFileOf, block_bytes, file_of, payload_of}
use Rattle.mt_frame.specs.FrameReading.{frame_reading}
use Rattle.mt_stream.specs.Touched.{MarkRange, touches, touched_bytes, MarksBlocks}
use Rattle.mt_stream.proofs.MarkLemmas.{first_len, mark_split, split_on}
use Rattle.mt_types.proofs.StepLemmas.{ok_pair}
use Rattle.mt_frame.proofs.BlockLemmas.{frame_complete, frame_len as block_len}
use Rattle.mt_stream.proofs.TouchedLemmas.{touched_step}
use Rattle.mt_shelf_frame.specs.Taking.{IsFrameAt, KnownBytes, frame_len}

-- the reading has come to a seam of the frames, and shown what stands before it from a position on
pub record Walk (blocks : List Block) (at skip p : ℕ) (old new : List ℕ) : Type 0 where
  pub before : List Block
  pub rest : List Block
  pub split : blocks ≡ before ++ rest
  pub here : at ≡ length (file_of before)
  pub skip_is : skip ≡ p - length (payload_of before)
  pub within : skip ≤ first_len rest
  pub shown : new ≡ old ++ drop p (payload_of before)

-- the frame at a seam
pub record Found (bytes : List ℕ) (rest : List Block) (at end : ℕ) (held : List ℕ) : Type 0 where
  pub block : Block
  pub after : List Block
  pub rest_is : rest ≡ block ∷ after
  pub payload : held ≡ block.payload
  pub ends : end ≡ at + length (block_bytes block)
  pub some : 0 < length (block_bytes block)
  pub size : frame_len (frame_reading (drop at bytes)) ≡ length (block_bytes block)

abbrev pub Front : Type 0
Front = Result (Block × List ℕ) FrameWhy

all_behind : (before rest : List Block) → All IsBlock (before ++ rest) → All IsBlock rest
all_behind [] rest are = are
all_behind (c ∷ before) rest are = all_behind before rest (All-tail IsBlock c (before ++ rest) are)

pub rest_bytes : (bytes : List ℕ) (blocks before rest : List Block) (at : ℕ) → IsFileOf blocks bytes → blocks ≡ before ++ rest → at ≡ length (file_of before) → drop at bytes ≡ file_of rest
rest_bytes bytes blocks before rest at is split here =
    ap (λ (bs : List ℕ). drop at bs) (is.bytes ∙ ap (λ (cs : List Block). file_of cs) split ∙ flat_map-append block_bytes before rest) ∙ ap (λ (k : ℕ). drop k (file_of before ++ file_of rest)) here ∙ drop-append_seam (file_of before) (file_of rest)

none_there : frame_reading [] ≡ Err why.Cut
unfolding frame_reading
none_there = refl

pub front_there : (bytes : List ℕ) (blocks before : List Block) (c : Block) (after : List Block) (at : ℕ) → IsFileOf blocks bytes → blocks ≡ before ++ c ∷ after → at ≡ length (file_of before)
    → (frame_reading (drop at bytes) ≡ Ok (c, file_of after)) × IsBlock c
front_there bytes blocks before c after at is split here =
    let are = all_behind before (c ∷ after) (subst (λ (cs : List Block). All IsBlock cs) split is.each) in
    let one = All-head IsBlock c after are in
    (ap frame_reading (rest_bytes bytes blocks before (c ∷ after) at is split here) ∙ frame_complete c (file_of after) one, one)

pub found : (bytes : List ℕ) (blocks before rest : List Block) (at end : ℕ) (held : List ℕ) → IsFileOf blocks bytes → blocks ≡ before ++ rest → at ≡ length (file_of before) → IsFrameAt at end held (frame_reading (drop at bytes))
    → Found bytes rest at end held
found bytes blocks before [] at end held is split here f = no (frame_reading (drop at bytes)) (ap frame_reading (rest_bytes bytes blocks before [] at is split here) ∙ none_there) f
  where
    no : {Z : Type 0} (r : Front) → r ≡ Err why.Cut → IsFrameAt at end held r → Z
    no r e f = let g = f.stands in cc
found bytes blocks before (c ∷ after) at end held is split here f =
    let there = front_there bytes blocks before c after at is split here in
    let same : f.block ≡ c = (ok_pair _ _ _ _ (sym there.0 ∙ f.stands)).0 in
    let payload' : held ≡ c.payload = f.payload_is ∙ ap (λ (d : Block). d.payload) same in
    let len = block_len c there.1 in
    record {
      block = c;
      after = after;
      rest_is = refl;
      payload = payload';
      ends = omega (arith, len, f.ends, ap (λ (xs : List ℕ). length xs) payload');
      some = omega (arith, len);
      size = ap (λ (r : Front). frame_len r) there.0 ∙ sym len;
    }

drop_append : (n : ℕ) (xs ys : List ℕ) → drop n (xs ++ ys) ≡ drop n xs ++ drop (n - length xs) ys
drop_append zero xs ys = let e : 0 - length xs ≡ 0 = omega arith in rw e refl
drop_append (suc n) [] ys = let e : suc n - 0 ≡ suc n = omega arith in rw e refl
drop_append (suc n) (x ∷ xs) ys = let e : suc n - suc (length xs) ≡ n - length xs = omega arith in rw e (drop_append n xs ys)

pub walk_start : (blocks : List Block) (m : Mark) (p : ℕ) (old : List ℕ) → MarksBlocks blocks m p → Walk blocks m.offset m.inner p old old
walk_start blocks m p old marks =
    let is = mark_split blocks m p marks in
    let none : drop p (payload_of is.before) ≡ [] = drop_all p (payload_of is.before) (omega (arith, is.position)) in
    record { before = is.before; rest = is.rest; split = is.split; here = is.offset; skip_is = omega (arith, is.position); within = is.within; shown = sym (ap (λ (xs : List ℕ). old ++ xs) none ∙ append-nil old) }

one_more : (before : List Block) (c : Block) → payload_of (before ++ c ∷ []) ≡ payload_of before ++ c.payload
one_more before c = flat_map-append (λ d. d.payload) before (c ∷ []) ∙ ap (λ (xs : List ℕ). payload_of before ++ xs) (append-nil c.payload)

file_more : (before : List Block) (c : Block) → length (file_of (before ++ c ∷ [])) ≡ length (file_of before) + length (block_bytes c)
file_more before c = ap (λ (xs : List ℕ). length xs) (flat_map-append block_bytes before (c ∷ [])) ∙ length-append (file_of before) (block_bytes c ++ []) ∙ ap (λ (xs : List ℕ). length (file_of before) + length xs) (append-nil (block_bytes c))

pub walk_step : (bytes : List ℕ) (blocks : List Block) (at skip p end : ℕ) (old new held : List ℕ) → IsFileOf blocks bytes → Walk blocks at skip p old new → IsFrameAt at end held (frame_reading (drop at bytes)) → skip ≤ length held
    → Walk blocks end 0 p old (new ++ drop skip (take (length held) held))
walk_step bytes blocks at skip p end old new held is w f within =
    let g = found bytes blocks w.before w.rest at end held is w.split w.here f in
    let whole : take (length held) held ≡ held = take_all (length held) held (omega arith) in
    let more : payload_of (w.before ++ g.block ∷ []) ≡ payload_of w.before ++ held = one_more w.before g.block ∙ ap (λ (xs : List ℕ). payload_of w.before ++ xs) (sym g.payload) in
    let long : length (payload_of (w.before ++ g.block ∷ [])) ≡ length (payload_of w.before) + length held = ap (λ (xs : List ℕ). length xs) more ∙ length-append (payload_of w.before) held in
    record {
      before = w.before ++ g.block ∷ [];
      rest = g.after;
      split = split_on w.before (g.block ∷ g.after) w.split g.rest_is ∙ sym (append_assoc w.before (g.block ∷ []) g.after);
      here = omega (arith, g.ends, w.here, file_more w.before g.block);
      skip_is = omega (arith, w.skip_is, long);
      within = omega arith;
      shown =
          ap (λ (xs : List ℕ). xs ++ drop skip (take (length held) held)) w.shown ∙ append_assoc old (drop p (payload_of w.before)) (drop skip (take (length held) held))
          ∙ ap (λ (xs : List ℕ). old ++ xs) (ap (λ (xs : List ℕ). drop p (payload_of w.before) ++ drop skip xs) whole ∙ ap (λ (k : ℕ). drop p (payload_of w.before) ++ drop k held) w.skip_is
          ∙ sym (drop_append p (payload_of w.before) held) ∙ ap (λ (xs : List ℕ). drop p xs) (sym more));
    }

-- two seams at one offset are one
pub same_front : (a b r s : List Block) → All IsBlock (a ++ r) → a ++ r ≡ b ++ s → length (file_of a) ≡ length (file_of b) → a ≡ b
same_front [] [] r s are e len = refl
same_front [] (d ∷ b) r s are e len =
    let one = All-head IsBlock d (b ++ s) (subst (λ (cs : List Block). All IsBlock cs) e are) in
    absurd (omega (arith, block_len d one, len, length-append (block_bytes d) (file_of b)))
same_front (c ∷ a) [] r s are e len =
    let one = All-head IsBlock c (a ++ r) are in
    absurd (omega (arith, block_len c one, len, length-append (block_bytes c) (file_of a)))
same_front (c ∷ a) (d ∷ b) r s are e len =
    let first : c ≡ d = cc in
    let more : a ++ r ≡ b ++ s = cc in
    let lens : length (file_of a) ≡ length (file_of b) = omega (arith, len, length-append (block_bytes c) (file_of a), length-append (block_bytes d) (file_of b), ap (λ (x : Block). length (block_bytes x)) first) in
    let others = same_front a b r s (All-tail IsBlock c (a ++ r) are) more lens in
    cc

-- the payload up to a mark, by the frames before it
upto_mark : (blocks before rest : List Block) (m : Mark) (q : ℕ) → blocks ≡ before ++ rest → q ≡ length (payload_of before) + m.inner → take q (payload_of blocks) ≡ payload_of before ++ take m.inner (payload_of rest)
upto_mark blocks before rest m q split is =
    ap (λ (cs : List Block). take q (payload_of cs)) split ∙ ap (λ (xs : List ℕ). take q xs) (flat_map-append (λ d. d.payload) before rest)
    ∙ ap (λ (k : ℕ). take k (payload_of before ++ payload_of rest)) is ∙ take-append-add (payload_of before) (payload_of rest) m.inner

pub walk_last : (bytes : List ℕ) (blocks : List Block) (at skip p q end : ℕ) (m : Mark) (old new held : List ℕ) → IsFileOf blocks bytes → Walk blocks at skip p old new → MarksBlocks blocks m q → at ≡ m.offset
    → IsFrameAt at end held (frame_reading (drop at bytes)) → m.inner ≤ length held → new ++ drop skip (take m.inner held) ≡ old ++ drop p (take q (payload_of blocks))
walk_last bytes blocks at skip p q end m old new held is w marks there f within =
    let k = mark_split blocks m q marks in
    let g = found bytes blocks w.before w.rest at end held is w.split w.here f in
    let same : k.before ≡ w.before = same_front k.before w.before k.rest w.rest (subst (λ (cs : List Block). All IsBlock cs) k.split is.each) (sym k.split ∙ w.split) (sym k.offset ∙ sym there ∙ w.here) in
    let q_is : q ≡ length (payload_of w.before) + m.inner = k.position ∙ ap (λ (cs : List Block). length (payload_of cs) + m.inner) same in
    let here : take m.inner (payload_of w.rest) ≡ take m.inner held = ap (λ (cs : List Block). take m.inner (payload_of cs)) g.rest_is ∙ ap (λ (xs : List ℕ). take m.inner (xs ++ payload_of g.after)) (sym g.payload) ∙ take-append-le m.inner held (payload_of g.after) within in
    let all : take q (payload_of blocks) ≡ payload_of w.before ++ take m.inner held = upto_mark blocks w.before w.rest m q w.split q_is ∙ ap (λ (xs : List ℕ). payload_of w.before ++ xs) here in
    ap (λ (xs : List ℕ). xs ++ drop skip (take m.inner held)) w.shown ∙ append_assoc old (drop p (payload_of w.before)) (drop skip (take m.inner held))
    ∙ ap (λ (xs : List ℕ). old ++ xs) (ap (λ (i : ℕ). drop p (payload_of w.before) ++ drop i (take m.inner held)) w.skip_is ∙ sym (drop_append p (payload_of w.before) (take m.inner held)) ∙ ap (λ (xs : List ℕ). drop p xs) (sym all))

pub walk_end : (bytes : List ℕ) (blocks : List Block) (at skip p q : ℕ) (m : Mark) (old new : List ℕ) → IsFileOf blocks bytes → Walk blocks at skip p old new → MarksBlocks blocks m q → at ≡ m.offset → m.inner ≡ 0
    → new ≡ old ++ drop p (take q (payload_of blocks))
walk_end bytes blocks at skip p q m old new is w marks there none =
    let k = mark_split blocks m q marks in
    let same : k.before ≡ w.before = same_front k.before w.before k.rest w.rest (subst (λ (cs : List Block). All IsBlock cs) k.split is.each) (sym k.split ∙ w.split) (sym k.offset ∙ sym there ∙ w.here) in
    let q_is : q ≡ length (payload_of w.before) + m.inner = k.position ∙ ap (λ (cs : List Block). length (payload_of cs) + m.inner) same in
    let all : take q (payload_of blocks) ≡ payload_of w.before = upto_mark blocks w.before w.rest m q w.split q_is ∙ ap (λ (i : ℕ). payload_of w.before ++ take i (payload_of w.rest)) none ∙ append-nil (payload_of w.before) in
    w.shown ∙ ap (λ (xs : List ℕ). old ++ drop p xs) (sym all)

-- ---- what is taken

pub touched_inside : (m n : Mark) (at : ℕ) (rest : List MarkRange) → m.offset ≤ at → at < n.offset → list_any (touches at) (record { begins = m; ends = n } ∷ rest) ≡ true
touched_inside m n at rest low high = grind arith

pub touched_last : (m n : Mark) (at : ℕ) (rest : List MarkRange) → m.offset ≤ at → at ≡ n.offset → 0 < n.inner → list_any (touches at) (record { begins = m; ends = n } ∷ rest) ≡ true
touched_last m n at rest low here some = grind arith

pub taken_most : (n : ℕ) (old new : State) → ReadsUpTo n old new → new.taken ≤ old.taken + n
taken_most n old new (k, le, is) = let same : new.taken ≡ max old.taken (min (old.taken + k) (2 ^ 64 - 1)) = ap (λ (s : State). s.taken) is in omega (arith, same, le)

-- a frame that was read: what is owed falls by what was taken
pub paid_step : (bytes : List ℕ) (blocks : List Block) (at skip p end from : ℕ) (shown new held : List ℕ) (before now : State) (ranges : List MarkRange) → IsFileOf blocks bytes → Walk blocks at skip p shown new → from ≤ at
    → IsFrameAt at end held (frame_reading (drop at bytes)) → ReadsUpTo (frame_len (frame_reading (drop at bytes))) before now → list_any (touches at) ranges ≡ true
    → now.taken + touched_bytes end 0 blocks ranges ≤ before.taken + touched_bytes from 0 blocks ranges
paid_step bytes blocks at skip p end from shown new held before now ranges is w under f took touched =
    let g = found bytes blocks w.before w.rest at end held is w.split w.here f in
    let split : blocks ≡ w.before ++ g.block ∷ g.after = split_on w.before (g.block ∷ g.after) w.split g.rest_is in
    let step = touched_step w.before g.block g.after from 0 at ranges (omega (arith, w.here)) under g.some touched in
    let step' : length (block_bytes g.block) + touched_bytes (at + length (block_bytes g.block)) 0 blocks ranges ≤ touched_bytes from 0 blocks ranges =
    subst (λ (cs : List Block). length (block_bytes g.block) + touched_bytes (at + length (block_bytes g.block)) 0 cs ranges ≤ touched_bytes from 0 cs ranges) (sym split) step in
    let end' : touched_bytes end 0 blocks ranges ≡ touched_bytes (at + length (block_bytes g.block)) 0 blocks ranges = ap (λ (k : ℕ). touched_bytes k 0 blocks ranges) g.ends in
    let most = taken_most _ before now took in omega (arith, most, g.size, step', end')

abbrev pub Walked : Mark → List ℕ → ℕ → ℕ → List ℕ → List ℕ → Type 0
Walked begins bytes at skip old new = (blocks : List Block) (p : ℕ) → IsFileOf blocks bytes → MarksBlocks blocks begins p → Walk blocks at skip p old new

-- what was taken and is still owed was owed before
abbrev pub Paid : Mark → Mark → List ℕ → ℕ → ℕ → State → State → Type 0
Paid begins ends bytes before now old new =
    (blocks : List Block) (p : ℕ) (rest : List MarkRange) → IsFileOf blocks bytes → MarksBlocks blocks begins p
    → new.taken + touched_bytes now 0 blocks (record { begins = begins; ends = ends } ∷ rest) ≤ old.taken + touched_bytes before 0 blocks (record { begins = begins; ends = ends } ∷ rest)

-- the state after the holding of a frame, which was held before or is read
pub record Holding (bytes : List ℕ) (at size from end : ℕ) (before now : State) : Type 0 where
  pub unread : at < from → (end ≡ from) × (now ≡ before)
  pub past : size ≤ at → now ≡ before
  pub took : ReadsUpTo (frame_len (frame_reading (drop at bytes))) before now

pub held_pays : (bytes : List ℕ) (blocks : List Block) (at skip p size end from : ℕ) (shown new held : List ℕ) (before now : State) (ranges : List MarkRange) → IsFileOf blocks bytes → Walk blocks at skip p shown new
    → IsFrameAt at end held (frame_reading (drop at bytes)) → Holding bytes at size from end before now → list_any (touches at) ranges ≡ true
    → now.taken + touched_bytes end 0 blocks ranges ≤ before.taken + touched_bytes from 0 blocks ranges
held_pays bytes blocks at skip p size end from shown new held before now ranges is w f h touched =
    elim (cases_lt at from) [
      | inl under ↦ let u = h.unread under in let a : touched_bytes end 0 blocks ranges ≡ touched_bytes from 0 blocks ranges = ap (λ (k : ℕ). touched_bytes k 0 blocks ranges) u.0 in let b : now.taken ≡ before.taken = ap (λ (s : State). s.taken) u.1 in omega (arith, a, b)
      | inr over ↦ paid_step bytes blocks at skip p end from shown new held before now ranges is w over f h.took touched
    ]

-- also where the holding fails
pub hold_within : (bytes : List ℕ) (blocks before' rest : List Block) (at size from end : ℕ) (before now : State) (ranges : List MarkRange) → IsFileOf blocks bytes → blocks ≡ before' ++ rest → at ≡ length (file_of before') → length bytes ≡ size
    → Holding bytes at size from end before now → list_any (touches at) ranges ≡ true → now.taken ≤ before.taken + touched_bytes from 0 blocks ranges
hold_within bytes blocks front [] at size from end before now ranges is split here long h touched =
    let same : length bytes ≡ length (file_of front) = ap (λ (bs : List ℕ). length bs) (is.bytes ∙ ap (λ (cs : List Block). file_of cs) (split ∙ append-nil front)) in
    let b : now.taken ≡ before.taken = ap (λ (s : State). s.taken) (h.past (omega arith)) in omega (arith, b)
hold_within bytes blocks front (c ∷ after) at size from end before now ranges is split here long h touched =
    elim (cases_lt at from) [
      | inl under ↦ let b : now.taken ≡ before.taken = ap (λ (s : State). s.taken) (h.unread under).1 in omega (arith, b)
      | inr over ↦
          let there = front_there bytes blocks front c after at is split here in
          let len = block_len c there.1 in
          let size' : frame_len (frame_reading (drop at bytes)) ≡ length (block_bytes c) = ap (λ (r : Front). frame_len r) there.0 ∙ sym len in
          let step : length (block_bytes c) + touched_bytes (at + length (block_bytes c)) 0 blocks ranges ≤ touched_bytes from 0 blocks ranges =
          subst (λ (cs : List Block). length (block_bytes c) + touched_bytes (at + length (block_bytes c)) 0 cs ranges ≤ touched_bytes from 0 cs ranges) (sym split) (touched_step front c after from 0 at ranges (omega (arith, here)) over (omega (arith, len)) touched) in
          let most = taken_most _ before now h.took in omega (arith, most, size', step)
    ]

-- what is known after some reading was known before it
pub known_before : (old new : State) (path : List ℕ) (P : List ℕ → Type 0) (n : ℕ) → ReadsUpTo n old new → KnownBytes (files_of new) path P → KnownBytes (files_of old) path P
known_before old new path P n (k, le, is) known = subst (λ (s : State). KnownBytes (files_of s) path P) is known

-- of two seams the later is not before the end of the frame at the earlier
pub next_seam : (a b r s : List Block) (c : Block) → b ++ c ∷ s ≡ a ++ r → length (file_of b) < length (file_of a) → length (file_of b) + length (block_bytes c) ≤ length (file_of a)
next_seam [] b r s c e less = absurd (omega arith)
next_seam (d ∷ a) [] r s c e less = let first : c ≡ d = cc in omega (arith, length-append (block_bytes d) (file_of a), ap (λ (x : Block). length (block_bytes x)) first)
next_seam (d ∷ a) (g ∷ b) r s c e less =
    let first : g ≡ d = cc in
    let more : b ++ c ∷ s ≡ a ++ r = cc in
    let same = ap (λ (x : Block). length (block_bytes x)) first in
    let one = length-append (block_bytes d) (file_of a) in
    let two = length-append (block_bytes g) (file_of b) in
    let others = next_seam a b r s c more (omega (arith, less, one, two, same)) in
    omega (arith, others, one, two, same)
