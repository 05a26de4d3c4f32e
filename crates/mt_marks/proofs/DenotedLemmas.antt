-- The position that is found of a mark is the one that it denotes.
use Rattle.std.proofs.Common.{◌≡◌, ℕ, ◌+◌, ◌≤◌, ◌≢◌, List, [], ◌∷◌, ◌++◌, length, refl, ap, sym, ◌∙◌, subst, append_assoc, append-nil, arith, Bool, true, false, ◌&&◌, Option, Some, None, length-append}
use Rattle.std.specs.Prelude.{nat_le, ◌==◌, All, if◌then◌else◌, ◌↔◌}
use Rattle.std.proofs.Common.{◌⊎◌, inl, inr}
use Rattle.std.proofs.lemmas.Bool.{leb-true, eqb-true, le-leb, eq-eqb, ne_eqb, and_from, and_parts}
use Rattle.std.proofs.lemmas.List.Elements.{All-head, All-tail, All-nil, All-cons}
use Rattle.std.proofs.lemmas.List.Concat.{flat_map-append}
use Rattle.mt_defs.specs.declared.frame.Frame.{Frame}
use Rattle.mt_defs.specs.declared.mark.Mark.{Mark}
use Rattle.mt_defs.specs.Frames.{Block, IsBlock, IsFileOf, block_bytes, file_of, payload_of}
use Rattle.mt_frame.specs.FrameReading.{layout_from, layout}
use Rattle.mt_defs.specs.Marks.{MarksPosition, MarksFrame, MarksEnd}
use Rattle.mt_marks.specs.Positions.{position_from, position_of}
use Rattle.mt_frame.specs.declared.frames.Frames.{Frames}
use Rattle.mt_frame.specs.Results.{AreFramesOf}
use Rattle.mt_frame.proofs.LawLemmas.{one_file}
use Rattle.mt_frame.proofs.BlockLemmas.{frame_len}

-- ---- one step of the search

abbrev step : ℕ → ℕ → Frame → Mark → Option ℕ → Option ℕ
step before end f m more = if m.offset == f.offset then (if nat_le m.inner f.payload then Some (before + m.inner) else None) else more

next : (before end offset : ℕ) (c : Block) (cs : List Block) (m : Mark) →
    position_from before end (layout_from offset (c ∷ cs)) m
    ≡ step before end (record { offset = offset; payload = length c.payload }) m (position_from (before + length c.payload) end (layout_from (offset + (25 + length c.payload)) cs) m)
unfolding position_from layout_from
next before end offset c cs m = refl

last : (before end offset : ℕ) (m : Mark) → position_from before end (layout_from offset []) m ≡ (if (m.offset == end) && (m.inner == 0) then Some before else None)
unfolding position_from layout_from
last before end offset m = refl

-- where the blocks before are these, the search goes on at their end
pub record Reaches (blocks before cs : List Block) (offset position : ℕ) : Type 0 where
  pub split : blocks ≡ before ++ cs
  pub offset_is : offset ≡ length (file_of before)
  pub position_is : position ≡ length (payload_of before)

file_push : (before : List Block) (c : Block) → length (file_of (before ++ c ∷ [])) ≡ length (file_of before) + length (block_bytes c)
file_push before c = ap (λ (bs : List ℕ). length bs) (flat_map-append block_bytes before (c ∷ []) ∙ ap (λ (bs : List ℕ). file_of before ++ bs) (append-nil (block_bytes c))) ∙ length-append (file_of before) (block_bytes c)

payload_push : (before : List Block) (c : Block) → length (payload_of (before ++ c ∷ [])) ≡ length (payload_of before) + length c.payload
payload_push before c = ap (λ (bs : List ℕ). length bs) (flat_map-append (λ (c : Block). c.payload) before (c ∷ []) ∙ ap (λ (bs : List ℕ). payload_of before ++ bs) (append-nil c.payload)) ∙ length-append (payload_of before) c.payload

reaches_on : (blocks before : List Block) (c : Block) (cs : List Block) (offset position : ℕ) → IsBlock c → Reaches blocks before (c ∷ cs) offset position
    → Reaches blocks (before ++ c ∷ []) cs (offset + (25 + length c.payload)) (position + length c.payload)
reaches_on blocks before c cs offset position is had = record {
  split = had.split ∙ sym (append_assoc before (c ∷ []) cs);
  offset_is = omega (arith, had.offset_is, file_push before c, frame_len c is);
  position_is = omega (arith, had.position_is, payload_push before c);
}

-- ---- what is found is denoted

pub found : (blocks before cs : List Block) (offset position : ℕ) (m : Mark) (n : ℕ) → All IsBlock cs → Reaches blocks before cs offset position
    → position_from position (length (file_of blocks)) (layout_from offset cs) m ≡ Some n → MarksFrame blocks m n ⊎ MarksEnd blocks m n
found blocks before [] offset position m n are had e =
    at_end ((m.offset == length (file_of blocks)) && (m.inner == 0)) refl (sym (last position (length (file_of blocks)) offset m) ∙ e)
  where
    all : blocks ≡ before
    all = had.split ∙ append-nil before

    at_end : (b : Bool) → ((m.offset == length (file_of blocks)) && (m.inner == 0)) ≡ b → (if b then Some position else None) ≡ Some n → MarksFrame blocks m n ⊎ MarksEnd blocks m n
    at_end false is e = cc
    at_end true is e =
        let p = and_parts _ _ is in
        let same : n ≡ position = cc in
        inr (record { at_offset = eqb-true _ _ p.0; at_start = eqb-true _ _ p.1; at_position = same ∙ had.position_is ∙ ap (λ (cs : List Block). length (payload_of cs)) (sym all) })
found blocks before (c ∷ cs) offset position m n are had e =
    let is = All-head IsBlock c cs are in
    here_or (m.offset == offset) refl (nat_le m.inner (length c.payload)) refl (sym (next position (length (file_of blocks)) offset c cs m) ∙ e)
    (λ more. found blocks (before ++ c ∷ []) cs (offset + (25 + length c.payload)) (position + length c.payload) m n (All-tail IsBlock c cs are) (reaches_on blocks before c cs offset position is had) more)
  where
    here_or : (a : Bool) → (m.offset == offset) ≡ a → (b : Bool) → nat_le m.inner (length c.payload) ≡ b
        → (if a then (if b then Some (position + m.inner) else None) else position_from (position + length c.payload) (length (file_of blocks)) (layout_from (offset + (25 + length c.payload)) cs) m) ≡ Some n
        → (position_from (position + length c.payload) (length (file_of blocks)) (layout_from (offset + (25 + length c.payload)) cs) m ≡ Some n → MarksFrame blocks m n ⊎ MarksEnd blocks m n)
        → MarksFrame blocks m n ⊎ MarksEnd blocks m n
    here_or false ea b eb e go = go e
    here_or true ea false eb e go = cc
    here_or true ea true eb e go =
        let same : n ≡ position + m.inner = cc in
        inl (record { before = before; here = c; after = cs; split = had.split; at_offset = eqb-true _ _ ea ∙ had.offset_is; within = leb-true _ _ eb; at_position = same ∙ ap (λ (k : ℕ). k + m.inner) had.position_is })

-- ---- what is denoted is found

passes_by : (before end offset : ℕ) (c : Block) (cs : List Block) (m : Mark) → m.offset ≢ offset
    → position_from before end (layout_from offset (c ∷ cs)) m ≡ position_from (before + length c.payload) end (layout_from (offset + (25 + length c.payload)) cs) m
passes_by before end offset c cs m other =
    next before end offset c cs m ∙ ap (λ (b : Bool). if b then (if nat_le m.inner (length c.payload) then Some (before + m.inner) else None) else position_from (before + length c.payload) end (layout_from (offset + (25 + length c.payload)) cs) m) (ne_eqb m.offset offset other)

pub found_here : (first : List Block) (here : Block) (after : List Block) (position end offset : ℕ) (m : Mark) → All IsBlock first → m.offset ≡ offset + length (file_of first) → m.inner ≤ length here.payload
    → position_from position end (layout_from offset (first ++ here ∷ after)) m ≡ Some (position + length (payload_of first) + m.inner)
found_here [] here after position end offset m are at within =
    next position end offset here after m
    ∙ ap (λ (b : Bool). if b then (if nat_le m.inner (length here.payload) then Some (position + m.inner) else None) else position_from (position + length here.payload) end (layout_from (offset + (25 + length here.payload)) after) m) (eq-eqb m.offset offset (omega arith))
    ∙ ap (λ (b : Bool). if b then Some (position + m.inner) else None) (le-leb m.inner (length here.payload) within)
    ∙ ap (λ (k : ℕ). Some k) (omega arith)
found_here (c ∷ first) here after position end offset m are at within =
    let is = All-head IsBlock c first are in
    let long : length (file_of (c ∷ first)) ≡ length (block_bytes c) + length (file_of first) = length-append (block_bytes c) (file_of first) in
    let paid : length (payload_of (c ∷ first)) ≡ length c.payload + length (payload_of first) = length-append c.payload (payload_of first) in
    let size = frame_len c is in
    let later : m.offset ≡ (offset + (25 + length c.payload)) + length (file_of first) = omega arith in
    passes_by position end offset c (first ++ here ∷ after) m (λ same. omega arith)
    ∙ found_here first here after (position + length c.payload) end (offset + (25 + length c.payload)) m (All-tail IsBlock c first are) later within
    ∙ ap (λ (k : ℕ). Some k) (omega arith)

pub found_end : (blocks : List Block) (position offset : ℕ) (m : Mark) → All IsBlock blocks → m.offset ≡ offset + length (file_of blocks) → m.inner ≡ 0
    → position_from position (offset + length (file_of blocks)) (layout_from offset blocks) m ≡ Some (position + length (payload_of blocks))
found_end [] position offset m are at none =
    last position (offset + 0) offset m
    ∙ ap (λ (b : Bool). if b then Some position else None) (and_from _ _ (eq-eqb m.offset (offset + 0) at) (eq-eqb m.inner 0 none)) ∙ ap (λ (k : ℕ). Some k) (omega arith)
found_end (c ∷ cs) position offset m are at none =
    let is = All-head IsBlock c cs are in
    let long : length (file_of (c ∷ cs)) ≡ length (block_bytes c) + length (file_of cs) = length-append (block_bytes c) (file_of cs) in
    let paid : length (payload_of (c ∷ cs)) ≡ length c.payload + length (payload_of cs) = length-append c.payload (payload_of cs) in
    let size = frame_len c is in
    let same_end : offset + length (file_of (c ∷ cs)) ≡ (offset + (25 + length c.payload)) + length (file_of cs) = omega arith in
    passes_by position (offset + length (file_of (c ∷ cs))) offset c cs m (λ same. omega arith)
    ∙ ap (λ (e : ℕ). position_from (position + length c.payload) e (layout_from (offset + (25 + length c.payload)) cs) m) same_end
    ∙ found_end cs (position + length c.payload) (offset + (25 + length c.payload)) m (All-tail IsBlock c cs are) (omega arith) none
    ∙ ap (λ (k : ℕ). Some k) (omega arith)

-- ---- together

pub position_sound : (file : List ℕ) (blocks : List Block) (m : Mark) (n : ℕ) → IsFileOf blocks file → position_from 0 (length file) (layout blocks) m ≡ Some n → MarksPosition file m n
position_sound file blocks m n is e =
    (blocks, is, found blocks [] blocks 0 0 m n is.each (record { split = refl; offset_is = refl; position_is = refl }) (ap (λ (bs : List ℕ). position_from 0 (length bs) (layout blocks) m) (sym is.bytes) ∙ e))

all_front : (xs ys : List Block) → All IsBlock (xs ++ ys) → All IsBlock xs
all_front [] ys are = All-nil IsBlock
all_front (x ∷ xs) ys are = All-cons IsBlock x xs (All-head IsBlock x (xs ++ ys) are) (all_front xs ys (All-tail IsBlock x (xs ++ ys) are))

denoted : (blocks : List Block) (m : Mark) (n : ℕ) → All IsBlock blocks → MarksFrame blocks m n ⊎ MarksEnd blocks m n → position_from 0 (length (file_of blocks)) (layout blocks) m ≡ Some n
denoted blocks m n are (inl h) =
    ap (λ (cs : List Block). position_from 0 (length (file_of blocks)) (layout cs) m) h.split
    ∙ found_here h.before h.here h.after 0 (length (file_of blocks)) 0 m (all_front h.before (h.here ∷ h.after) (subst (λ (cs : List Block). All IsBlock cs) h.split are)) (omega (arith, h.at_offset)) h.within ∙ ap (λ (k : ℕ). Some k) (omega (arith, h.at_position))
denoted blocks m n are (inr h) =
    ap (λ (e : ℕ). position_from 0 e (layout blocks) m) (omega arith)
    ∙ found_end blocks 0 0 m are (omega (arith, h.at_offset)) h.at_start ∙ ap (λ (k : ℕ). Some k) (omega (arith, h.at_position))

pub position_complete : (file : List ℕ) (blocks : List Block) (m : Mark) (n : ℕ) → IsFileOf blocks file → MarksPosition file m n → position_from 0 (length file) (layout blocks) m ≡ Some n
position_complete file blocks m n is (others, is_others, at) =
    let same : others ≡ blocks = one_file file others blocks is_others is in
    ap (λ (bs : List ℕ). position_from 0 (length bs) (layout blocks) m) is.bytes
    ∙ denoted blocks m n is.each (subst (λ (cs : List Block). MarksFrame cs m n ⊎ MarksEnd cs m n) same at)

-- the position that is found in the frames of a file is the one that the mark denotes there
pub position_denotes : (frames : Frames) (m : Mark) (r : Option ℕ) → r ≡ position_of frames m → (file : List ℕ) → AreFramesOf frames file → (position : ℕ) → (r ≡ Some position) ↔ (MarksPosition file m position)
position_denotes frames m r is file (blocks, of_file, list, end) position =
    let same : position_of frames m ≡ position_from 0 (length file) (layout blocks) m =
    ap (λ (n : ℕ). position_from 0 n frames.list m) end ∙ ap (λ (fs : List Frame). position_from 0 (length file) fs m) list in (
      (λ e. position_sound file blocks m position of_file (sym same ∙ sym is ∙ e)),
      (λ at. is ∙ same ∙ position_complete file blocks m position of_file at),
    )

some_same : (m n : ℕ) → (let o : Option ℕ = Some m in o) ≡ Some n → m ≡ n
some_same m n e = cc

pub one_position : (file : List ℕ) (m : Mark) (p q : ℕ) → MarksPosition file m p → MarksPosition file m q → p ≡ q
one_position file m p q (blocks, is, at) other =
    some_same p q (sym (position_complete file blocks m p is (blocks, is, at)) ∙ position_complete file blocks m q is other)
