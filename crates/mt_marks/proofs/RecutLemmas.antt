-- Wherever frames are cut, the payload and the positions of marks are the same.
use Rattle.std.proofs.Common.{◌≡◌, ℕ, ◌+◌, ◌-◌, ◌≤◌, List, [], ◌∷◌, ◌++◌, length, refl, ap, sym, ◌∙◌, subst, arith, Bool, true, false, length-append}
use Rattle.std.proofs.Common.{◌⊎◌, inl, inr}
use Rattle.std.specs.Prelude.{nat_le, ◌↔◌, Result, Ok}
use Rattle.std.proofs.lemmas.Bool.{leb-true, leb-false}
use Rattle.std.proofs.lemmas.List.Concat.{flat_map-append}
use Rattle.mt_defs.specs.declared.mark.Mark.{Mark}
use Rattle.mt_defs.specs.Frames.{Block, IsFileOf, IsFramed, block_bytes, file_of, payload_of}
use Rattle.mt_defs.specs.Marks.{MarksPosition, MarksFrame, MarksEnd}
use Rattle.mt_frame.specs.declared.fault.FrameWhy.{FrameWhy}
use Rattle.mt_frame.specs.FrameReading.{frames_reading}
use Rattle.mt_frame.proofs.BlockLemmas.{frames_complete}
use Rattle.mt_frame.proofs.LawLemmas.{one_file}
use Rattle.mt_types.proofs.StepLemmas.{then_of}
use Rattle.mt_marks.specs.Recut.{payload_reading, HasMark}

-- ---- each position has a mark

-- a mark among the frames after the first, as a mark of the whole
abbrev after_first : Block → Mark → Mark
after_first first mark = record { offset = length (block_bytes first) + mark.offset; inner = mark.inner }

longer_file : (first : Block) (blocks : List Block) → length (file_of (first ∷ blocks)) ≡ length (block_bytes first) + length (file_of blocks)
longer_file first blocks = length-append (block_bytes first) (file_of blocks)

longer_payload : (first : Block) (blocks : List Block) → length (payload_of (first ∷ blocks)) ≡ length first.payload + length (payload_of blocks)
longer_payload first blocks = length-append first.payload (payload_of blocks)

later_frame : (first : Block) (blocks : List Block) (mark : Mark) (n : ℕ) → MarksFrame blocks mark n → MarksFrame (first ∷ blocks) (after_first first mark) (length first.payload + n)
later_frame first blocks mark n at = record {
  before = first ∷ at.before;
  here = at.here;
  after = at.after;
  split = ap (λ (cs : List Block). first ∷ cs) at.split;
  at_offset = omega (arith, at.at_offset, longer_file first at.before);
  within = at.within;
  at_position = omega (arith, at.at_position, longer_payload first at.before);
}

later_end : (first : Block) (blocks : List Block) (mark : Mark) (n : ℕ) → MarksEnd blocks mark n → MarksEnd (first ∷ blocks) (after_first first mark) (length first.payload + n)
later_end first blocks mark n at = record {
  at_offset = omega (arith, at.at_offset, longer_file first blocks);
  at_start = at.at_start;
  at_position = omega (arith, at.at_position, longer_payload first blocks);
}

-- a mark that denotes the position in these frames
abbrev Denotes : List Block → ℕ → Type 0
Denotes blocks n = (mark : Mark) × (MarksFrame blocks mark n ⊎ MarksEnd blocks mark n)

later : (first : Block) (blocks : List Block) (n : ℕ) → Denotes blocks n → Denotes (first ∷ blocks) (length first.payload + n)
later first blocks n (mark, inl at) = (after_first first mark, inl (later_frame first blocks mark n at))
later first blocks n (mark, inr at) = (after_first first mark, inr (later_end first blocks mark n at))

each_denoted : (blocks : List Block) (n : ℕ) → n ≤ length (payload_of blocks) → Denotes blocks n
each_denoted [] n small = (record { offset = 0; inner = 0 }, inr (record { at_offset = refl; at_start = refl; at_position = omega (arith, small) }))
each_denoted (first ∷ blocks) n small =
    here_or (nat_le n (length first.payload)) refl (λ m few. each_denoted blocks m few)
  where
    here_or : (b : Bool) → nat_le n (length first.payload) ≡ b → ((m : ℕ) → m ≤ length (payload_of blocks) → Denotes blocks m) → Denotes (first ∷ blocks) n
    here_or true e go = (record { offset = 0; inner = n }, inl (record { before = []; here = first; after = blocks; split = refl; at_offset = refl; within = leb-true _ _ e; at_position = omega arith }))
    here_or false e go =
        let past = leb-false _ _ e in
        let paid = longer_payload first blocks in
        let rest = go (n - length first.payload) (omega (arith, past, paid, small)) in
        subst (λ (k : ℕ). Denotes (first ∷ blocks) k) (omega (arith, past)) (later first blocks (n - length first.payload) rest)

-- ---- no other position has one

denoted_within : (blocks : List Block) (mark : Mark) (n : ℕ) → MarksFrame blocks mark n ⊎ MarksEnd blocks mark n → n ≤ length (payload_of blocks)
denoted_within blocks mark n (inl at) =
    let whole : payload_of blocks ≡ payload_of at.before ++ (at.here.payload ++ payload_of at.after) = ap (λ (cs : List Block). payload_of cs) at.split ∙ flat_map-append (λ (c : Block). c.payload) at.before (at.here ∷ at.after) in
    omega (arith, at.at_position, at.within, ap (λ (bs : List ℕ). length bs) whole, length-append (payload_of at.before) (at.here.payload ++ payload_of at.after), length-append at.here.payload (payload_of at.after))
denoted_within blocks mark n (inr at) = omega (arith, at.at_position)

-- ---- together

pub payload_read : (payload file : List ℕ) → IsFramed payload file → payload_reading file ≡ Ok payload
payload_read payload file (blocks, is, paid) =
    let read : frames_reading file ≡ Ok blocks = subst (λ (bytes : List ℕ). frames_reading bytes ≡ Ok blocks) (sym is.bytes) (frames_complete (length (file_of blocks)) 0 blocks is.each (omega arith)) in
    then_of (frames_reading file) blocks (λ cs. Ok (payload_of cs)) read ∙ ap (λ (bytes : List ℕ). let r : Result (List ℕ) (ℕ × FrameWhy) = Ok bytes in r) (sym paid)

pub has_mark : (payload file : List ℕ) → IsFramed payload file → (position : ℕ) → position ≤ length payload → HasMark file position
has_mark payload file (blocks, is, paid) position small =
    let (mark, at) = each_denoted blocks position (omega (arith, small, ap (λ (bs : List ℕ). length bs) paid)) in
    (mark, (blocks, is, at))

pub marked_within : (payload file : List ℕ) → IsFramed payload file → (position : ℕ) → HasMark file position → position ≤ length payload
marked_within payload file (blocks, is, paid) position (mark, (others, is_others, at)) =
    let here = subst (λ (cs : List Block). MarksFrame cs mark position ⊎ MarksEnd cs mark position) (one_file file others blocks is_others is) at in
    omega (arith, denoted_within blocks mark position here, ap (λ (bs : List ℕ). length bs) paid)

pub positions : (payload file : List ℕ) → IsFramed payload file → (position : ℕ) → (position ≤ length payload) ↔ (HasMark file position)
positions payload file framed position = (has_mark payload file framed position, marked_within payload file framed position)

pub moved : (payload one other : List ℕ) → IsFramed payload one → IsFramed payload other → (mark : Mark) (position : ℕ) → MarksPosition one mark position → HasMark other position
moved payload one other framed also mark position at = has_mark payload other also position (marked_within payload one framed position (mark, at))
