-- The payload of a file, frame by frame.
use Rattle.std.proofs.Common.{◌≡◌, ℕ, zero, suc, ◌+◌, ◌<◌, ◌≤◌, List, [], ◌∷◌, ◌++◌, length, take, drop, refl, ap, sym, subst, ◌∙◌, get_or, arith}
use Rattle.std.specs.Prelude.{Ok}
use Rattle.std.proofs.lemmas.List.{append-nil, take_more, take_all, length-take-le, length-drop, get_or_default}
use Rattle.std.proofs.lemmas.List.Concat.{flat_map-append, flat_map-cons}
use Rattle.std.proofs.lemmas.List.Elements.{All-get_or}
use Rattle.mt_facts.proofs.Lists.{drop_next}
use Rattle.mt_defs.specs.declared.frame.Frame.{Frame}
use Rattle.mt_defs.specs.Frames.{Block, IsBlock, IsFileOf, block_bytes, file_of, payload_of}
use Rattle.mt_frame.specs.FrameReading.{frames_reading, layout, layout_from, u32_at}
use Rattle.mt_frame.proofs.BlockLemmas.{frame_complete, frames_complete, header_facts}
use Rattle.mt_files.proofs.LoopLemmas.{drop_drop}

-- a frame at the front is cut off by its payload's length
pub record IsCut (bytes : List ℕ) (block : Block) (rest : List ℕ) : Type 0 where
  pub header : 25 ≤ length bytes
  pub long : length block.payload ≤ length (drop 25 bytes)
  pub payload : take (length block.payload) (drop 25 bytes) ≡ block.payload
  pub rest_is : drop (length block.payload) (drop 25 bytes) ≡ rest

pub block_cut : (block : Block) (rest : List ℕ) → IsBlock block → IsCut (block_bytes block ++ rest) block rest
block_cut block rest is =
    let bytes = block_bytes block ++ rest in
    let h = header_facts bytes block rest (frame_complete block rest is) in
    let n = u32_at 21 bytes in
    let piece : block.payload ≡ take n (drop 25 bytes) = ap (λ (b : Block). b.payload) h.block in
    let room : n ≤ length (drop 25 bytes) = omega (arith, h.whole, length-drop 25 bytes) in
    let size : length block.payload ≡ n = ap length piece ∙ length-take-le n (drop 25 bytes) room in
    record {
      header = h.long;
      long = omega (arith, size, room);
      payload = ap (λ k. take k (drop 25 bytes)) size ∙ sym piece;
      rest_is = ap (λ k. drop k (drop 25 bytes)) size ∙ drop_drop 25 n bytes ∙ sym h.rest_is;
    }

layout_at : (offset : ℕ) (blocks : List Block) (i : ℕ) (d : Frame) (e : Block) → i < length blocks → (get_or (layout_from offset blocks) i d).payload ≡ length (get_or blocks i e).payload
unfolding layout_from
layout_at offset [] i d e inside = absurd (omega (arith, inside))
layout_at offset (block ∷ blocks) zero d e inside = refl
layout_at offset (block ∷ blocks) (suc i) d e inside = layout_at (offset + (25 + length block.payload)) blocks i d e (omega (arith, inside))

length-layout : (offset : ℕ) (blocks : List Block) → length (layout_from offset blocks) ≡ length blocks
unfolding layout_from
length-layout offset [] = refl
length-layout offset (block ∷ blocks) = ap suc (length-layout (offset + (25 + length block.payload)) blocks)

-- ---- the loop

-- a frame of the file, where the rest of it begins
pub record IsNext (blocks : List Block) (i : ℕ) (rest : List ℕ) (payload : ℕ) : Type 0 where
  pub block : Block
  pub there : block ≡ get_or blocks i block
  pub inside : i < length blocks
  pub size : payload ≡ length block.payload
  pub cut : IsCut rest block (file_of (drop (i + 1) blocks))

abbrev pub HasLeft : List ℕ → List Frame → ℕ → List ℕ → List ℕ → Type 0
HasLeft file frames i payload rest = (blocks : List Block) → IsFileOf blocks file → frames ≡ layout blocks → (payload ≡ payload_of (take i blocks)) × (rest ≡ file_of (drop i blocks))

pub next_frame : (file : List ℕ) (frames items : List Frame) (blocks : List Block) (i : ℕ) (rest : List ℕ) (d : Frame) → IsFileOf blocks file → frames ≡ layout blocks → items ≡ frames → rest ≡ file_of (drop i blocks) → i < length items
    → IsNext blocks i rest (get_or items i d).payload
next_frame file frames items blocks i rest d is laid same left inside =
    let within : i < length blocks = omega (arith, inside, ap length (same ∙ laid), length-layout 0 blocks) in
    let block = get_or blocks i (record { checksum = []; payload = [] }) in
    let is_block : IsBlock block = All-get_or IsBlock blocks i (record { checksum = []; payload = [] }) within is.each in
    let self : block ≡ get_or blocks i block = get_or_default blocks i (record { checksum = []; payload = [] }) block within in
    record {
      block = block;
      there = self;
      inside = within;
      size = ap (λ (fs : List Frame). (get_or fs i d).payload) (same ∙ laid) ∙ layout_at 0 blocks i d (record { checksum = []; payload = [] }) within;
      cut = subst (λ (bytes : List ℕ). IsCut bytes block (file_of (drop (i + 1) blocks))) (sym (left ∙ ap file_of (drop_next blocks i block within self) ∙ flat_map-cons block_bytes block (drop (i + 1) blocks))) (block_cut block (file_of (drop (i + 1) blocks)) is_block);
    }

pub payload_more : (blocks : List Block) (i : ℕ) (rest : List ℕ) (n : ℕ) (payload new piece : List ℕ) → IsNext blocks i rest n → payload ≡ payload_of (take i blocks) → piece ≡ take n (drop 25 rest) → new ≡ payload ++ piece → new ≡ payload_of (take (i + 1) blocks)
payload_more blocks i rest n payload new piece next ahead piece_is pushed =
    let block = next.block in
    pushed ∙ ap (λ (p : List ℕ). p ++ piece) ahead ∙ ap (λ (p : List ℕ). payload_of (take i blocks) ++ p) (piece_is ∙ ap (λ k. take k (drop 25 rest)) next.size ∙ next.cut.payload)
    ∙ ap (λ (p : List ℕ). payload_of (take i blocks) ++ p) (sym (one block))
    ∙ sym (flat_map-append (λ (b : Block). b.payload) (take i blocks) (block ∷ []))
    ∙ ap payload_of (ap (λ (b : Block). take i blocks ++ b ∷ []) next.there ∙ sym (take_more blocks i block next.inside))
  where
    one : (block : Block) → payload_of (block ∷ []) ≡ block.payload
    one block = flat_map-cons (λ (b : Block). b.payload) block [] ∙ append-nil block.payload

pub payload_whole : (blocks : List Block) (frames items : List Frame) (i : ℕ) (payload : List ℕ) → frames ≡ layout blocks → items ≡ frames → length items ≤ i → payload ≡ payload_of (take i blocks) → payload ≡ payload_of blocks
payload_whole blocks frames items i payload laid same over ahead = ahead ∙ ap payload_of (take_all i blocks (omega (arith, over, ap length (same ∙ laid), length-layout 0 blocks)))

-- what is read of a file of frames
pub read_of_file : (file : List ℕ) (blocks : List Block) → IsFileOf blocks file → frames_reading file ≡ Ok blocks
read_of_file file blocks is = subst (λ (bytes : List ℕ). frames_reading bytes ≡ Ok blocks) (sym is.bytes) (frames_complete (length (file_of blocks)) 0 blocks is.each (omega arith))
