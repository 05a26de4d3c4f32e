-- The marks of payloads that are framed one by one: each is at the start of its payload's frames, and the offsets never fall.
use Rattle.std.proofs.Common.{◌≡◌, ℕ, zero, suc, ◌+◌, ◌<◌, ◌≤◌, ◌^◌, List, [], ◌∷◌, ◌++◌, length, map, get_or, refl, ap, sym, ◌∙◌, subst, arith, append_assoc, inl, inr}
use Rattle.std.specs.Prelude.{All, sum, replicate}
use Rattle.std.specs.List.{flat_map, concat}
use Rattle.std.specs.List.Sorted.{IsNonDecreasingBy}
use Rattle.std.proofs.lemmas.List.{append-nil, length-append}
use Rattle.std.proofs.lemmas.List.Concat.{flat_map-append}
use Rattle.std.proofs.lemmas.List.Elements.{All-nil, All-append, All-head, All-tail}
use Rattle.std.proofs.lemmas.List.Sums.{sum_by-cons}
use Rattle.mt_defs.specs.declared.mark.Mark.{Mark}
use Rattle.mt_defs.specs.Frames.{Block, IsBlock, IsFileOf, IsFramed, block_bytes, file_of, payload_of}
use Rattle.mt_defs.specs.Lists.{AreBytes, Pointwise, offsets_from}
use Rattle.mt_defs.specs.Marks.{MarksPosition, IsMarksFile, granule_starts}
use Rattle.mt_defs.specs.WrittenFrames.{written_frames, written_marks, written_marks_bytes, mark_at}
use Rattle.mt_frame.proofs.WrittenLemmas.{blocks_within, file_is, payload_is, blocks_are}
use Rattle.mt_law_written.proofs.ListLemmas.{All-to_flat_map, Pointwise-firsts}

-- ---- the blocks of payloads, one after another

abbrev pub blocks_of : List ℕ → List Block
blocks_of payload = blocks_within (length payload) payload

abbrev pub all_blocks : List (List ℕ) → List Block
all_blocks = flat_map blocks_of

one_file : (payload : List ℕ) → file_of (blocks_of payload) ≡ written_frames payload
one_file payload = sym (file_is (length payload) payload)

one_payload : (payload : List ℕ) → payload_of (blocks_of payload) ≡ payload
one_payload payload = sym (payload_is (length payload) payload (omega arith))

pub files_of : (payloads : List (List ℕ)) → file_of (all_blocks payloads) ≡ concat (map written_frames payloads)
files_of [] = refl
files_of (payload ∷ payloads) =
    flat_map-append block_bytes (blocks_of payload) (all_blocks payloads)
    ∙ ap (λ bytes. bytes ++ file_of (all_blocks payloads)) (one_file payload) ∙ ap (λ rest. written_frames payload ++ rest) (files_of payloads)

payloads_of : (payloads : List (List ℕ)) → payload_of (all_blocks payloads) ≡ concat payloads
payloads_of [] = refl
payloads_of (payload ∷ payloads) =
    flat_map-append (λ (block : Block). block.payload) (blocks_of payload) (all_blocks payloads)
    ∙ ap (λ bytes. bytes ++ payload_of (all_blocks payloads)) (one_payload payload) ∙ ap (λ rest. payload ++ rest) (payloads_of payloads)

each_block : (payloads : List (List ℕ)) → All AreBytes payloads → All IsBlock (all_blocks payloads)
each_block [] are = All-nil IsBlock
each_block (payload ∷ payloads) are =
    All-append IsBlock (blocks_of payload) (all_blocks payloads) (blocks_are (length payload) payload (All-head AreBytes payload payloads are)) (each_block payloads (All-tail AreBytes payload payloads are))

pub file_is_blocks : (payloads : List (List ℕ)) → All AreBytes payloads → IsFileOf (all_blocks payloads) (concat (map written_frames payloads))
file_is_blocks payloads are = record { each = each_block payloads are; bytes = sym (files_of payloads) }

-- payloads that are framed one by one are frames of all of them
pub framed_one_by_one : (payloads : List (List ℕ)) → All AreBytes payloads → IsFramed (concat payloads) (concat (map written_frames payloads))
framed_one_by_one payloads are = (all_blocks payloads, file_is_blocks payloads are, sym (payloads_of payloads))

-- ---- positions

-- a mark at the end of some frames denotes the end of their payloads
mark_denotes : (offset position : ℕ) (before after : List Block) (file : List ℕ) → offset ≡ length (file_of before) → position ≡ length (payload_of before)
    → IsFileOf (before ++ after) file → MarksPosition file (mark_at offset) position
mark_denotes offset position before [] file at is_position is = (
  before ++ [],
  is,
  inr (record {
    at_offset = at ∙ ap (λ blocks. length (file_of blocks)) (sym (append-nil before));
    at_start = refl;
    at_position = is_position ∙ ap (λ blocks. length (payload_of blocks)) (sym (append-nil before));
  }),
)
mark_denotes offset position before (here ∷ after) file at is_position is = (
  before ++ here ∷ after,
  is,
  inl (record { before = before; here = here; after = after; split = refl; at_offset = at; within = omega arith; at_position = omega arith }),
)

-- the offset and the position after the frames of one more payload
offset_after : (offset : ℕ) (before : List Block) (payload : List ℕ) → offset ≡ length (file_of before) → offset + length (written_frames payload) ≡ length (file_of (before ++ blocks_of payload))
offset_after offset before payload at =
    ap (λ n. n + length (written_frames payload)) at ∙ ap (λ bytes. length (file_of before) + length bytes) (sym (one_file payload))
    ∙ sym (length-append (file_of before) (file_of (blocks_of payload))) ∙ ap length (sym (flat_map-append block_bytes before (blocks_of payload)))

position_after : (position : ℕ) (before : List Block) (payload : List ℕ) → position ≡ length (payload_of before) → position + length payload ≡ length (payload_of (before ++ blocks_of payload))
position_after position before payload at =
    ap (λ n. n + length payload) at ∙ ap (λ bytes. length (payload_of before) + length bytes) (sym (one_payload payload))
    ∙ sym (length-append (payload_of before) (payload_of (blocks_of payload))) ∙ ap length (sym (flat_map-append (λ (block : Block). block.payload) before (blocks_of payload)))

-- and after those of some more
sum_lengths : (runs : List (List ℕ)) → sum (map length runs) ≡ length (concat runs)
sum_lengths [] = refl
sum_lengths (run ∷ runs) = sum_by-cons (λ x. x) (length run) (map length runs) ∙ ap (λ n. length run + n) (sum_lengths runs) ∙ sym (length-append run (concat runs))

offset_after_all : (offset : ℕ) (before : List Block) (payloads : List (List ℕ)) → offset ≡ length (file_of before) → offset + sum (map length (map written_frames payloads)) ≡ length (file_of (before ++ all_blocks payloads))
offset_after_all offset before payloads at =
    ap (λ n. n + sum (map length (map written_frames payloads))) at ∙ ap (λ n. length (file_of before) + n) (sum_lengths (map written_frames payloads) ∙ ap length (sym (files_of payloads)))
    ∙ sym (length-append (file_of before) (file_of (all_blocks payloads))) ∙ ap length (sym (flat_map-append block_bytes before (all_blocks payloads)))

position_after_all : (position : ℕ) (before : List Block) (payloads : List (List ℕ)) → position ≡ length (payload_of before) → position + sum (map length payloads) ≡ length (payload_of (before ++ all_blocks payloads))
position_after_all position before payloads at =
    ap (λ n. n + sum (map length payloads)) at ∙ ap (λ n. length (payload_of before) + n) (sum_lengths payloads ∙ ap length (sym (payloads_of payloads)))
    ∙ sym (length-append (payload_of before) (payload_of (all_blocks payloads))) ∙ ap length (sym (flat_map-append (λ (block : Block). block.payload) before (all_blocks payloads)))

-- the marks of a granule's payloads
pub starts_denote : (offset position : ℕ) (before : List Block) (payloads : List (List ℕ)) (after : List Block) (file : List ℕ) → offset ≡ length (file_of before) → position ≡ length (payload_of before)
    → IsFileOf (before ++ (all_blocks payloads ++ after)) file
    → Pointwise (MarksPosition file) (map mark_at (offsets_from offset (map length (map written_frames payloads)))) (offsets_from position (map length payloads))
starts_denote offset position before [] after file at is_position is = tt
starts_denote offset position before (payload ∷ payloads) after file at is_position is =
    let regrouped : before ++ ((blocks_of payload ++ all_blocks payloads) ++ after) ≡ (before ++ blocks_of payload) ++ (all_blocks payloads ++ after) = simp append_assoc in (
      mark_denotes offset position before (all_blocks (payload ∷ payloads) ++ after) file at is_position is,
      starts_denote (offset + length (written_frames payload)) (position + length payload) (before ++ blocks_of payload) payloads after file (offset_after offset before payload at)
          (position_after position before payload is_position) (subst (λ blocks. IsFileOf blocks file) regrouped is),
    )

-- the payloads of all granules
abbrev pub joined : List (List (List ℕ)) → List (List ℕ)
joined = flat_map (λ payloads. payloads)

-- the marks of all granules, and those of the end
granules_denote : (per_granule offset position end last : ℕ) (before : List Block) (granules : List (List (List ℕ))) (file : List ℕ) → offset ≡ length (file_of before) → position ≡ length (payload_of before)
    → end ≡ offset + sum (map sum (map (map length) (map (map written_frames) granules))) → last ≡ position + sum (map sum (map (map length) granules))
    → IsFileOf (before ++ all_blocks (joined granules)) file
    → Pointwise (Pointwise (MarksPosition file)) (map (map mark_at) (granule_starts offset (map (map length) (map (map written_frames) granules)) ++ replicate per_granule end ∷ []))
    (granule_starts position (map (map length) granules) ++ replicate per_granule last ∷ [])
granules_denote per_granule offset position end last before [] file at is_position end_is last_is is =
    (ends_denote per_granule (omega (arith, end_is, at)) (omega (arith, last_is, is_position)), tt)
  where
    ends_denote : (n : ℕ) → end ≡ length (file_of before) → last ≡ length (payload_of before) → Pointwise (MarksPosition file) (map mark_at (replicate n end)) (replicate n last)
    ends_denote zero e l = tt
    ends_denote (suc n) e l = (mark_denotes end last before [] file e l is, ends_denote n e l)
granules_denote per_granule offset position end last before (payloads ∷ granules) file at is_position end_is last_is is =
    let sizes = map length (map written_frames payloads) in
    let frames = map (map length) (map (map written_frames) granules) in
    let spread : all_blocks (payloads ++ joined granules) ≡ all_blocks payloads ++ all_blocks (joined granules) = flat_map-append blocks_of payloads (joined granules) in
    let whole : IsFileOf (before ++ (all_blocks payloads ++ all_blocks (joined granules))) file = subst (λ blocks. IsFileOf (before ++ blocks) file) spread is in
    let regrouped : IsFileOf ((before ++ all_blocks payloads) ++ all_blocks (joined granules)) file = subst (λ blocks. IsFileOf blocks file) (sym (append_assoc before (all_blocks payloads) (all_blocks (joined granules)))) whole in
    let offsets : sum (map sum (sizes ∷ frames)) ≡ sum sizes + sum (map sum frames) = sum_by-cons (λ x. x) (sum sizes) (map sum frames) in
    let positions : sum (map sum (map length payloads ∷ map (map length) granules)) ≡ sum (map length payloads) + sum (map sum (map (map length) granules)) = sum_by-cons (λ x. x) (sum (map length payloads)) (map sum (map (map length) granules)) in (
      starts_denote offset position before payloads (all_blocks (joined granules)) file at is_position whole,
      granules_denote per_granule (offset + sum sizes) (position + sum (map length payloads)) end last (before ++ all_blocks payloads) granules file (offset_after_all offset before payloads at) (position_after_all position before payloads is_position)
          (omega arith) (omega arith) regrouped,
    )

-- ---- the offsets of marks

front_within : (before rest : List Block) (file : List ℕ) → file ≡ file_of (before ++ rest) → length (file_of before) ≤ length file
front_within before rest file is = omega (arith, ap (λ (bytes : List ℕ). length bytes) (is ∙ flat_map-append block_bytes before rest), length-append (file_of before) (file_of rest))

-- a mark that denotes a position is at an offset in the file, or at its end
pub offset_within : (file : List ℕ) (mark : Mark) (position : ℕ) → MarksPosition file mark position → mark.offset ≤ length file
offset_within file mark position (blocks, is, inl at) = omega (arith, at.at_offset, front_within at.before (at.here ∷ at.after) file (is.bytes ∙ ap file_of at.split))
offset_within file mark position (blocks, is, inr at) = omega (arith, at.at_offset, ap (λ (bytes : List ℕ). length bytes) is.bytes)

-- so it has 64 bits where the file is short
abbrev pub HasFewOffset : Mark → Type 0
HasFewOffset mark = mark.offset < 2 ^ 64

offsets_few : (file : List ℕ) → length file < 2 ^ 64 → (marks : List (List Mark)) (positions : List (List ℕ)) → Pointwise (Pointwise (MarksPosition file)) marks positions → All HasFewOffset (flat_map (λ entry_marks. entry_marks) marks)
offsets_few file short marks positions denote =
    let few : (mark : Mark) (position : ℕ) → MarksPosition file mark position → HasFewOffset mark = λ mark position at. omega (arith, offset_within file mark position at, short) in
    All-to_flat_map HasFewOffset (λ entry_marks. entry_marks) marks
    (Pointwise-firsts (Pointwise (MarksPosition file)) (All HasFewOffset) (Pointwise-firsts (MarksPosition file) HasFewOffset few) marks positions denote)

-- ---- the order of marks

-- the first offset is at least this, and no mark's is below the one before it
abbrev RiseFrom : ℕ → List Mark → Type 0
RiseFrom low [] = Unit {0}
RiseFrom low (mark ∷ marks) = (low ≤ mark.offset) × RiseFrom mark.offset marks

rise_lower : (low lower : ℕ) (marks : List Mark) → lower ≤ low → RiseFrom low marks → RiseFrom lower marks
rise_lower low lower [] h up = tt
rise_lower low lower (mark ∷ marks) h up = (omega (arith, h, up.0), up.1)

run_rises : (low offset end : ℕ) (sizes : List ℕ) (rest : List Mark) → low ≤ offset → end ≡ offset + sum sizes → RiseFrom end rest → RiseFrom low (map mark_at (offsets_from offset sizes) ++ rest)
run_rises low offset end [] rest h is up = rise_lower end low rest (omega (arith, h, is)) up
run_rises low offset end (size ∷ sizes) rest h is up =
    let all : sum (size ∷ sizes) ≡ size + sum sizes = sum_by-cons (λ x. x) size sizes in
    (h, run_rises offset (offset + size) end sizes rest (omega arith) (omega arith) up)

ends_rise : (low end n : ℕ) → low ≤ end → RiseFrom low (map mark_at (replicate n end) ++ [])
ends_rise low end zero h = tt
ends_rise low end (suc n) h = (h, ends_rise end end n (omega arith))

granules_rise : (per_granule low offset end : ℕ) (granules : List (List ℕ)) → low ≤ offset → end ≡ offset + sum (map sum granules)
    → RiseFrom low (flat_map (λ marks. marks) (map (map mark_at) (granule_starts offset granules ++ replicate per_granule end ∷ [])))
granules_rise per_granule low offset end [] h is = ends_rise low end per_granule (omega (arith, h, is))
granules_rise per_granule low offset end (sizes ∷ granules) h is =
    let all : sum (map sum (sizes ∷ granules)) ≡ sum sizes + sum (map sum granules) = sum_by-cons (λ x. x) (sum sizes) (map sum granules) in
    run_rises low offset (offset + sum sizes) sizes (flat_map (λ marks. marks) (map (map mark_at) (granule_starts (offset + sum sizes) granules ++ replicate per_granule end ∷ []))) h refl
    (granules_rise per_granule (offset + sum sizes) (offset + sum sizes) end granules (omega arith) (omega arith))

from_low : (low : ℕ) (marks : List Mark) (k : ℕ) (d : Mark) → RiseFrom low marks → k < length marks → low ≤ (get_or marks k d).offset
from_low low [] k d up h = absurd (omega (arith, h))
from_low low (mark ∷ marks) zero d up h = up.0
from_low low (mark ∷ marks) (suc k) d up h = omega (arith, up.0, from_low mark.offset marks k d up.1 (omega (arith, h)))

never_fall : (low : ℕ) (marks : List Mark) → RiseFrom low marks → IsNonDecreasingBy (λ mark. mark.offset) marks
never_fall low [] up i j d le h = absurd (omega (arith, h))
never_fall low (mark ∷ marks) up zero zero d le h = omega arith
never_fall low (mark ∷ marks) up zero (suc j) d le h = from_low mark.offset marks j d up.1 (omega (arith, h))
never_fall low (mark ∷ marks) up (suc i) zero d le h = absurd (omega (arith, le))
never_fall low (mark ∷ marks) up (suc i) (suc j) d le h = never_fall mark.offset marks up.1 i j d (omega (arith, le)) (omega (arith, h))

-- ---- the marks file

-- the marks file of granules of payloads, each framed by itself
pub is_marks_file : (per_granule : ℕ) (payloads : List (List (List ℕ))) (granules : List ℕ) → All (λ count. count < 2 ^ 64) granules → All AreBytes (joined payloads) → length (concat (map written_frames (joined payloads))) < 2 ^ 64
    → IsMarksFile per_granule (concat (map written_frames (joined payloads))) (map (map length) payloads) granules (written_marks_bytes per_granule (map (map length) (map (map written_frames) payloads)) granules)
is_marks_file per_granule payloads granules few are short =
    let sizes = map (map length) (map (map written_frames) payloads) in
    let file = concat (map written_frames (joined payloads)) in
    let positions = granules_denote per_granule 0 0 (sum (map sum sizes)) (sum (map sum (map (map length) payloads))) [] payloads file refl refl (omega arith) (omega arith) (file_is_blocks (joined payloads) are) in
    record {
      marks = written_marks per_granule sizes;
      encoded = refl;
      few_rows = few;
      few_offsets = offsets_few file short (written_marks per_granule sizes) _ positions;
      positions = positions;
      order = never_fall 0 (flat_map (λ marks. marks) (written_marks per_granule sizes)) (granules_rise per_granule 0 0 (sum (map sum sizes)) sizes (omega arith) (omega arith));
    }

-- ---- one payload a granule

abbrev singles : List (List ℕ) → List (List (List ℕ))
singles payloads = map (λ payload. payload ∷ []) payloads

singles_all : (payloads : List (List ℕ)) → joined (singles payloads) ≡ payloads
singles_all [] = refl
singles_all (payload ∷ payloads) = ap (λ rest. payload ∷ rest) (singles_all payloads)

singles_sizes : (payloads : List (List ℕ)) → map (map length) (singles payloads) ≡ map (λ payload. length payload ∷ []) payloads
singles_sizes [] = refl
singles_sizes (payload ∷ payloads) = ap (λ rest. (length payload ∷ []) ∷ rest) (singles_sizes payloads)

singles_frames : (payloads : List (List ℕ)) → map (map length) (map (map written_frames) (singles payloads)) ≡ map (λ run. length run ∷ []) (map written_frames payloads)
singles_frames [] = refl
singles_frames (payload ∷ payloads) = ap (λ rest. (length (written_frames payload) ∷ []) ∷ rest) (singles_frames payloads)

-- the marks file of a stream
pub is_stream_marks : (payloads : List (List ℕ)) (granules : List ℕ) → All (λ count. count < 2 ^ 64) granules → All AreBytes payloads → length (concat (map written_frames payloads)) < 2 ^ 64
    → IsMarksFile 1 (concat (map written_frames payloads)) (map (λ payload. length payload ∷ []) payloads) granules (written_marks_bytes 1 (map (λ run. length run ∷ []) (map written_frames payloads)) granules)
is_stream_marks payloads granules few are short =
    let P : List (List ℕ) → List (List ℕ) → List (List ℕ) → Type 0 = λ all sizes frames. IsMarksFile 1 (concat (map written_frames all)) sizes granules (written_marks_bytes 1 frames granules) in
    let nested : P (joined (singles payloads)) (map (map length) (singles payloads)) (map (map length) (map (map written_frames) (singles payloads))) =
    is_marks_file 1 (singles payloads) granules few (subst (All AreBytes) (sym (singles_all payloads)) are) (subst (λ (all : List (List ℕ)). length (concat (map written_frames all)) < 2 ^ 64) (sym (singles_all payloads)) short) in
    subst (λ frames. P payloads (map (λ payload. length payload ∷ []) payloads) frames) (singles_frames payloads)
    (subst (λ sizes. P payloads sizes (map (map length) (map (map written_frames) (singles payloads)))) (singles_sizes payloads)
    (subst (λ all. P all (map (map length) (singles payloads)) (map (map length) (map (map written_frames) (singles payloads)))) (singles_all payloads) nested))
