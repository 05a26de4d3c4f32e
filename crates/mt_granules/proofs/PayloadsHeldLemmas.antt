-- What is read of a data file and its marks file is what they hold.
use Rattle.std.proofs.Common.{◌≡◌, ℕ, zero, suc, ◌+◌, ◌-◌, ◌*◌, ◌/◌, ◌^◌, ◌<◌, ◌≤◌, List, [], ◌∷◌, ◌++◌, length, map, take, drop, refl, ap, sym, ◌∙◌, subst, arith, append_assoc, length-append, Some, None}
use Rattle.std.specs.Prelude.{All, Ok, replicate}
use Rattle.std.specs.List.{concat, flat_map, sum}
use Rattle.std.proofs.Math.Nat.{mod-eq-sub-div-mul, div-mul-le_self}
use Rattle.std.proofs.lemmas.List.{length-map, length-take-le, take_all, take_at}
use Rattle.std.proofs.lemmas.List.Elements.{All-nil, All-cons, All-head, All-tail, All-take, All-drop, All-append}
use Rattle.mt_types.proofs.StepLemmas.{ok_then, ok_one}
use Rattle.mt_table.specs.Rows.{Pointwise}
use Rattle.mt_defs.specs.declared.frame.Frame.{Frame}
use Rattle.mt_defs.specs.declared.mark.Mark.{Mark}
use Rattle.mt_defs.specs.Folder.{Folder}
use Rattle.mt_defs.specs.Frames.{Block, IsBlock, IsFramed, payload_of}
use Rattle.mt_defs.specs.Lists.{AreBytes, offsets_from}
use Rattle.mt_defs.specs.Marks.{IsMarksFile, MarksPosition, granule_starts, marks_bytes as bytes_of_marks}
use Rattle.mt_frame.specs.declared.frames.Frames.{Frames}
use Rattle.mt_frame.specs.FrameReading.{layout, layout_from}
use Rattle.mt_frame.specs.Results.{AreFramesOf}
use Rattle.mt_item.proofs.ExactLemmas.{small_of}
use Rattle.mt_marks.specs.declared.marks.Marks.{Marks}
use Rattle.mt_marks.specs.Entries.{Entry}
use Rattle.mt_marks.specs.MarkReading.{entry_len, marks_reading, payload_len}
use Rattle.mt_marks.specs.Positions.{position_of}
use Rattle.mt_marks.proofs.DenotedLemmas.{position_denotes}
use Rattle.mt_marks.proofs.RawLemmas.{all_marks, all_rows}
use Rattle.mt_marks.proofs.WordLemmas.{HasWords, places_fit}
use Rattle.mt_fault.specs.Faults.{blame}
use Rattle.mt_granules.specs.FileFaults.{file_reading, frame_fault, marks_fault}
use Rattle.mt_granules.specs.PayloadReading.{GranulePayloads, frames_in, granules_of, mark_count, payloads_of, payloads_reading, pieces, positions_of}
use Rattle.std.specs.List.Sorted.{IsNonDecreasingBy}
use Rattle.mt_facts.proofs.Numbers.{each_below_sum, sum_cons}
use Rattle.mt_fault.proofs.FaultLemmas.{blame_ok}
use Rattle.mt_granules.proofs.DataFileLemmas.{length-offsets}
use Rattle.mt_granules.proofs.RuleLemmas.{Rises, all_entries, climb_all, entries_rows, joined}
use Rattle.mt_granules.proofs.MarkLemmas.{file_is, frames_are, payload_is, positions_are}
use Rattle.mt_granules.proofs.MarksFileLemmas.{marks_read}
use Rattle.mt_granules.proofs.MarksBytesLemmas.{entry_lists, file_encodes}
use Rattle.mt_granules.proofs.FileByteLemmas.{file_was_read}
use Rattle.mt_granules.proofs.CutLemmas.{AreRuns, RisesTo, concat_flat, flat, length-flat, length-runs, pieces_joined, pieces_start, runs, runs_are, runs_back, runs_joined, sizes_of, sizes_runs, starts_runs, sum_grouped}
use Rattle.mt_granules.proofs.EntriesLemmas.{begins_at, ends_at, entries_denote, joined_last, never_fall, rises_to, rows_end, rows_small}

-- the folder's data file and marks file hold these payloads, so many in each granule
pub record HoldsPayloads (folder : Folder) (data_name marks_name : List ℕ) (per : ℕ) (grouped : List (List (List ℕ))) (granules : List ℕ) : Type 0 where
  pub data_file : List ℕ
  pub marks_file : List ℕ
  pub has_data : folder data_name ≡ Some data_file
  pub has_marks : folder marks_name ≡ Some marks_file
  pub framed : IsFramed (concat (map concat grouped)) data_file
  pub marks : IsMarksFile per data_file (map sizes_of grouped) granules marks_file

-- ---- frames

pub layout_next : (offset : ℕ) (c : Block) (cs : List Block) → layout_from offset (c ∷ cs) ≡ record { offset = offset; payload = length c.payload } ∷ layout_from (offset + (25 + length c.payload)) cs
unfolding layout_from
layout_next offset c cs = refl

pub layout_none : (offset : ℕ) → layout_from offset [] ≡ []
unfolding layout_from
layout_none offset = refl

lengths_paid : (offset : ℕ) (cs : List Block) → sum (map (λ (f : Frame). f.payload) (layout_from offset cs)) ≡ length (payload_of cs)
lengths_paid offset [] = ap (λ (fs : List Frame). sum (map (λ (f : Frame). f.payload) fs)) (layout_none offset)
lengths_paid offset (c ∷ cs) =
    ap (λ (fs : List Frame). sum (map (λ (f : Frame). f.payload) fs)) (layout_next offset c cs)
    ∙ sum_cons (length c.payload) (map (λ (f : Frame). f.payload) (layout_from (offset + (25 + length c.payload)) cs))
    ∙ omega (arith, lengths_paid (offset + (25 + length c.payload)) cs, length-append c.payload (payload_of cs))

pub len_is : (frames : Frames) (blocks : List Block) → frames.list ≡ layout blocks → payload_len frames.list ≡ length (payload_of blocks)
len_is frames blocks is = ap (λ (fs : List Frame). sum (map (λ (f : Frame). f.payload) fs)) is ∙ lengths_paid 0 blocks

paid_bytes : (blocks : List Block) → All IsBlock blocks → AreBytes (payload_of blocks)
paid_bytes [] are = All-nil (λ byte. byte < 256)
paid_bytes (c ∷ cs) are = All-append (λ byte. byte < 256) c.payload (payload_of cs) (All-head IsBlock c cs are).payload_bytes (paid_bytes cs (All-tail IsBlock c cs are))

pieces_bytes : (payload positions : List ℕ) → AreBytes payload → All AreBytes (pieces payload positions)
pieces_bytes payload [] are = All-nil AreBytes
pieces_bytes payload (p ∷ []) are = All-nil AreBytes
pieces_bytes payload (p ∷ q ∷ ps) are =
    All-cons AreBytes (take (q - p) (drop p payload)) (pieces payload (q ∷ ps)) (All-take (λ byte. byte < 256) (q - p) (drop p payload) (All-drop (λ byte. byte < 256) p payload are)) (pieces_bytes payload (q ∷ ps) are)

-- ---- lists

pub snoc_same : (xs ys : List ℕ) (z : ℕ) → xs ++ z ∷ [] ≡ ys ++ z ∷ [] → xs ≡ ys
snoc_same xs ys z e =
    let long : length xs ≡ length ys = omega (arith, ap (λ (l : List ℕ). length l) e, length-append xs (z ∷ []), length-append ys (z ∷ [])) in
    sym (take_at xs (z ∷ []) (length xs) refl) ∙ ap (take (length xs)) e ∙ take_at ys (z ∷ []) (length xs) (sym long)

pub take_one_more : (xs rest : List ℕ) (z n : ℕ) → length xs ≡ n → take (n + 1) (xs ++ z ∷ rest) ≡ xs ++ z ∷ []
take_one_more xs rest z n long =
    ap (take (n + 1)) (sym (append_assoc xs (z ∷ []) rest)) ∙ take_at (xs ++ z ∷ []) rest (n + 1) (omega (arith, long, length-append xs (z ∷ [])))

pub copies : (per : ℕ) (z : ℕ) → 1 ≤ per → (rest : List ℕ) × (replicate per z ≡ z ∷ rest)
copies zero z some = absurd (omega arith)
copies (suc per) z some = (replicate per z, refl)

-- ---- positions cut a payload

-- the pieces of a payload between these positions and its end
pub record Pieces (per n : ℕ) (payload positions : List ℕ) (front : List (List ℕ)) : Type 0 where
  pub cut : List (List ℕ)
  pub are : cut ≡ pieces payload (take (n * per + 1) positions)
  pub long : length cut ≡ n * per
  pub whole : concat cut ≡ payload
  pub starts : granule_starts 0 (map sizes_of (runs per n cut)) ≡ front

pub pieces_of : (per n end top : ℕ) (payload positions : List ℕ) (front : List (List ℕ)) → 1 ≤ per → end ≡ length payload → length front ≡ n → AreRuns per front → positions ≡ flat front ++ replicate per end
    → Rises 0 positions top → (rest : List ℕ) × (positions ≡ 0 ∷ rest) → Pieces per n payload positions front
pieces_of per n end top payload positions front some end_is many are split rise (rest, first) =
    let P : List ℕ = flat front in
    let long : length P ≡ n * per = length-flat per front are ∙ ap (λ (k : ℕ). k * per) many in
    let (others, copied) = copies per end some in
    let whole : positions ≡ P ++ end ∷ others = split ∙ ap (λ (l : List ℕ). P ++ l) copied in
    let taken : take (n * per + 1) positions ≡ P ++ end ∷ [] = ap (take (n * per + 1)) whole ∙ take_one_more P others end (n * per) long in
    let qs : List ℕ = take (n * per) rest in
    let headed : P ++ end ∷ [] ≡ 0 ∷ qs = sym taken ∙ ap (take (n * per + 1)) first ∙ ap (λ (k : ℕ). take k (0 ∷ rest)) (let z : n * per + 1 ≡ suc (n * per) = omega arith in z) in
    let up : RisesTo 0 (P ++ end ∷ []) end = rises_to 0 top end P others (subst (λ (l : List ℕ). Rises 0 l top) whole rise) in
    let up' : RisesTo 0 qs end = (subst (λ (l : List ℕ). RisesTo 0 l end) headed up).1 in
    let cut : List (List ℕ) = pieces payload (0 ∷ qs) in
    let starts : offsets_from 0 (sizes_of cut) ≡ P = snoc_same (offsets_from 0 (sizes_of cut)) P end (pieces_start 0 qs end payload up' (omega (arith, end_is)) ∙ sym headed) in
    let count : length cut ≡ n * per = sym (length-map cut (λ (p : List ℕ). length p)) ∙ sym (length-offsets 0 (sizes_of cut)) ∙ ap (λ (l : List ℕ). length l) starts ∙ long in
    record {
      cut = cut;
      are = ap (pieces payload) (sym (taken ∙ headed));
      long = count;
      whole = pieces_joined 0 qs end payload up' (omega (arith, end_is)) ∙ take_all (end - 0) payload (omega (arith, end_is));
      starts = ap (granule_starts 0) (sizes_runs per n cut) ∙ starts_runs per n 0 (sizes_of cut) ∙ ap (runs per n) starts ∙ ap (λ (k : ℕ). runs per k P) (sym many) ∙ runs_back per front are;
    }

-- ---- what is read is held

each_position : (frames : Frames) (file : List ℕ) → AreFramesOf frames file → (ms : List Mark) (ns : List ℕ) → Pointwise (λ m n. position_of frames m ≡ Some n) ms ns → Pointwise (MarksPosition file) ms ns
each_position frames file are [] [] p = tt
each_position frames file are [] (n ∷ ns) p = absurd p
each_position frames file are (m ∷ ms) [] p = absurd p
each_position frames file are (m ∷ ms) (n ∷ ns) p = ((position_denotes frames m (position_of frames m) refl file are n).0 p.0, each_position frames file are ms ns p.1)

all_positions : (frames : Frames) (file : List ℕ) → AreFramesOf frames file → (ms : List (List Mark)) (ps : List (List ℕ)) → Pointwise (Pointwise (λ m n. position_of frames m ≡ Some n)) ms ps → Pointwise (Pointwise (MarksPosition file)) ms ps
all_positions frames file are [] [] p = tt
all_positions frames file are [] (n ∷ ns) p = absurd p
all_positions frames file are (m ∷ ms) [] p = absurd p
all_positions frames file are (m ∷ ms) (n ∷ ns) p = (each_position frames file are m n p.0, all_positions frames file are ms ns p.1)

pub lists_flat : (es : List Entry) → flat_map (λ ms. ms) (entry_lists es) ≡ all_marks es
lists_flat [] = refl
lists_flat (e ∷ es) = ap (λ (l : List Mark). e.marks ++ l) (lists_flat es)

pub record AreHeld (folder : Folder) (data_name marks_name : List ℕ) (per : ℕ) (read : GranulePayloads) : Type 0 where
  pub grouped : List (List (List ℕ))
  pub are : AreRuns per grouped
  pub many : length grouped ≡ length read.granules
  pub payloads_are : read.payloads ≡ flat grouped
  pub holds : HoldsPayloads folder data_name marks_name per grouped read.granules
  pub some : All (λ n. 1 ≤ n) read.granules
  pub small : sum read.granules < 2 ^ 64
  pub not_empty : 1 ≤ length read.granules
  pub bytes : All AreBytes read.payloads

held : (folder : Folder) (data_name marks_name : List ℕ) (per : ℕ) (file bytes : List ℕ) (frames : Frames) (marks : Marks) → AreBytes file → AreBytes bytes → 1 ≤ per → folder data_name ≡ Some file → folder marks_name ≡ Some bytes
    → frames_in file ≡ Ok frames → marks_reading per frames bytes ≡ Ok marks → AreHeld folder data_name marks_name per (payloads_of file frames marks)
held folder data_name marks_name per file bytes frames marks file_bytes marks_bytes some has_data has_marks framed marked =
    let cut = frames_are file frames framed in
    let blocks = cut.blocks in
    let is = file_is file blocks file_bytes cut.reads in
    let payload : List ℕ = payload_of blocks in
    let are_frames : AreFramesOf frames file = (blocks, is, cut.list, cut.end) in
    let read = marks_read per frames bytes marks marked in
    let es = read.entries in
    let entries = all_entries frames 0 0 None es read.rules in
    let ps = entries.0 in
    let n : ℕ = length es - 1 in
    let climb = climb_all frames 0 None es ps entries.1 in
    let ends = ends_at frames per 0 None es ps entries.1 read.have (omega (arith, read.many)) in
    let end : ℕ = payload_len frames.list in
    let split : joined ps ≡ flat ends.front ++ replicate per end = ap joined ends.split ∙ joined_last ends.front (replicate per end) in
    let piece = pieces_of per n end climb.top payload (joined ps) ends.front some (len_is frames blocks cut.list) ends.many ends.are split climb.positions (begins_at frames 0 es ps per entries.1 read.have some (omega (arith, read.many))) in
    let grouped = runs per n piece.cut in
    let places : positions_of frames marks ≡ joined ps = ap (λ (m : Marks). positions_of frames m) read.marks_are ∙ positions_are frames (all_marks es) (joined ps) climb.denote in
    let rows_long : length (all_rows es) ≡ length es = length-map es (λ (e : Entry). e.rows) in
    let granules_are : granules_of marks ≡ take n (all_rows es) = ap granules_of read.marks_are ∙ ap (λ (k : ℕ). take (k - 1) (all_rows es)) rows_long in
    let granules_many : length (granules_of marks) ≡ n = ap (λ (l : List ℕ). length l) granules_are ∙ length-take-le n (all_rows es) (omega (arith, rows_long)) in
    let count : mark_count marks ≡ n * per = ap (λ (k : ℕ). k * marks.per_granule) granules_many ∙ ap (λ (m : Marks). n * m.per_granule) read.marks_are in
    let rows_are : all_rows es ≡ granules_of marks ++ 0 ∷ [] = rows_end frames 0 None es ps entries.1 (omega (arith, read.many)) ∙ ap (λ (l : List ℕ). l ++ 0 ∷ []) (sym granules_are) in
    let small : sum (granules_of marks) < 2 ^ 64 = subst (λ (l : List ℕ). sum l < 2 ^ 64) (sym granules_are) (let s = rows_small frames 0 None es ps entries.1 (omega arith) in omega (arith, s)) in
    let payloads_are : (payloads_of file frames marks).payloads ≡ piece.cut =
    ap (λ (p : List ℕ). pieces p (take (mark_count marks + 1) (positions_of frames marks))) (payload_is file blocks cut.reads)
    ∙ ap (λ (l : List ℕ). pieces payload (take (mark_count marks + 1) l)) places ∙ ap (λ (k : ℕ). pieces payload (take (k + 1) (joined ps))) count ∙ sym piece.are in
    let whole : concat (map concat grouped) ≡ payload = concat_flat grouped ∙ ap concat (runs_joined per n piece.cut piece.long) ∙ piece.whole in
    let total : sum (map sum (map sizes_of grouped)) ≡ end = sum_grouped grouped ∙ ap (λ (l : List ℕ). length l) whole ∙ sym (len_is frames blocks cut.list) in
    let positions : ps ≡ granule_starts 0 (map sizes_of grouped) ++ replicate per (sum (map sum (map sizes_of grouped))) ∷ [] =
    ends.split ∙ ap (λ (l : List (List ℕ)). l ++ replicate per end ∷ []) (sym piece.starts) ∙ ap (λ (k : ℕ). granule_starts 0 (map sizes_of grouped) ++ replicate per k ∷ []) (sym total) in
    let words : All HasWords (all_marks es) = subst (λ (l : List Entry). All HasWords (all_marks l)) (sym read.are) (places_fit per (length bytes / entry_len per) bytes (small_of bytes marks_bytes)) in
    let encoded : bytes ≡ bytes_of_marks (entry_lists es) (granules_of marks ++ 0 ∷ []) =
    file_encodes per bytes es (small_of bytes marks_bytes) read.are (omega (arith, read.whole, mod-eq-sub-div-mul (length bytes) (entry_len per), div-mul-le_self (length bytes) (entry_len per)))
    ∙ ap (bytes_of_marks (entry_lists es)) rows_are in
    record {
      grouped = grouped;
      are = runs_are per n piece.cut piece.long;
      many = length-runs per n piece.cut ∙ sym granules_many;
      payloads_are = payloads_are ∙ sym (runs_joined per n piece.cut piece.long);
      holds = record {
        data_file = file;
        marks_file = bytes;
        has_data = has_data;
        has_marks = has_marks;
        framed = (blocks, is, whole);
        marks = record {
          marks = entry_lists es;
          encoded = encoded;
          few_rows = each_below_sum (2 ^ 64) (granules_of marks) small;
          few_offsets = subst (All (λ (m : Mark). m.offset < 2 ^ 64)) (sym (lists_flat es)) (λ k d inside. (words k d inside).offset);
          positions = subst (Pointwise (Pointwise (MarksPosition file)) (entry_lists es)) positions (all_positions frames file are_frames (entry_lists es) ps (entries_denote frames 0 None es ps entries.1));
          order = subst (IsNonDecreasingBy (λ (mark : Mark). mark.offset)) (sym (lists_flat es)) (never_fall 0 climb.foot (all_marks es) climb.offsets);
        };
      };
      some = subst (All (λ n. 1 ≤ n)) (sym granules_are) (entries_rows frames 0 None es ps entries.1);
      small = small;
      not_empty = omega (arith, granules_many, read.many);
      bytes = subst (All AreBytes) (sym payloads_are) (subst (All AreBytes) (sym piece.are) (pieces_bytes payload (take (n * per + 1) (joined ps)) (paid_bytes blocks is.each)));
    }

pub payloads_held : (folder : Folder) (data_name marks_name : List ℕ) (per : ℕ) (read : GranulePayloads) → 1 ≤ per → payloads_reading folder data_name marks_name per ≡ Ok read → AreHeld folder data_name marks_name per read
payloads_held folder data_name marks_name per read some e =
    ok_then (file_reading folder data_name) _ read e (λ file has_data e.
    ok_then (blame (frame_fault data_name) (frames_in file)) _ read e (λ frames framed e.
    ok_then (file_reading folder marks_name) _ read e (λ bytes has_marks e.
    ok_then (blame (marks_fault marks_name) (marks_reading per frames bytes)) _ read e (λ marks marked e.
    let frames_at = file_was_read folder data_name file has_data in
    let marks_at = file_was_read folder marks_name bytes has_marks in
    subst (AreHeld folder data_name marks_name per) (sym (ok_one _ _ e))
    (held folder data_name marks_name per file bytes frames marks frames_at.bytes marks_at.bytes some frames_at.has marks_at.has (blame_ok (frame_fault data_name) (frames_in file) frames framed)
    (blame_ok (marks_fault marks_name) (marks_reading per frames bytes) marks marked))))))
