-- What a data file and its marks file hold is read.
use Rattle.std.proofs.Common.{◌≡◌, ℕ, zero, suc, ◌+◌, ◌-◌, ◌*◌, ◌^◌, ◌<◌, ◌≤◌, ◌&&◌, true, List, [], ◌∷◌, ◌++◌, length, map, take, drop, refl, ap, sym, ◌∙◌, subst, arith, length-append, Option, Some, None, inl, inr}
use Rattle.std.specs.Prelude.{All, Result, Ok, option_map, nat_le, ◌==◌, replicate}
use Rattle.std.specs.List.{concat, sum}
use Rattle.std.proofs.lemmas.Bool.{le-leb, eq-eqb, and_from}
use Rattle.std.proofs.lemmas.List.{length-map, take_at}
use Rattle.std.proofs.lemmas.Nat.{mul-le}
use Rattle.std.proofs.lemmas.List.Elements.{All-nil, All-cons, All-head, All-tail, All-append}
use Rattle.mt_facts.proofs.Numbers.{sum_cons}
use Rattle.mt_types.specs.Steps.{◌>>=◌, require, ok_or}
use Rattle.mt_types.proofs.StepLemmas.{passed, then_of}
use Rattle.mt_fault.specs.declared.fault.Why.{Why}
use Rattle.mt_fault.specs.declared.fault.Why.TheVariants as why
use Rattle.mt_table.specs.Rows.{Pointwise}
use Rattle.mt_table.proofs.PointwiseLemmas.{Pointwise-length}
use Rattle.mt_defs.specs.declared.frame.Frame.{Frame}
use Rattle.mt_defs.specs.declared.frame.TheConstants.{MAX_PAYLOAD}
use Rattle.mt_defs.specs.declared.mark.Mark.{Mark}
use Rattle.mt_defs.specs.Folder.{Folder}
use Rattle.mt_defs.specs.Frames.{Block, IsBlock, IsFileOf, block_bytes, file_of, payload_of}
use Rattle.mt_defs.specs.Lists.{AreBytes, offsets_from}
use Rattle.mt_defs.specs.Marks.{IsMarksFile, MarksPosition, granule_starts, marks_bytes}
use Rattle.mt_frame.specs.declared.frames.Frames.{Frames}
use Rattle.mt_frame.specs.EndToEnd.{lie_end_to_end}
use Rattle.mt_frame.specs.FrameReading.{frames_reading, layout, layout_from}
use Rattle.mt_frame.specs.Results.{AreFramesOf}
use Rattle.mt_frame.proofs.BlockLemmas.{frame_len}
use Rattle.mt_frame.proofs.LawLemmas.{read_exactly}
use Rattle.mt_marks.specs.declared.marks.Marks.{Marks}
use Rattle.mt_marks.specs.Entries.{AreMarks, Entry, HaveWords, entry_marks, mark_runs}
use Rattle.mt_marks.specs.MarkReading.{entries_reading, in_granule, marks_of, marks_reading, payload_len, rules_reading}
use Rattle.mt_marks.specs.Positions.{position_of}
use Rattle.mt_marks.proofs.DenotedLemmas.{position_denotes}
use Rattle.mt_marks.proofs.RawLemmas.{all_marks, all_rows}
use Rattle.mt_marks.proofs.WrittenLemmas.{written_read}
use Rattle.mt_fault.specs.Faults.{blame}
use Rattle.mt_granules.specs.FileFaults.{file_reading, frame_fault, marks_fault}
use Rattle.mt_granules.specs.PayloadReading.{GranulePayloads, frames_in, granules_of, mark_count, payload_in, payloads_of, payloads_reading, pieces, positions_of}
use Rattle.mt_granules.proofs.DataFileLemmas.{length-offsets}
use Rattle.mt_granules.proofs.RuleLemmas.{Rises, entries_read, joined}
use Rattle.mt_granules.proofs.MarkLemmas.{frames_found, payload_is, positions_are}
use Rattle.mt_granules.proofs.MarksFileLemmas.{HaveMarks, entries_are, read_have}
use Rattle.mt_granules.proofs.MarksBytesLemmas.{entry_lists}
use Rattle.mt_granules.proofs.FileByteLemmas.{file_is_read, frames_are_bytes, marks_are_bytes}
use Rattle.mt_granules.proofs.CutLemmas.{AreRuns, concat_flat, flat, length-flat, length-runs, pieces_back, runs, runs_are, runs_back, runs_joined, sizes_of, sizes_runs, starts_runs, sum_grouped, sum_sizes}
use Rattle.mt_granules.proofs.EntriesLemmas.{joined_last}
use Rattle.mt_granules.proofs.KeptRulesLemmas.{Begins, RowsFit, all_copies, at_end, build_entries, offsets_rise, rows_fit}
use Rattle.mt_granules.proofs.PayloadsHeldLemmas.{HoldsPayloads, copies, len_is, layout_next, layout_none, lists_flat, take_one_more}

-- ---- the frames of a file lie end to end

lies : (offset end : ℕ) (cs : List Block) → All IsBlock cs → end ≡ offset + length (file_of cs) → lie_end_to_end offset (layout_from offset cs) end ≡ true
lies offset end [] are e = ap (λ (fs : List Frame). lie_end_to_end offset fs end) (layout_none offset) ∙ eq-eqb offset end (omega (arith, e))
lies offset end (c ∷ cs) are e =
    let is = All-head IsBlock c cs are in
    let size = frame_len c is in
    let next : ℕ = offset + (25 + length c.payload) in
    let more = lies next end cs (All-tail IsBlock c cs are) (omega (arith, e, size, length-append (block_bytes c) (file_of cs))) in
    ap (λ (fs : List Frame). lie_end_to_end offset fs end) (layout_next offset c cs)
    ∙ and_from (offset == offset) _ (eq-eqb offset offset refl) (and_from (nat_le 1 (length c.payload) && nat_le (length c.payload) MAX_PAYLOAD) _
    (and_from (nat_le 1 (length c.payload)) (nat_le (length c.payload) MAX_PAYLOAD) (le-leb 1 (length c.payload) is.not_empty) (le-leb (length c.payload) MAX_PAYLOAD is.small)) more)

pub frames_for : (file : List ℕ) (blocks : List Block) → IsFileOf blocks file → (frames : Frames) × (frames.list ≡ layout blocks) × (frames.end ≡ length file)
frames_for file blocks is =
    (record { list = layout blocks; end = length file; end_to_end = lies 0 (length file) blocks is.each (omega (arith, ap (λ (b : List ℕ). length b) is.bytes)) }, refl, refl)

-- ---- marks are numbers of 64 bits

pub here_block : (before after blocks : List Block) (here : Block) → blocks ≡ before ++ here ∷ after → All IsBlock blocks → IsBlock here
here_block before after blocks here e are = second before (subst (All IsBlock) e are)
  where
    second : (xs : List Block) → All IsBlock (xs ++ here ∷ after) → IsBlock here
    second [] are = All-head IsBlock here after are
    second (x ∷ xs) are = second xs (All-tail IsBlock x (xs ++ here ∷ after) are)

inner_small : (file : List ℕ) (mark : Mark) (position : ℕ) → MarksPosition file mark position → mark.inner ≤ MAX_PAYLOAD
inner_small file mark position (blocks, is, inl at) = let here = here_block at.before at.after blocks at.here at.split is.each in omega (arith, at.within, here.small)
inner_small file mark position (blocks, is, inr at) = omega (arith, at.at_start)

inners_one : (file : List ℕ) (ms : List Mark) (ns : List ℕ) → Pointwise (MarksPosition file) ms ns → All (λ (m : Mark). m.inner < 2 ^ 64) ms
inners_one file [] ns p = All-nil (λ (m : Mark). m.inner < 2 ^ 64)
inners_one file (m ∷ ms) [] p = absurd p
inners_one file (m ∷ ms) (n ∷ ns) p = let inner = inner_small file m n p.0 in All-cons (λ (m : Mark). m.inner < 2 ^ 64) m ms (omega (arith, inner)) (inners_one file ms ns p.1)

inners_all : (file : List ℕ) (ms : List (List Mark)) (ps : List (List ℕ)) → Pointwise (Pointwise (MarksPosition file)) ms ps → All (λ (m : Mark). m.inner < 2 ^ 64) (flat ms)
inners_all file [] ps p = All-nil (λ (m : Mark). m.inner < 2 ^ 64)
inners_all file (m ∷ ms) [] p = absurd p
inners_all file (m ∷ ms) (n ∷ ns) p = All-append (λ (m : Mark). m.inner < 2 ^ 64) m (flat ms) (inners_one file m n p.0) (inners_all file ms ns p.1)

-- ---- lists of equal lengths

pub runs_alike : {A B : Type 0} (R : A → B → Type 0) (per : ℕ) (xs : List (List A)) (ys : List (List B)) → Pointwise (Pointwise R) xs ys → AreRuns per ys → AreRuns per xs
runs_alike R per [] [] p are = tt
runs_alike R per [] (y ∷ ys) p are = absurd p
runs_alike R per (x ∷ xs) [] p are = absurd p
runs_alike R per (x ∷ xs) (y ∷ ys) p are = (Pointwise-length R x y p.0 ∙ are.0, runs_alike R per xs ys p.1 are.1)

runs_more : {X : Type 0} (per : ℕ) (xs : List (List X)) (last : List X) → AreRuns per xs → length last ≡ per → AreRuns per (xs ++ last ∷ [])
runs_more per [] last are long = (long, tt)
runs_more per (x ∷ xs) last are long = (are.0, runs_more per xs last are.1 long)

length-copies : (n : ℕ) (z : ℕ) → length (replicate n z) ≡ n
length-copies zero z = refl
length-copies (suc n) z = ap suc (length-copies n z)

have_runs : (per : ℕ) (es : List Entry) → HaveMarks per es → AreRuns per (entry_lists es)
have_runs per [] have = tt
have_runs per (e ∷ es) have = (have.0, have_runs per es have.1)

mark_runs_are : (per n : ℕ) (ms : List Mark) → mark_runs per n ms ≡ runs per n ms
mark_runs_are per zero ms = refl
mark_runs_are per (suc n) ms = ap (λ (l : List (List Mark)). take per ms ∷ l) (mark_runs_are per n (drop per ms))

-- ---- positions are found

each_found : (frames : Frames) (file : List ℕ) → AreFramesOf frames file → (ms : List Mark) (ns : List ℕ) → Pointwise (MarksPosition file) ms ns → Pointwise (λ m n. position_of frames m ≡ Some n) ms ns
each_found frames file are [] [] p = tt
each_found frames file are [] (n ∷ ns) p = absurd p
each_found frames file are (m ∷ ms) [] p = absurd p
each_found frames file are (m ∷ ms) (n ∷ ns) p = ((position_denotes frames m (position_of frames m) refl file are n).1 p.0, each_found frames file are ms ns p.1)

all_found : (frames : Frames) (file : List ℕ) → AreFramesOf frames file → (ms : List (List Mark)) (ps : List (List ℕ)) → Pointwise (Pointwise (MarksPosition file)) ms ps → Pointwise (Pointwise (λ m n. position_of frames m ≡ Some n)) ms ps
all_found frames file are [] [] p = tt
all_found frames file are [] (n ∷ ns) p = absurd p
all_found frames file are (m ∷ ms) [] p = absurd p
all_found frames file are (m ∷ ms) (n ∷ ns) p = (each_found frames file are m n p.0, all_found frames file are ms ns p.1)

joined_found : (frames : Frames) (ms : List (List Mark)) (ps : List (List ℕ)) → Pointwise (Pointwise (λ m n. position_of frames m ≡ Some n)) ms ps → Pointwise (λ m n. position_of frames m ≡ Some n) (flat ms) (joined ps)
joined_found frames [] [] p = tt
joined_found frames [] (n ∷ ns) p = absurd p
joined_found frames (m ∷ ms) [] p = absurd p
joined_found frames (m ∷ ms) (n ∷ ns) p = both m n p.0 (joined_found frames ms ns p.1)
  where
    both : (xs : List Mark) (ys : List ℕ) → Pointwise (λ m n. position_of frames m ≡ Some n) xs ys → Pointwise (λ m n. position_of frames m ≡ Some n) (flat ms) (joined ns) → Pointwise (λ m n. position_of frames m ≡ Some n) (xs ++ flat ms) (ys ++ joined ns)
    both [] [] p q = q
    both [] (y ∷ ys) p q = absurd p
    both (x ∷ xs) [] p q = absurd p
    both (x ∷ xs) (y ∷ ys) p q = (p.0, both xs ys p.1 q)

-- ---- positions rise

starts_rise : (a top : ℕ) (sizes rest : List ℕ) → a + sum sizes ≡ top → Rises top rest top → Rises a (offsets_from a sizes ++ rest) top
starts_rise a top [] rest e up = subst (λ (k : ℕ). Rises k rest top) (omega (arith, e)) up
starts_rise a top (s ∷ sizes) rest e up = (omega arith, below a (a + s) (offsets_from (a + s) sizes ++ rest) top (omega arith) (starts_rise (a + s) top sizes rest (omega (arith, e, sum_cons s sizes)) up))
  where
    below : (a b : ℕ) (ns : List ℕ) (top : ℕ) → a ≤ b → Rises b ns top → Rises a ns top
    below a b [] top le r = omega (arith, le, r)
    below a b (n ∷ ns) top le r = (omega (arith, le, r.0), r.1)

copies_rise : (n z : ℕ) → Rises z (replicate n z) z
copies_rise zero z = omega arith
copies_rise (suc n) z = (omega arith, copies_rise n z)

-- ---- what is held is read

some_back : (per : ℕ) (marks : Marks) (o : Option (List Entry)) → option_map (marks_of per) o ≡ Some marks → (es : List Entry) × (o ≡ Some es) × (marks_of per es ≡ marks)
some_back per marks (Some es) e = (es, refl, cc)
some_back per marks None e = cc

entries_ok : (per : ℕ) (frames : Frames) (bytes : List ℕ) (es : List Entry) (marks : Marks) → entries_reading per bytes ≡ Some es → 2 ≤ length es → rules_reading frames 0 0 None es ≡ Ok tt → marks_of per es ≡ marks → marks_reading per frames bytes ≡ Ok marks
entries_ok per frames bytes es marks is many rules same =
    ap (λ (o : Option (List Entry)). ok_or (None, why.Length) o >>= λ entries. require (nat_le 2 (length entries)) (None, why.Length) >>= λ _. in_granule (rules_reading frames 0 0 None entries) >>= λ _. Ok (marks_of per entries)) is
    ∙ passed (nat_le 2 (length es)) (None, why.Length) (λ _. in_granule (rules_reading frames 0 0 None es) >>= λ _. Ok (marks_of per es)) (le-leb 2 (length es) many)
    ∙ ap (λ (r : Result (Unit {0}) (ℕ × Why)). in_granule r >>= λ _. Ok (marks_of per es)) rules
    ∙ ap (λ (m : Marks). let r : Result Marks (Option ℕ × Why) = Ok m in r) same

module _ (file bytes : List ℕ) (per : ℕ) (grouped : List (List (List ℕ))) (granules : List ℕ) (blocks : List Block) (some : 1 ≤ per) (few : per ≤ 256) (are : AreRuns per grouped) (many : length grouped ≡ length granules)
    (is : IsFileOf blocks file) (whole : concat (map concat grouped) ≡ payload_of blocks) (mk : IsMarksFile per file (map sizes_of grouped) granules bytes) (not_empty : 1 ≤ length granules) (all_some : All (λ n. 1 ≤ n) granules) (small : sum granules < 2 ^ 64)
    (frames : Frames) (list_is : frames.list ≡ layout blocks) (end_is : frames.end ≡ length file) where
  abbrev cut : List (List ℕ)
  cut = flat grouped

  abbrev n : ℕ
  n = length grouped

  abbrev P : List ℕ
  P = offsets_from 0 (sizes_of cut)

  abbrev front : List (List ℕ)
  front = runs per n P

  abbrev total : ℕ
  total = sum (map sum (map sizes_of grouped))

  abbrev ps : List (List ℕ)
  ps = front ++ replicate per total ∷ []

  abbrev rows : List ℕ
  rows = granules ++ 0 ∷ []

  abbrev marks : Marks
  marks = record { per_granule = per; places = flat mk.marks; rows = rows }

  P_long : length P ≡ n * per
  P_long = length-offsets 0 (sizes_of cut) ∙ length-map cut (λ (p : List ℕ). length p) ∙ length-flat per grouped are

  starts : granule_starts 0 (map sizes_of grouped) ≡ front
  starts = ap (λ (g : List (List (List ℕ))). granule_starts 0 (map sizes_of g)) (sym (runs_back per grouped are)) ∙ ap (granule_starts 0) (sizes_runs per n cut) ∙ starts_runs per n 0 (sizes_of cut)

  positions : Pointwise (Pointwise (MarksPosition file)) mk.marks ps
  positions = subst (λ (q : List (List ℕ)). Pointwise (Pointwise (MarksPosition file)) mk.marks (q ++ replicate per total ∷ [])) (starts) mk.positions

  paid : payload_of blocks ≡ concat cut
  paid = sym whole ∙ concat_flat grouped

  total_is : total ≡ length (concat cut)
  total_is = sum_grouped grouped ∙ ap (λ (l : List ℕ). length l) (concat_flat grouped)

  end : payload_len frames.list ≡ total
  end = len_is frames blocks list_is ∙ ap (λ (l : List ℕ). length l) (paid) ∙ sym (total_is)

  rows_long : length rows ≡ length granules + 1
  rows_long = length-append granules (0 ∷ [])

  ms_are : AreRuns per mk.marks
  ms_are = runs_alike (MarksPosition file) per mk.marks ps (positions) (runs_more per front (replicate per total) (runs_are per n P (P_long)) (length-copies per total))

  ms_many : length mk.marks ≡ length rows
  ms_many = omega (arith, Pointwise-length (Pointwise (MarksPosition file)) mk.marks ps (positions), length-append front (replicate per total ∷ []), length-runs per n P, many, rows_long)

  are_marks : AreMarks marks
  are_marks = record { some = some; few = few; complete = length-flat per mk.marks (ms_are) ∙ ap (λ (k : ℕ). k * per) (ms_many) }

  words : HaveWords marks
  words =
      record { offsets = mk.few_offsets; inners = inners_all file mk.marks ps (positions); rows = All-append (λ count. count < 2 ^ 64) granules (0 ∷ []) mk.few_rows (All-cons (λ count. count < 2 ^ 64) 0 [] (omega arith) (All-nil (λ count. count < 2 ^ 64))) }

  lists_are : entry_marks marks ≡ mk.marks
  lists_are = mark_runs_are per (length rows) (flat mk.marks) ∙ ap (λ (k : ℕ). runs per k (flat mk.marks)) (sym (ms_many)) ∙ runs_back per mk.marks (ms_are)

  read_back : option_map (marks_of per) (entries_reading per bytes) ≡ Some marks
  read_back = ap (λ (b : List ℕ). option_map (marks_of per) (entries_reading per b)) (mk.encoded ∙ ap (λ (ms : List (List Mark)). marks_bytes ms rows) (sym (lists_are))) ∙ written_read marks (are_marks) (words)

  placed : joined ps ≡ P ++ replicate per total
  placed = joined_last front (replicate per total) ∙ ap (λ (l : List ℕ). l ++ replicate per total) (runs_joined per n P (P_long))

  first : (l : List ℕ) → l ≡ joined ps → Begins None l
  first l e = by cut (omega (arith, not_empty, many, le_mul, length-flat per grouped are)) (e ∙ placed)
    where
      le_mul : 1 ≤ n * per
      le_mul = mul-le 1 1 n per (omega (arith, not_empty, many)) some

      by : (ps : List (List ℕ)) → 1 ≤ length ps → l ≡ offsets_from 0 (sizes_of ps) ++ replicate per total → Begins None l
      by [] h e = absurd (omega arith)
      by (p ∷ ps) h e = subst (Begins None) (sym e) refl

  rules : (es : List Entry) → HaveMarks per es → entry_lists es ≡ mk.marks → all_marks es ≡ flat mk.marks → all_rows es ≡ rows → rules_reading frames 0 0 None es ≡ Ok tt
  rules es have lists all_are rows_are =
      let on = offsets_rise 0 (flat mk.marks) (λ d h. omega arith) mk.order in
      let up : Rises 0 (joined ps) total = subst (λ (l : List ℕ). Rises 0 l total) (sym (placed)) (starts_rise 0 total (sizes_of cut) (replicate per total) (omega (arith, sum_sizes cut, total_is)) (copies_rise per total)) in
      let are_frames : AreFramesOf frames file = (blocks, is, list_is, end_is) in
      entries_read frames 0 0 None es ps (build_entries frames per 0 None es ps total on.0 some have
      (subst (λ (l : List (List Mark)). Pointwise (Pointwise (λ m n. position_of frames m ≡ Some n)) l ps) (sym lists) (all_found frames file are_frames mk.marks ps (positions)))
      up (subst (λ (l : List Mark). Rises 0 (map (λ (m : Mark). m.offset) l) on.0) (sym all_are) on.1) (first (joined ps) refl)
      (at_end (payload_len frames.list) front (replicate per total) (subst (λ (k : ℕ). All (λ n. n ≡ k) (replicate per total)) (sym (end)) (all_copies total per)))
      (subst (RowsFit 0) (sym rows_are) (rows_fit 0 granules all_some (omega (arith, small)))))

  pub marks_are_read : marks_reading per frames bytes ≡ Ok marks
  marks_are_read =
      let (es, is_read, same) = some_back per marks (entries_reading per bytes) (read_back) in
      let facts = entries_are per bytes es is_read in
      let have : HaveMarks per es = subst (HaveMarks per) (sym facts.0) (read_have per _ bytes) in
      let all_are : all_marks es ≡ flat mk.marks = ap (λ (m : Marks). m.places) same in
      let rows_are : all_rows es ≡ rows = ap (λ (m : Marks). m.rows) same in
      let es_many : length es ≡ length mk.marks = omega (arith, length-map es (λ (e : Entry). e.rows), ap (λ (l : List ℕ). length l) rows_are, ms_many) in
      let long : length (entry_lists es) ≡ length mk.marks = length-map es (λ (e : Entry). e.marks) ∙ es_many in
      let lists : entry_lists es ≡ mk.marks =
      sym (runs_back per (entry_lists es) (have_runs per es have)) ∙ ap (λ (k : ℕ). runs per k (flat (entry_lists es))) long ∙ ap (runs per (length mk.marks)) (lists_flat es ∙ all_are) ∙ runs_back per mk.marks (ms_are) in
      entries_ok per frames bytes es marks is_read (omega (arith, es_many, ms_many, rows_long, not_empty)) (rules es have lists all_are rows_are) same

  pub payloads_are_cut : frames_reading file ≡ Ok blocks → payloads_of file frames marks ≡ record { payloads = flat grouped; granules = granules }
  payloads_are_cut reads =
      let are_frames : AreFramesOf frames file = (blocks, is, list_is, end_is) in
      let granules_are : granules_of marks ≡ granules = take_at granules (0 ∷ []) (length rows - 1) (omega (arith, rows_long)) in
      let count : mark_count marks ≡ n * per = ap (λ (l : List ℕ). length l * per) granules_are ∙ ap (λ (k : ℕ). k * per) (sym many) in
      let places : positions_of frames marks ≡ P ++ replicate per total = positions_are frames (flat mk.marks) (joined ps) (joined_found frames mk.marks ps (all_found frames file are_frames mk.marks ps (positions))) ∙ placed in
      let (others, copied) = copies per total some in
      let taken : take (n * per + 1) (P ++ replicate per total) ≡ P ++ total ∷ [] = ap (λ (l : List ℕ). take (n * per + 1) (P ++ l)) copied ∙ take_one_more P others total (n * per) (P_long) in
      let payloads : pieces (payload_in file) (take (mark_count marks + 1) (positions_of frames marks)) ≡ cut =
      ap (λ (p : List ℕ). pieces p (take (mark_count marks + 1) (positions_of frames marks))) (payload_is file blocks reads ∙ paid)
      ∙ ap (λ (l : List ℕ). pieces (concat cut) (take (mark_count marks + 1) l)) places ∙ ap (λ (k : ℕ). pieces (concat cut) (take (k + 1) (P ++ replicate per total))) count
      ∙ ap (pieces (concat cut)) (taken ∙ ap (λ (k : ℕ). P ++ k ∷ []) (let z : total ≡ 0 + length (concat cut) = omega (arith, total_is) in z)) ∙ pieces_back [] cut 0 refl in
      ap (λ (p : List (List ℕ)). let r : GranulePayloads = record { payloads = p; granules = granules_of marks } in r) payloads
      ∙ ap (λ (g : List ℕ). let r : GranulePayloads = record { payloads = flat grouped; granules = g } in r) granules_are

pub payloads_read : (folder : Folder) (data_name marks_name : List ℕ) (per : ℕ) (grouped : List (List (List ℕ))) (granules : List ℕ) → 1 ≤ per → per ≤ 256 → AreRuns per grouped → length grouped ≡ length granules
    → HoldsPayloads folder data_name marks_name per grouped granules → 1 ≤ length granules → All (λ n. 1 ≤ n) granules → sum granules < 2 ^ 64
    → payloads_reading folder data_name marks_name per ≡ Ok (record { payloads = flat grouped; granules = granules })
payloads_read folder data_name marks_name per grouped granules some few are many holds not_empty all_some small =
    let file = holds.data_file in
    let bytes = holds.marks_file in
    let blocks = holds.framed.0 in
    let is = holds.framed.1 in
    let data_bytes = frames_are_bytes blocks file is in
    let own_bytes : AreBytes bytes = subst AreBytes (sym holds.marks.encoded) (marks_are_bytes holds.marks.marks (granules ++ 0 ∷ [])) in
    let whole = holds.framed.2 in
    let fr = frames_for file blocks is in
    let frames = fr.0 in
    let reads : frames_reading file ≡ Ok blocks = (read_exactly file blocks data_bytes).1 is in
    let framed : frames_in file ≡ Ok frames = frames_found file frames (then_of (frames_reading file) blocks (λ blocks. Ok (layout blocks)) reads ∙ ap (λ (fs : List Frame). Ok fs) (sym fr.1)) fr.2 in
    let marks : Marks = record { per_granule = per; places = flat holds.marks.marks; rows = granules ++ 0 ∷ [] } in
    let marked = marks_are_read file bytes per grouped granules blocks some few are many is whole holds.marks not_empty all_some small frames fr.1 fr.2 in
    then_of (file_reading folder data_name) file _ (file_is_read folder data_name file holds.has_data data_bytes)
    ∙ then_of (blame (frame_fault data_name) (frames_in file)) frames _ (ap (blame (frame_fault data_name)) framed)
    ∙ then_of (file_reading folder marks_name) bytes _ (file_is_read folder marks_name bytes holds.has_marks own_bytes)
    ∙ then_of (blame (marks_fault marks_name) (marks_reading per frames bytes)) marks _ (ap (blame (marks_fault marks_name)) marked)
    ∙ ap (λ (p : GranulePayloads). Ok p) (payloads_are_cut file bytes per grouped granules blocks some few are many is whole holds.marks not_empty all_some small frames fr.1 fr.2 reads)
