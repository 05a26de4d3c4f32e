-- Runs of frames one after another, and the marks of their granules.
use Rattle.std.proofs.Common.{◌≡◌, ℕ, zero, suc, ◌+◌, ◌*◌, List, [], ◌∷◌, ◌++◌, length, map, take, drop, refl, ap, sym, ◌∙◌, subst, arith, length-append, add-zero}
use Rattle.std.specs.Prelude.{◌≤◌, sum, replicate, All}
use Rattle.std.specs.List.{concat, flat_map}
use Rattle.std.proofs.lemmas.List.Concat.{flat_map-append}
use Rattle.std.proofs.lemmas.List.{append-nil, length-map, map-append, take_at, drop_at, length-replicate}
use Rattle.std.proofs.lemmas.List.Folds.{concat-append}
use Rattle.std.proofs.lemmas.List.Sums.{sum_by-cons, sum_by-append}
use Rattle.std.proofs.lemmas.List.Elements.{All-head, All-tail, All-nil, All-cons}
use Rattle.mt_defs.specs.declared.mark.Mark.{Mark}
use Rattle.mt_defs.specs.Lists.{offsets_from}
use Rattle.mt_defs.specs.Marks.{granule_starts, marks_bytes}
use Rattle.mt_defs.specs.WrittenFrames.{mark_at, written_marks, written_marks_bytes}
use Rattle.mt_marks.specs.declared.marks.TheConstants.{MAX_PER_GRANULE}
use Rattle.mt_marks.specs.Entries.{AreMarks, mark_runs}
use Rattle.mt_granules.specs.declared.data_file.DataFile.{DataFile}
use Rattle.mt_granules.specs.declared.data_file.MarkedData.{MarkedData}
use Rattle.mt_granules.specs.DataFiles.{data_file_of, AreRunsOf, marked_data}

-- ---- where runs begin

pub lengths : List (List ℕ) → List ℕ
lengths runs = map (λ (run : List ℕ). length run) runs

pub offsets-append : (offset : ℕ) (sizes more : List ℕ) → offsets_from offset (sizes ++ more) ≡ offsets_from offset sizes ++ offsets_from (offset + sum sizes) more
offsets-append offset [] more = ap (λ (n : ℕ). offsets_from n more) (sym (add-zero offset))
offsets-append offset (size ∷ sizes) more =
    let total : sum (size ∷ sizes) ≡ size + sum sizes = sum_by-cons (λ x. x) size sizes in
    let here : offset + size + sum sizes ≡ offset + sum (size ∷ sizes) = omega arith in
    ap (λ (l : List ℕ). offset ∷ l) (offsets-append (offset + size) sizes more ∙ ap (λ (n : ℕ). offsets_from (offset + size) sizes ++ offsets_from n more) here)

pub length-concat : (runs : List (List ℕ)) → length (concat runs) ≡ sum (map (λ (run : List ℕ). length run) runs)
length-concat [] = refl
length-concat (run ∷ runs) =
    let total : sum (map (λ (r : List ℕ). length r) (run ∷ runs)) ≡ length run + sum (map (λ (r : List ℕ). length r) runs) = sum_by-cons (λ x. x) (length run) (map (λ (r : List ℕ). length r) runs) in
    let more = length-concat runs in
    let all = length-append run (concat runs) in
    omega arith

file_same : (b c : List ℕ) (m n : List Mark) → b ≡ c → m ≡ n → (let f : DataFile = record { bytes = b; marks = m } in f) ≡ record { bytes = c; marks = n }
file_same b c m n e f = rw (e, f) refl

-- one run more
pub pushed : (bytes after run : List ℕ) (marks more : List Mark) (mark : Mark) (runs : List (List ℕ)) → mark ≡ mark_at (length bytes) → after ≡ bytes ++ run → more ≡ marks ++ mark ∷ []
    → (let f : DataFile = record { bytes = bytes; marks = marks } in f) ≡ data_file_of runs → (let f : DataFile = record { bytes = after; marks = more } in f) ≡ data_file_of (runs ++ run ∷ [])
pushed bytes after run marks more mark runs here next push is =
    let bytes_are : bytes ≡ concat runs = ap (λ (f : DataFile). f.bytes) is in
    let marks_are : marks ≡ map mark_at (offsets_from 0 (map (λ (r : List ℕ). length r) runs)) = ap (λ (f : DataFile). f.marks) is in
    let one : concat (run ∷ []) ≡ run = append-nil run in
    let long : length bytes ≡ sum (map (λ (r : List ℕ). length r) runs) = ap (λ (b : List ℕ). length b) bytes_are ∙ length-concat runs in
    let start : length bytes ≡ 0 + sum (map (λ (r : List ℕ). length r) runs) = omega arith in
    let offsets : offsets_from 0 (map (λ (r : List ℕ). length r) (runs ++ run ∷ [])) ≡ offsets_from 0 (map (λ (r : List ℕ). length r) runs) ++ length bytes ∷ [] =
    ap (λ (l : List ℕ). offsets_from 0 l) (map-append (λ (r : List ℕ). length r) runs (run ∷ []))
    ∙ offsets-append 0 (map (λ (r : List ℕ). length r) runs) (length run ∷ [])
    ∙ ap (λ (n : ℕ). offsets_from 0 (map (λ (r : List ℕ). length r) runs) ++ n ∷ []) (sym start) in
    file_same after (concat (runs ++ run ∷ [])) more (map mark_at (offsets_from 0 (map (λ (r : List ℕ). length r) (runs ++ run ∷ []))))
    (next ∙ ap (λ (b : List ℕ). b ++ run) bytes_are ∙ ap (λ (b : List ℕ). concat runs ++ b) (sym one) ∙ sym (concat-append runs (run ∷ [])))
    (push ∙ ap (λ (l : List Mark). l ++ mark ∷ []) marks_are ∙ ap (λ (m : Mark). map mark_at (offsets_from 0 (map (λ (r : List ℕ). length r) runs)) ++ m ∷ []) here
    ∙ sym (ap (λ (l : List ℕ). map mark_at l) offsets ∙ map-append mark_at (offsets_from 0 (map (λ (r : List ℕ). length r) runs)) (length bytes ∷ [])))

-- ---- the marks of granules

abbrev all_sizes : List (List (List ℕ)) → List (List ℕ)
all_sizes runs = map (λ (granule : List (List ℕ)). map (λ (run : List ℕ). length run) granule) runs

-- lists one after another
abbrev joined : {X : Type 0} → List (List X) → List X
joined lists = flat_map (λ list. list) lists

joined-map : {X Y : Type 0} (f : X → Y) (xss : List (List X)) → joined (map (map f) xss) ≡ map f (joined xss)
joined-map f [] = refl
joined-map f (xs ∷ xss) = ap (λ l. map f xs ++ l) (joined-map f xss) ∙ sym (map-append f xs (joined xss))

concat-joined : (runs : List (List (List ℕ))) → concat (joined runs) ≡ concat (map concat runs)
concat-joined [] = refl
concat-joined (granule ∷ runs) = concat-append granule (joined runs) ∙ ap (λ (l : List ℕ). concat granule ++ l) (concat-joined runs)

-- runs of marks of joined lists are the lists
runs_of_joined : (per : ℕ) (lists : List (List Mark)) → All (λ list. length list ≡ per) lists → mark_runs per (length lists) (joined lists) ≡ lists
runs_of_joined per [] are = refl
runs_of_joined per (list ∷ lists) are =
    let long : length list ≡ per = All-head (λ (l : List Mark). length l ≡ per) list lists are in
    let first : take per (list ++ joined lists) ≡ list = take_at list (joined lists) per long in
    let rest : drop per (list ++ joined lists) ≡ joined lists = drop_at list (joined lists) per long in
    ap (λ (l : List Mark). l ∷ mark_runs per (length lists) (drop per (list ++ joined lists))) first
    ∙ ap (λ (l : List Mark). list ∷ mark_runs per (length lists) l) rest
    ∙ ap (λ (l : List (List Mark)). list ∷ l) (runs_of_joined per lists (All-tail (λ (l : List Mark). length l ≡ per) list lists are))

pub length-offsets : (offset : ℕ) (sizes : List ℕ) → length (offsets_from offset sizes) ≡ length sizes
length-offsets offset [] = refl
length-offsets offset (size ∷ sizes) = ap suc (length-offsets (offset + size) sizes)

starts_complete : (per offset : ℕ) (runs : List (List (List ℕ))) → All (λ granule. length granule ≡ per) runs → All (λ list. length list ≡ per) (map (map mark_at) (granule_starts offset (all_sizes runs)))
starts_complete per offset [] are = All-nil (λ (l : List Mark). length l ≡ per)
starts_complete per offset (granule ∷ runs) are =
    let sizes = map (λ (run : List ℕ). length run) granule in
    let long : length (map mark_at (offsets_from offset sizes)) ≡ per =
    length-map (offsets_from offset sizes) mark_at ∙ length-offsets offset sizes ∙ length-map granule (λ (run : List ℕ). length run) ∙ All-head (λ (g : List (List ℕ)). length g ≡ per) granule runs are in
    All-cons (λ (l : List Mark). length l ≡ per) (map mark_at (offsets_from offset sizes)) (map (map mark_at) (granule_starts (offset + sum sizes) (all_sizes runs))) long
    (starts_complete per (offset + sum sizes) runs (All-tail (λ (g : List (List ℕ)). length g ≡ per) granule runs are))

all_more : (P : List Mark → Type 0) (lists : List (List Mark)) (last : List Mark) → All P lists → P last → All P (lists ++ last ∷ [])
all_more P [] last are is = All-cons P last [] is (All-nil P)
all_more P (list ∷ lists) last are is = All-cons P list (lists ++ last ∷ []) (All-head P list lists are) (all_more P lists last (All-tail P list lists are) is)

-- where the granules' runs begin is where all runs begin
starts_joined : (offset : ℕ) (runs : List (List (List ℕ))) → offsets_from offset (map (λ (run : List ℕ). length run) (joined runs)) ≡ joined (granule_starts offset (all_sizes runs))
starts_joined offset [] = refl
starts_joined offset (granule ∷ runs) =
    let sizes = map (λ (run : List ℕ). length run) granule in
    ap (λ (l : List ℕ). offsets_from offset l) (map-append (λ (run : List ℕ). length run) granule (joined runs))
    ∙ offsets-append offset sizes (map (λ (run : List ℕ). length run) (joined runs))
    ∙ ap (λ (l : List ℕ). offsets_from offset sizes ++ l) (starts_joined (offset + sum sizes) runs)

sums_joined : (runs : List (List (List ℕ))) → sum (map (λ (run : List ℕ). length run) (joined runs)) ≡ sum (map sum (all_sizes runs))
sums_joined [] = refl
sums_joined (granule ∷ runs) =
    let sizes = map (λ (run : List ℕ). length run) granule in
    let both : sum (sizes ++ map (λ (run : List ℕ). length run) (joined runs)) ≡ sum sizes + sum (map (λ (run : List ℕ). length run) (joined runs)) = sum_by-append (λ x. x) sizes (map (λ (run : List ℕ). length run) (joined runs)) in
    let total : sum (map sum (all_sizes (granule ∷ runs))) ≡ sum sizes + sum (map sum (all_sizes runs)) = sum_by-cons (λ x. x) (sum sizes) (map sum (all_sizes runs)) in
    let more = sums_joined runs in
    ap (λ (l : List ℕ). sum l) (map-append (λ (run : List ℕ). length run) granule (joined runs)) ∙ omega arith

length-starts : (offset : ℕ) (sizes : List (List ℕ)) → length (granule_starts offset sizes) ≡ length sizes
length-starts offset [] = refl
length-starts offset (s ∷ sizes) = ap suc (length-starts (offset + sum s) sizes)

map-replicate : (n offset : ℕ) → map mark_at (replicate n offset) ≡ replicate n (mark_at offset)
map-replicate zero offset = refl
map-replicate (suc n) offset = ap (λ (l : List Mark). mark_at offset ∷ l) (map-replicate n offset)

-- ---- together

-- the marks of all granules, one entry each, and those of the end
marks_joined : (per : ℕ) (runs : List (List (List ℕ))) → joined (written_marks per (all_sizes runs)) ≡ map mark_at (offsets_from 0 (map (λ (run : List ℕ). length run) (joined runs))) ++ replicate per (mark_at (length (concat (map concat runs))))
marks_joined per runs =
    let starts = granule_starts 0 (all_sizes runs) in
    let total = sum (map sum (all_sizes runs)) in
    let end : total ≡ length (concat (map concat runs)) = sym (ap (λ (l : List ℕ). length l) (sym (concat-joined runs)) ∙ length-concat (joined runs) ∙ sums_joined runs) in
    joined-map mark_at (starts ++ replicate per total ∷ [])
    ∙ ap (λ (l : List ℕ). map mark_at l) (flat_map-append (λ (l : List ℕ). l) starts (replicate per total ∷ []) ∙ ap (λ (l : List ℕ). joined starts ++ l) (append-nil (replicate per total)))
    ∙ map-append mark_at (joined starts) (replicate per total)
    ∙ ap (λ (l : List ℕ). map mark_at l ++ map mark_at (replicate per total)) (sym (starts_joined 0 runs))
    ∙ ap (λ (l : List Mark). map mark_at (offsets_from 0 (map (λ (run : List ℕ). length run) (joined runs))) ++ l) (map-replicate per total ∙ ap (λ (n : ℕ). replicate per (mark_at n)) end)

marks_complete : (per : ℕ) (runs : List (List (List ℕ))) → All (λ granule. length granule ≡ per) runs → All (λ list. length list ≡ per) (written_marks per (all_sizes runs))
marks_complete per runs are =
    let starts = granule_starts 0 (all_sizes runs) in
    let total = sum (map sum (all_sizes runs)) in
    let P : List Mark → Type 0 = λ list. length list ≡ per in
    let last : length (map mark_at (replicate per total)) ≡ per = length-map (replicate per total) mark_at ∙ length-replicate per total in
    subst (λ (l : List (List Mark)). All P l) (sym (map-append (map mark_at) starts (replicate per total ∷ [])))
    (all_more P (map (map mark_at) starts) (map mark_at (replicate per total)) (starts_complete per 0 runs are) last)

length-marks : (per : ℕ) (runs : List (List (List ℕ))) → length (written_marks per (all_sizes runs)) ≡ length runs + 1
length-marks per runs =
    let starts = granule_starts 0 (all_sizes runs) in
    let total = sum (map sum (all_sizes runs)) in
    length-map (starts ++ replicate per total ∷ []) (map mark_at) ∙ length-append starts (replicate per total ∷ [])
    ∙ ap (λ (n : ℕ). n + 1) (length-starts 0 (all_sizes runs) ∙ length-map runs (λ (granule : List (List ℕ)). map (λ (run : List ℕ). length run) granule))

-- the entries of the marks are those of the definition
pub entries_are : (per : ℕ) (runs : List (List (List ℕ))) (granules rows : List ℕ) (marks places : List Mark) (end : ℕ) → AreRunsOf per runs granules
    → marks ≡ map mark_at (offsets_from 0 (map (λ (run : List ℕ). length run) (joined runs))) → end ≡ length (concat (joined runs)) → places ≡ marks ++ replicate per (mark_at end) → rows ≡ granules ++ 0 ∷ []
    → marks_bytes (mark_runs per (length rows) places) rows ≡ written_marks_bytes per (all_sizes runs) granules
entries_are per runs granules rows marks places end are marks_is end_is places_is rows_is =
    let lists = written_marks per (all_sizes runs) in
    let flat : places ≡ joined lists =
    places_is ∙ ap (λ (l : List Mark). l ++ replicate per (mark_at end)) marks_is
    ∙ ap (λ (n : ℕ). map mark_at (offsets_from 0 (map (λ (run : List ℕ). length run) (joined runs))) ++ replicate per (mark_at n)) (end_is ∙ ap (λ (l : List ℕ). length l) (concat-joined runs))
    ∙ sym (marks_joined per runs) in
    let count : length rows ≡ length lists = ap (λ (l : List ℕ). length l) rows_is ∙ length-append granules (0 ∷ []) ∙ ap (λ (n : ℕ). n + 1) (sym are.one_each) ∙ sym (length-marks per runs) in
    ap (λ (n : ℕ). marks_bytes (mark_runs per n places) rows) count ∙ ap (λ (l : List Mark). marks_bytes (mark_runs per (length lists) l) rows) flat
    ∙ ap (λ (l : List (List Mark)). marks_bytes l rows) (runs_of_joined per lists (marks_complete per runs are.complete)) ∙ ap (λ (l : List ℕ). marks_bytes lists l) rows_is

data_same : (b c m n : List ℕ) → b ≡ c → m ≡ n → (let f : MarkedData = record { bytes = b; marks = m } in f) ≡ record { bytes = c; marks = n }
data_same b c m n e f = rw (e, f) refl

-- what is finished is the definition's two files
pub finished : (per : ℕ) (runs : List (List (List ℕ))) (granules rows written bytes : List ℕ) (file : DataFile) (places : List Mark) (end : ℕ) → AreRunsOf per runs granules → file ≡ data_file_of (joined runs)
    → bytes ≡ file.bytes → end ≡ length file.bytes → places ≡ file.marks ++ replicate per (mark_at end) → rows ≡ granules ++ 0 ∷ [] → written ≡ marks_bytes (mark_runs per (length rows) places) rows
    → (let f : MarkedData = record { bytes = bytes; marks = written } in f) ≡ marked_data per runs granules
finished per runs granules rows written bytes file places end are is same end_is places_is rows_is written_is =
    let bytes_are : file.bytes ≡ concat (joined runs) = ap (λ (f : DataFile). f.bytes) is in
    let marks_are : file.marks ≡ map mark_at (offsets_from 0 (map (λ (run : List ℕ). length run) (joined runs))) = ap (λ (f : DataFile). f.marks) is in
    data_same bytes (concat (map concat runs)) written (written_marks_bytes per (all_sizes runs) granules) (same ∙ bytes_are ∙ concat-joined runs)
    (written_is ∙ entries_are per runs granules rows file.marks places end are marks_are (end_is ∙ ap (λ (l : List ℕ). length l) bytes_are) places_is rows_is)

-- as many marks as the entries are to have
pub complete_marks : (per : ℕ) (granules rows : List ℕ) (marks places : List Mark) (end : ℕ) → 1 ≤ per → per ≤ MAX_PER_GRANULE → length marks ≡ length granules * per → places ≡ marks ++ replicate per (mark_at end) → rows ≡ granules ++ 0 ∷ []
    → AreMarks (record { per_granule = per; places = places; rows = rows })
complete_marks per granules rows marks places end some few complete places_is rows_is =
    let long : length places ≡ length marks + per = ap (λ (l : List Mark). length l) places_is ∙ length-append marks (replicate per (mark_at end)) ∙ ap (λ (n : ℕ). length marks + n) (length-replicate per (mark_at end)) in
    let count : length rows ≡ length granules + 1 = ap (λ (l : List ℕ). length l) rows_is ∙ length-append granules (0 ∷ []) in
    record { some = some; few = few; complete = long ∙ ap (λ (n : ℕ). n + per) complete ∙ sym (ap (λ (n : ℕ). n * per) count ∙ one_more (length granules) per) }
  where
    one_more : (n size : ℕ) → (n + 1) * size ≡ n * size + size
    one_more n size = grind arith
