-- The two files of a skip index: the frames of the one, and the marks of the other.
use Rattle.std.proofs.Common.{◌≡◌, ℕ, List, length, map, refl, sym, ap, ◌∙◌, Option, Some, None}
use Rattle.std.specs.Prelude.{Result, Ok, Err, option_map, ◌==◌}
use Rattle.std.specs.List.{flat_map}
use Rattle.std.proofs.lemmas.Bool.{eqb-true, eq-eqb}
use Rattle.std.proofs.lemmas.List.{length-map}
use Rattle.mt_fault.specs.declared.fault.Fault.{Fault}
use Rattle.mt_fault.specs.declared.fault.Why.TheVariants as why
use Rattle.mt_types.specs.Steps.{◌>>=◌, ok_or, require}
use Rattle.mt_types.proofs.StepLemmas.{ok_one, ok_then, passed, required, then_of}
use Rattle.mt_defs.specs.declared.mark.Mark.{Mark}
use Rattle.mt_defs.specs.Folder.{Folder}
use Rattle.mt_defs.specs.Frames.{Block, IsFileOf}
use Rattle.mt_defs.specs.SkipIndexes.{SkipMark, skip_mark_bytes}
use Rattle.mt_frame.specs.declared.fault.FrameWhy.{FrameWhy}
use Rattle.mt_frame.specs.FrameReading.{frames_reading}
use Rattle.mt_frame.proofs.LawLemmas.{read_exactly}
use Rattle.mt_marks.specs.declared.marks.Marks.{Marks}
use Rattle.mt_marks.specs.Entries.{Entry}
use Rattle.mt_marks.specs.MarkReading.{entries_reading, marks_of}
use Rattle.mt_marks.proofs.RawLemmas.{all_marks}
use Rattle.mt_fault.specs.Faults.{blame, file_fault}
use Rattle.mt_granules.specs.FileFaults.{file_reading, frame_fault}
use Rattle.mt_granules.proofs.FileByteLemmas.{file_is_read, file_was_read, frames_are_bytes}
use Rattle.mt_files.specs.SkipMarks.{blocks_reading, skip_marks_reading}
use Rattle.mt_files.proofs.FrameLemmas.{read_of_file}
use Rattle.mt_law_checked.proofs.SkipBytes.{AreRead, mark_of}

-- ---- the frames

blame_ok : {A : Type 0} (name : List ℕ) (reading : Result A (ℕ × FrameWhy)) (x : A) → blame (frame_fault name) reading ≡ Ok x → reading ≡ Ok x
blame_ok {A} name (Ok y) x e = ap (λ (a : A). let r : Result A (ℕ × FrameWhy) = Ok a in r) (sym (ok_one y x e))
blame_ok name (Err w) x e = cc

pub record HasBlocks (folder : Folder) (name : List ℕ) (blocks : List Block) : Type 0 where
  pub file : List ℕ
  pub has : folder name ≡ Some file
  pub is : IsFileOf blocks file

pub blocks_held : (folder : Folder) (name : List ℕ) (blocks : List Block) → blocks_reading folder name ≡ Ok blocks → HasBlocks folder name blocks
blocks_held folder name blocks e =
    ok_then (file_reading folder name) (λ bytes. blame (frame_fault name) (frames_reading bytes)) blocks e (λ file there read.
    let has = file_was_read folder name file there in
    record { file = file; has = has.has; is = (read_exactly file blocks has.bytes).0 (blame_ok name (frames_reading file) blocks read) })

pub blocks_there : (folder : Folder) (name file : List ℕ) (blocks : List Block) → folder name ≡ Some file → IsFileOf blocks file → blocks_reading folder name ≡ Ok blocks
blocks_there folder name file blocks has is =
    then_of (file_reading folder name) file (λ bytes. blame (frame_fault name) (frames_reading bytes)) (file_is_read folder name file has (frames_are_bytes blocks file is)) ∙ ap (blame (frame_fault name)) (read_of_file file blocks is)

-- ---- the marks

pub record HasEntries (bytes : List ℕ) (count : ℕ) (marks : List Mark) : Type 0 where
  pub entries : List Entry
  pub reads : entries_reading 1 bytes ≡ Some entries
  pub are : marks ≡ all_marks entries
  pub many : length marks ≡ count

abbrev after_count : Marks → Unit {0} → Result (List Mark) Fault
after_count marks _ = Ok marks.places

abbrev after_numbers : List ℕ → ℕ → Marks → Result (List Mark) Fault
after_numbers file count marks = require (length marks.places == count) (file_fault file why.Length) >>= after_count marks

numbers_of : (fault : Fault) (found : Option (List Entry)) (marks : Marks) → ok_or fault (option_map (marks_of 1) found) ≡ Ok marks → (entries : List Entry) × (found ≡ Some entries) × (marks ≡ marks_of 1 entries)
numbers_of fault (Some entries) marks e = (entries, refl, ok_one _ _ e)
numbers_of fault None marks e = cc

pub marks_held : (file : List ℕ) (count : ℕ) (bytes : List ℕ) (marks : List Mark) → skip_marks_reading file count bytes ≡ Ok marks → HasEntries bytes count marks
marks_held file count bytes marks e =
    ok_then (ok_or (file_fault file why.Length) (option_map (marks_of 1) (entries_reading 1 bytes))) (after_numbers file count) marks e (λ numbers found e.
    required (length numbers.places == count) (file_fault file why.Length) (after_count numbers) marks e (λ many e.
    let (entries, reads, are) = numbers_of (file_fault file why.Length) (entries_reading 1 bytes) numbers found in
    let same : marks ≡ numbers.places = ok_one _ _ e in
    record { entries = entries; reads = reads; are = same ∙ ap (λ (m : Marks). m.places) are; many = ap (λ (ms : List Mark). length ms) same ∙ eqb-true (length numbers.places) count many }))

pub marks_there : (file : List ℕ) (count : ℕ) (marks : List SkipMark) → AreRead marks → length marks ≡ count → skip_marks_reading file count (flat_map skip_mark_bytes marks) ≡ Ok (map mark_of marks)
marks_there file count marks read many =
    let bytes : List ℕ = flat_map skip_mark_bytes marks in
    let numbers : Marks = marks_of 1 read.entries in
    let long : length numbers.places ≡ count = ap (λ (ms : List Mark). length ms) read.marks_are ∙ length-map marks mark_of ∙ many in
    then_of (ok_or (file_fault file why.Length) (option_map (marks_of 1) (entries_reading 1 bytes))) numbers (after_numbers file count) (ap (λ (found : Option (List Entry)). ok_or (file_fault file why.Length) (option_map (marks_of 1) found)) read.reads)
    ∙ passed (length numbers.places == count) (file_fault file why.Length) (after_count numbers) (eq-eqb (length numbers.places) count long)
    ∙ ap (λ (ms : List Mark). let r : Result (List Mark) Fault = Ok ms in r) read.marks_are
