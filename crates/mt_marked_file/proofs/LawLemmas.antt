-- Files whose payloads are read are opened.
use Rattle.std.proofs.Common.{◌≡◌, ℕ, ◌≤◌, List, length, map, Option, Some, None, ap, sym, subst, ◌∙◌, arith}
use Rattle.std.specs.Prelude.{Result, Ok, nat_le, ◌==◌, ◌/◌, ◌%◌, option_map, sum, if◌then◌else◌, Bool}
use Rattle.std.proofs.lemmas.Bool.{le-leb, eq-eqb}
use Rattle.std.proofs.lemmas.List.{length-map}
use Rattle.mt_types.specs.Steps.{◌>>=◌, ok_or, require}
use Rattle.mt_types.proofs.StepLemmas.{ok_then, ok_one, then_of, passed}
use Rattle.mt_table.specs.declared.limits.TheConstants.{MAX_ROWS}
use Rattle.mt_fault.specs.declared.fault.Why.TheVariants as why
use Rattle.mt_fault.specs.Faults.{Judged, blame, file_fault}
use Rattle.mt_fault.proofs.FaultLemmas.{blame_ok}
use Rattle.mt_defs.specs.Folder.{Folder}
use Rattle.mt_frame.specs.declared.frames.Frames.{Frames}
use Rattle.mt_marks.specs.declared.marks.Marks.{Marks}
use Rattle.mt_marks.specs.Entries.{Entry}
use Rattle.mt_marks.specs.MarkReading.{entries_from, entries_reading, entry_len, marks_of, marks_reading}
use Rattle.mt_granules.specs.FileFaults.{file_reading, frame_fault, marks_fault}
use Rattle.mt_granules.specs.PayloadReading.{GranulePayloads, frames_in, granules_of, payloads_of, payloads_reading}
use Rattle.mt_granules.proofs.FileByteLemmas.{file_was_read}
use Rattle.mt_granules.proofs.MarksFileLemmas.{IsReadAs, marks_keep, marks_read}
use Rattle.mt_marked_file.specs.Opening.{IsOpened, counts_check, raw_reading}
use Rattle.mt_marked_file.proofs.OpeningLemmas.{marks_there, opens}

entries_there : (per : ℕ) (frames : Frames) (bytes : List ℕ) (marks : Marks) → (read : IsReadAs per frames bytes marks) → entries_reading per bytes ≡ Some read.entries
entries_there per frames bytes marks read =
    ap (λ (b : Bool). if b then Some (entries_from per (length bytes / entry_len per) bytes) else None) (eq-eqb (length bytes % entry_len per) 0 read.whole) ∙ ap (λ (es : List Entry). Some es) (sym read.are)

-- marks that keep the rules, of no more rows than a part may have
raw_marks_read : (name : List ℕ) (per : ℕ) (frames : Frames) (bytes : List ℕ) (marks : Marks) → marks_reading per frames bytes ≡ Ok marks → sum (granules_of marks) ≤ MAX_ROWS → raw_reading name per bytes ≡ Ok marks
raw_marks_read name per frames bytes marks marked few =
    let read = marks_read per frames bytes marks marked in
    let long : length marks.rows ≡ length read.entries = ap (λ (m : Marks). length m.rows) read.marks_are ∙ length-map read.entries (λ (e : Entry). e.rows) in
    let found : ok_or (file_fault name why.Length) (option_map (marks_of per) (entries_reading per bytes)) ≡ Ok marks =
    ap (λ (o : Option (List Entry)). ok_or (file_fault name why.Length) (option_map (marks_of per) o)) (entries_there per frames bytes marks read) ∙ ap (λ (m : Marks). let r : Judged Marks = Ok m in r) (sym read.marks_are) in
    then_of (ok_or (file_fault name why.Length) (option_map (marks_of per) (entries_reading per bytes))) marks (counts_check name) found
    ∙ passed (nat_le 2 (length marks.rows)) (file_fault name why.Length) _ (le-leb 2 (length marks.rows) (omega (arith, long, read.many)))
    ∙ passed (nat_le (sum (granules_of marks)) MAX_ROWS) (file_fault name why.TooLong) _ (le-leb (sum (granules_of marks)) MAX_ROWS few)

pub read_opens : (folder : Folder) (data_name marks_name : List ℕ) (per : ℕ) (read : GranulePayloads) → payloads_reading folder data_name marks_name per ≡ Ok read → sum read.granules ≤ MAX_ROWS → IsOpened folder data_name marks_name per read
read_opens folder data_name marks_name per read e few =
    ok_then (file_reading folder data_name) _ read e (λ file has_data e.
    ok_then (blame (frame_fault data_name) (frames_in file)) _ read e (λ frames framed e.
    ok_then (file_reading folder marks_name) _ read e (λ bytes has_marks e.
    ok_then (blame (marks_fault marks_name) (marks_reading per frames bytes)) _ read e (λ marks marked e.
    let data_at = file_was_read folder data_name file has_data in
    let marks_at = file_was_read folder marks_name bytes has_marks in
    let reads = blame_ok (marks_fault marks_name) (marks_reading per frames bytes) marks marked in
    let same : read ≡ payloads_of file frames marks = ok_one _ _ e in
    let raw = raw_marks_read marks_name per frames bytes marks reads (subst (λ (p : GranulePayloads). sum p.granules ≤ MAX_ROWS) same few) in
    record {
      file = file;
      frames = frames;
      marks = marks;
      there = data_at.has;
      opened = opens folder data_name marks_name per (length file) marks (ap (λ (o : Option (List ℕ)). option_map length o) data_at.has) (marks_there folder marks_name bytes per marks_at.has ∙ raw);
      bytes = data_at.bytes;
      framed = blame_ok (frame_fault data_name) (frames_in file) frames framed;
      ruled = marks_keep per frames bytes marks reads;
      payloads = same;
    }))))
