-- The marks file of a skip index is read as its marks, and its marks are read of it.
use Rattle.std.proofs.Common.{◌≡◌, ℕ, ◌*◌, ◌/◌, ◌%◌, ◌^◌, ◌<◌, Bool, List, [], ◌∷◌, ◌++◌, length, map, drop, refl, sym, ap, ◌∙◌, subst, append-nil, arith, length-append}
use Rattle.std.specs.Prelude.{All, Some, None, if◌then◌else◌}
use Rattle.std.specs.List.{flat_map}
use Rattle.std.proofs.Math.Nat.{mod-eq-sub-div-mul, div-mul-le_self, mul-mod_left, mul-div_cancel}
use Rattle.std.proofs.lemmas.Bool.{eq-eqb}
use Rattle.std.proofs.lemmas.Nat.{from_le_bytes-to_le_bytes_8}
use Rattle.std.proofs.lemmas.List.{drop_at}
use Rattle.std.proofs.lemmas.List.Elements.{All-head, All-tail}
use Rattle.mt_defs.specs.declared.mark.Mark.{Mark}
use Rattle.mt_defs.specs.Lists.{AreBytes}
use Rattle.mt_defs.specs.Marks.{entry_bytes, mark_bytes, marks_bytes, u64_bytes}
use Rattle.mt_defs.specs.SkipIndexes.{SkipMark, skip_mark_bytes}
use Rattle.mt_item.proofs.ExactLemmas.{small_of}
use Rattle.mt_marks.specs.Entries.{Entry}
use Rattle.mt_marks.specs.MarkReading.{entries_from, entries_reading, entry_len, marks_from, u64_at}
use Rattle.mt_marks.proofs.RawLemmas.{all_marks, all_rows, entries_next, entries_none, marks_next, marks_none}
use Rattle.mt_marks.proofs.WordLemmas.{words_read}
use Rattle.mt_granules.proofs.MarksBytesLemmas.{entry_lists, file_encodes}
use Rattle.mt_granules.proofs.MarksFileLemmas.{HaveMarks, entries_are, read_have}
use Rattle.mt_law_written.proofs.ListLemmas.{All-of_map}

abbrev pub mark_of : SkipMark → Mark
mark_of skip_mark = skip_mark.mark

-- ---- what is read is marks of an index

abbrev first_mark : List Mark → Mark
first_mark [] = record { offset = 0; inner = 0 }
first_mark (mark ∷ marks) = mark

abbrev as_skip_mark : Entry → SkipMark
as_skip_mark entry = record { mark = first_mark entry.marks; rows = entry.rows }

one_mark : (marks : List Mark) → length marks ≡ 1 → marks ≡ first_mark marks ∷ []
one_mark [] e = absurd (omega (arith, e))
one_mark (mark ∷ []) e = refl
one_mark (mark ∷ other ∷ marks) e = absurd (omega (arith, e))

one_bytes : (marks : List Mark) (rows : ℕ) → length marks ≡ 1 → entry_bytes marks rows ≡ mark_bytes (first_mark marks) ++ u64_bytes rows
one_bytes marks rows e =
    ap (λ (some : List Mark). entry_bytes some rows) (one_mark marks e) ∙ ap (λ (bytes : List ℕ). bytes ++ u64_bytes rows) (append-nil (mark_bytes (first_mark marks)))

same_bytes : (entries : List Entry) → HaveMarks 1 entries → marks_bytes (entry_lists entries) (all_rows entries) ≡ flat_map skip_mark_bytes (map as_skip_mark entries)
same_bytes [] have = refl
same_bytes (entry ∷ entries) have =
    ap (λ (bytes : List ℕ). bytes ++ marks_bytes (entry_lists entries) (all_rows entries)) (one_bytes entry.marks entry.rows have.0)
    ∙ ap (λ (bytes : List ℕ). skip_mark_bytes (as_skip_mark entry) ++ bytes) (same_bytes entries have.1)

same_marks : (entries : List Entry) → HaveMarks 1 entries → map mark_of (map as_skip_mark entries) ≡ all_marks entries
same_marks [] have = refl
same_marks (entry ∷ entries) have =
    ap (λ (marks : List Mark). first_mark entry.marks ∷ marks) (same_marks entries have.1) ∙ ap (λ (marks : List Mark). marks ++ all_marks entries) (sym (one_mark entry.marks have.0))

-- the bytes are marks of an index, and these are their marks
pub record AreSkipMarks (bytes : List ℕ) (marks : List Mark) : Type 0 where
  pub skip_marks : List SkipMark
  pub bytes_are : bytes ≡ flat_map skip_mark_bytes skip_marks
  pub marks_are : map mark_of skip_marks ≡ marks
  pub few_offsets : All (λ skip_mark. skip_mark.mark.offset < 2 ^ 64) skip_marks

pub skip_marks_are : (bytes : List ℕ) (entries : List Entry) → AreBytes bytes → entries_reading 1 bytes ≡ Some entries → AreSkipMarks bytes (all_marks entries)
skip_marks_are bytes entries are e =
    let read = entries_are 1 bytes entries e in
    let have : HaveMarks 1 entries = subst (HaveMarks 1) (sym read.0) (read_have 1 (length bytes / entry_len 1) bytes) in
    let whole = file_encodes 1 bytes entries (small_of bytes are) read.0 (omega (arith, read.1, mod-eq-sub-div-mul (length bytes) (entry_len 1), div-mul-le_self (length bytes) (entry_len 1))) in
    let skip_marks : List SkipMark = map as_skip_mark entries in
    let same = same_marks entries have in
    let few : All (λ (mark : Mark). mark.offset < 2 ^ 64) (map mark_of skip_marks) = subst (All (λ (mark : Mark). mark.offset < 2 ^ 64)) (sym same) (words_read 1 bytes entries are e).offsets in
    record { skip_marks = skip_marks; bytes_are = whole ∙ same_bytes entries have; marks_are = same; few_offsets = All-of_map (λ (mark : Mark). mark.offset < 2 ^ 64) mark_of skip_marks few }

-- ---- and back

-- its numbers fit eight bytes
pub record HasWords (skip_mark : SkipMark) : Type 0 where
  pub offset : skip_mark.mark.offset < 2 ^ 64
  pub inner : skip_mark.mark.inner < 2 ^ 64

length-skip_marks : (marks : List SkipMark) → length (flat_map skip_mark_bytes marks) ≡ length marks * entry_len 1
length-skip_marks [] = omega arith
length-skip_marks (mark ∷ marks) = length-append (skip_mark_bytes mark) (flat_map skip_mark_bytes marks) ∙ omega (arith, length-skip_marks marks)

first_read : (skip_mark : SkipMark) (rest : List ℕ) → HasWords skip_mark → marks_from 1 (skip_mark_bytes skip_mark ++ rest) ≡ skip_mark.mark ∷ []
first_read skip_mark rest has =
    let bytes : List ℕ = skip_mark_bytes skip_mark ++ rest in
    let offset : u64_at 0 bytes ≡ skip_mark.mark.offset = from_le_bytes-to_le_bytes_8 skip_mark.mark.offset has.offset in
    let inner : u64_at 8 bytes ≡ skip_mark.mark.inner = from_le_bytes-to_le_bytes_8 skip_mark.mark.inner has.inner in
    marks_next 0 bytes
    ∙ ap (λ (marks : List Mark). let m : Mark = record { offset = u64_at 0 bytes; inner = u64_at 8 bytes } in m ∷ marks) (marks_none (drop 16 bytes))
    ∙ ap (λ (n : ℕ). let m : Mark = record { offset = n; inner = u64_at 8 bytes } in m ∷ []) offset
    ∙ ap (λ (n : ℕ). let m : Mark = record { offset = skip_mark.mark.offset; inner = n } in m ∷ []) inner

all_read : (marks : List SkipMark) → All HasWords marks → all_marks (entries_from 1 (length marks) (flat_map skip_mark_bytes marks)) ≡ map mark_of marks
all_read [] have = ap all_marks (entries_none 1 [])
all_read (mark ∷ marks) have =
    let rest : List ℕ = flat_map skip_mark_bytes marks in
    let bytes : List ℕ = skip_mark_bytes mark ++ rest in
    ap all_marks (entries_next 1 (length marks) bytes)
    ∙ ap (λ (ms : List Mark). ms ++ all_marks (entries_from 1 (length marks) (drop (entry_len 1) bytes))) (first_read mark rest (All-head HasWords mark marks have))
    ∙ ap (λ (left : List ℕ). mark.mark ∷ all_marks (entries_from 1 (length marks) left)) (drop_at (skip_mark_bytes mark) rest (entry_len 1) refl)
    ∙ ap (λ (ms : List Mark). mark.mark ∷ ms) (all_read marks (All-tail HasWords mark marks have))

-- the entries that are read of the marks of an index
pub record AreRead (marks : List SkipMark) : Type 0 where
  pub entries : List Entry
  pub reads : entries_reading 1 (flat_map skip_mark_bytes marks) ≡ Some entries
  pub marks_are : all_marks entries ≡ map mark_of marks

pub skip_marks_read : (marks : List SkipMark) → All HasWords marks → AreRead marks
skip_marks_read marks have =
    let bytes : List ℕ = flat_map skip_mark_bytes marks in
    let long : length bytes ≡ length marks * entry_len 1 = length-skip_marks marks in
    let whole : length bytes % entry_len 1 ≡ 0 = ap (λ (n : ℕ). n % entry_len 1) long ∙ mul-mod_left (length marks) (entry_len 1) in
    let count : length bytes / entry_len 1 ≡ length marks = ap (λ (n : ℕ). n / entry_len 1) long ∙ mul-div_cancel (length marks) (omega arith) in
    record {
      entries = entries_from 1 (length marks) bytes;
      reads =
          ap (λ (b : Bool). if b then Some (entries_from 1 (length bytes / entry_len 1) bytes) else None) (eq-eqb (length bytes % entry_len 1) 0 whole)
          ∙ ap (λ (n : ℕ). Some (entries_from 1 n bytes)) count;
      marks_are = all_read marks have;
    }
