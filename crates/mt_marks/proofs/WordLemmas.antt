-- The numbers that are read of bytes fit their eight bytes.
use Rattle.std.proofs.Common.{◌≡◌, ℕ, zero, suc, ◌<◌, ◌^◌, ◌*◌, ◌/◌, ◌%◌, List, length, take, drop, sym, subst, arith}
use Rattle.std.specs.Prelude.{All, Some, None, if◌then◌else◌, Bool, true, false, ◌==◌}
use Rattle.std.specs.Int.{w64, from_le_bytes}
use Rattle.std.proofs.lemmas.List.Elements.{All-nil, All-cons, All-append}
use Rattle.mt_defs.specs.declared.mark.Mark.{Mark}
use Rattle.mt_defs.specs.Lists.{AreBytes}
use Rattle.mt_frame.proofs.BlockLemmas.{BytesAt, bytes_in_drop, bytes_in_take}
use Rattle.mt_frame.proofs.LawLemmas.{bytes_at}
use Rattle.mt_marks.specs.Entries.{Entry, HaveWords}
use Rattle.mt_marks.specs.MarkReading.{u64_at, entry_len, marks_from, entries_from, entries_reading, marks_of}
use Rattle.mt_marks.proofs.RawLemmas.{all_marks, all_rows, marks_none, marks_next, entries_none, entries_next}

eight_below : (bytes : List ℕ) → BytesAt bytes → from_le_bytes w64 bytes < 2 ^ 64
eight_below bytes are = omega (arith, are 0, are 1, are 2, are 3, are 4, are 5, are 6, are 7)

-- a number that stands in bytes
pub number_below : (offset : ℕ) (bytes : List ℕ) → BytesAt bytes → u64_at offset bytes < 2 ^ 64
number_below offset bytes are = eight_below (take 8 (drop offset bytes)) (bytes_in_take 8 (drop offset bytes) (bytes_in_drop bytes are offset))

-- a mark whose two numbers fit
pub record HasWords (mark : Mark) : Type 0 where
  pub offset : mark.offset < 2 ^ 64
  pub inner : mark.inner < 2 ^ 64

marks_fit : (n : ℕ) (bytes : List ℕ) → BytesAt bytes → All HasWords (marks_from n bytes)
marks_fit zero bytes are = subst (All HasWords) (sym (marks_none bytes)) (All-nil HasWords)
marks_fit (suc n) bytes are =
    let here : Mark = record { offset = u64_at 0 bytes; inner = u64_at 8 bytes } in
    subst (All HasWords) (sym (marks_next n bytes))
    (All-cons HasWords here (marks_from n (drop 16 bytes)) (record { offset = number_below 0 bytes are; inner = number_below 8 bytes are }) (marks_fit n (drop 16 bytes) (bytes_in_drop bytes are 16)))

-- the marks of all entries
pub places_fit : (per n : ℕ) (bytes : List ℕ) → BytesAt bytes → All HasWords (all_marks (entries_from per n bytes))
places_fit per zero bytes are = subst (λ (es : List Entry). All HasWords (all_marks es)) (sym (entries_none per bytes)) (All-nil HasWords)
places_fit per (suc n) bytes are =
    subst (λ (es : List Entry). All HasWords (all_marks es)) (sym (entries_next per n bytes))
    (All-append HasWords (marks_from per bytes) (all_marks (entries_from per n (drop (entry_len per) bytes))) (marks_fit per bytes are) (places_fit per n (drop (entry_len per) bytes) (bytes_in_drop bytes are (entry_len per))))

-- and their rows
pub rows_fit : (per n : ℕ) (bytes : List ℕ) → BytesAt bytes → All (λ count. count < 2 ^ 64) (all_rows (entries_from per n bytes))
rows_fit per zero bytes are = subst (λ (es : List Entry). All (λ count. count < 2 ^ 64) (all_rows es)) (sym (entries_none per bytes)) (All-nil (λ count. count < 2 ^ 64))
rows_fit per (suc n) bytes are =
    subst (λ (es : List Entry). All (λ count. count < 2 ^ 64) (all_rows es)) (sym (entries_next per n bytes))
    (All-cons (λ count. count < 2 ^ 64) (u64_at (16 * per) bytes) (all_rows (entries_from per n (drop (entry_len per) bytes))) (number_below (16 * per) bytes are)
    (rows_fit per n (drop (entry_len per) bytes) (bytes_in_drop bytes are (entry_len per))))

words_of : (per n : ℕ) (bytes : List ℕ) → BytesAt bytes → HaveWords (marks_of per (entries_from per n bytes))
words_of per n bytes are =
    let fit = places_fit per n bytes are in
    record { offsets = λ k d inside. (fit k d inside).offset; inners = λ k d inside. (fit k d inside).inner; rows = rows_fit per n bytes are }

pub words_read : (per : ℕ) (bytes : List ℕ) (entries : List Entry) → AreBytes bytes → entries_reading per bytes ≡ Some entries → HaveWords (marks_of per entries)
words_read per bytes entries are = by_size (length bytes % entry_len per == 0)
  where
    here : List Entry
    here = entries_from per (length bytes / entry_len per) bytes

    by_size : (whole : Bool) → (if whole then Some here else None) ≡ Some entries → HaveWords (marks_of per entries)
    by_size true e = let same : here ≡ entries = cc in subst (λ (es : List Entry). HaveWords (marks_of per es)) same (words_of per (length bytes / entry_len per) bytes (bytes_at bytes are))
    by_size false e = cc
