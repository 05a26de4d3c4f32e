-- What is written of marks is read.
use Rattle.std.proofs.Common.{◌≡◌, ℕ, suc, ◌*◌, ◌/◌, ◌%◌, ◌^◌, ◌<◌, Bool, List, [], ◌∷◌, ◌++◌, length, take, drop, refl, ap, sym, ◌∙◌, append_assoc, arith, length-append}
use Rattle.std.specs.Prelude.{Some, None, option_map, if◌then◌else◌, All}
use Rattle.std.specs.List.{flat_map}
use Rattle.std.specs.Int.{w64, from_le_bytes}
use Rattle.std.proofs.lemmas.Bool.{eq-eqb}
use Rattle.std.proofs.lemmas.Nat.{from_le_bytes-to_le_bytes_8}
use Rattle.std.proofs.Math.Nat.{mul-mod_left, mul-div_cancel}
use Rattle.std.proofs.lemmas.List.{take-append-drop, length-drop, length-take-le, drop_at}
use Rattle.std.proofs.lemmas.List.Elements.{All-head, All-tail, All-take, All-drop}
use Rattle.mt_defs.specs.declared.mark.Mark.{Mark}
use Rattle.mt_defs.specs.Marks.{mark_bytes, u64_bytes, entry_bytes, marks_bytes}
use Rattle.mt_marks.specs.declared.marks.Marks.{Marks}
use Rattle.mt_marks.specs.Entries.{Entry, AreMarks, HaveWords, entry_marks, entries_in}
use Rattle.mt_marks.specs.MarkReading.{u64_at, entry_len, marks_from, entries_from, entries_reading, marks_of}
use Rattle.mt_marks.proofs.RawLemmas.{all_marks, all_rows, marks_none, marks_next, entries_none, entries_next}
use Rattle.mt_marks.proofs.WritingLemmas.{rest_bytes}

-- numbers of eight bytes
record AreWords (marks : List Mark) : Type 0 where
  offsets : All (λ mark. mark.offset < 2 ^ 64) marks
  inners : All (λ mark. mark.inner < 2 ^ 64) marks

words_tail : (m : Mark) (ms : List Mark) → AreWords (m ∷ ms) → AreWords ms
words_tail m ms are = record { offsets = All-tail (λ (n : Mark). n.offset < 2 ^ 64) m ms are.offsets; inners = All-tail (λ (n : Mark). n.inner < 2 ^ 64) m ms are.inners }

length-marks : (ms : List Mark) → length (flat_map mark_bytes ms) ≡ 16 * length ms
length-marks [] = omega arith
length-marks (m ∷ ms) = length-append (mark_bytes m) (flat_map mark_bytes ms) ∙ omega (arith, length-marks ms)

-- the marks at the start of what is written
marks_read : (ms : List Mark) (rest : List ℕ) → AreWords ms → marks_from (length ms) (flat_map mark_bytes ms ++ rest) ≡ ms
marks_read [] rest are = marks_none rest
marks_read (m ∷ ms) rest are =
    let more : List ℕ = flat_map mark_bytes ms ++ rest in
    let offset : from_le_bytes w64 (u64_bytes m.offset) ≡ m.offset = from_le_bytes-to_le_bytes_8 m.offset (All-head (λ (n : Mark). n.offset < 2 ^ 64) m ms are.offsets) in
    let inner : from_le_bytes w64 (u64_bytes m.inner) ≡ m.inner = from_le_bytes-to_le_bytes_8 m.inner (All-head (λ (n : Mark). n.inner < 2 ^ 64) m ms are.inners) in
    ap (λ (bytes : List ℕ). marks_from (suc (length ms)) bytes) (append_assoc (mark_bytes m) (flat_map mark_bytes ms) rest)
    ∙ marks_next (length ms) (mark_bytes m ++ more)
    ∙ ap (λ (k : ℕ). let n : Mark = record { offset = k; inner = from_le_bytes w64 (u64_bytes m.inner) } in n ∷ marks_from (length ms) more) offset
    ∙ ap (λ (k : ℕ). let n : Mark = record { offset = m.offset; inner = k } in n ∷ marks_from (length ms) more) inner
    ∙ ap (λ (ns : List Mark). m ∷ ns) (marks_read ms rest (words_tail m ms are))

record IsCut (per : ℕ) (places : List Mark) (rows : List ℕ) : Type 0 where
  long : length places ≡ length rows * per
  words : AreWords places
  counts : All (λ count. count < 2 ^ 64) rows

cut_first : (per : ℕ) (places : List Mark) (r : ℕ) (rows : List ℕ) → IsCut per places (r ∷ rows) → length (take per places) ≡ per
cut_first per places r rows is = length-take-le per places (omega (arith, is.long))

cut_rest : (per : ℕ) (places : List Mark) (r : ℕ) (rows : List ℕ) → IsCut per places (r ∷ rows) → IsCut per (drop per places) rows
cut_rest per places r rows is = record {
  long = length-drop per places ∙ omega (arith, is.long);
  words = record { offsets = All-drop (λ (n : Mark). n.offset < 2 ^ 64) per places is.words.offsets; inners = All-drop (λ (n : Mark). n.inner < 2 ^ 64) per places is.words.inners };
  counts = All-tail (λ count. count < 2 ^ 64) r rows is.counts;
}

length-entry : (ms : List Mark) (r : ℕ) → length (entry_bytes ms r) ≡ entry_len (length ms)
length-entry ms r = length-append (flat_map mark_bytes ms) (u64_bytes r) ∙ omega (arith, length-marks ms)

length-written : (per : ℕ) (places : List Mark) (rows : List ℕ) → IsCut per places rows → length (rest_bytes per places rows) ≡ length rows * entry_len per
length-written per places [] is = omega arith
length-written per places (r ∷ rows) is =
    length-append (entry_bytes (take per places) r) (rest_bytes per (drop per places) rows)
    ∙ omega (arith, length-entry (take per places) r, cut_first per places r rows is, length-written per (drop per places) rows (cut_rest per places r rows is))

entries_read : (per : ℕ) (places : List Mark) (rows : List ℕ) → IsCut per places rows → entries_from per (length rows) (rest_bytes per places rows) ≡ entries_in per places rows
entries_read per places [] is = entries_none per []
entries_read per places (r ∷ rows) is =
    let ms : List Mark = take per places in
    let more : List ℕ = rest_bytes per (drop per places) rows in
    let first = cut_first per places r rows is in
    let words : AreWords ms = record { offsets = All-take (λ (n : Mark). n.offset < 2 ^ 64) per places is.words.offsets; inners = All-take (λ (n : Mark). n.inner < 2 ^ 64) per places is.words.inners } in
    let whole : entry_bytes ms r ++ more ≡ flat_map mark_bytes ms ++ (u64_bytes r ++ more) = append_assoc (flat_map mark_bytes ms) (u64_bytes r) more in
    let marks : marks_from per (entry_bytes ms r ++ more) ≡ ms =
    ap (λ (bytes : List ℕ). marks_from per bytes) whole ∙ ap (λ (k : ℕ). marks_from k (flat_map mark_bytes ms ++ (u64_bytes r ++ more))) (sym first) ∙ marks_read ms (u64_bytes r ++ more) words in
    let after : drop (16 * per) (entry_bytes ms r ++ more) ≡ u64_bytes r ++ more =
    ap (λ (bytes : List ℕ). drop (16 * per) bytes) whole ∙ drop_at (flat_map mark_bytes ms) (u64_bytes r ++ more) (16 * per) (length-marks ms ∙ ap (λ (k : ℕ). 16 * k) first) in
    let count : u64_at (16 * per) (entry_bytes ms r ++ more) ≡ r =
    ap (λ (bytes : List ℕ). from_le_bytes w64 (take 8 bytes)) after ∙ from_le_bytes-to_le_bytes_8 r (All-head (λ count. count < 2 ^ 64) r rows is.counts) in
    let left : drop (entry_len per) (entry_bytes ms r ++ more) ≡ more = drop_at (entry_bytes ms r) more (entry_len per) (length-entry ms r ∙ ap (λ (k : ℕ). entry_len k) first) in
    entries_next per (length rows) (entry_bytes ms r ++ more)
    ∙ ap (λ (xs : List Mark). let e : Entry = record { marks = xs; rows = u64_at (16 * per) (entry_bytes ms r ++ more) } in e ∷ entries_from per (length rows) (drop (entry_len per) (entry_bytes ms r ++ more))) marks
    ∙ ap (λ (k : ℕ). let e : Entry = record { marks = ms; rows = k } in e ∷ entries_from per (length rows) (drop (entry_len per) (entry_bytes ms r ++ more))) count
    ∙ ap (λ (bytes : List ℕ). let e : Entry = record { marks = ms; rows = r } in e ∷ entries_from per (length rows) bytes) left
    ∙ ap (λ (es : List Entry). let e : Entry = record { marks = ms; rows = r } in e ∷ es) (entries_read per (drop per places) rows (cut_rest per places r rows is))

-- entries that are taken from lists and joined again
pub joined_marks : (per : ℕ) (places : List Mark) (rows : List ℕ) → length places ≡ length rows * per → all_marks (entries_in per places rows) ≡ places
joined_marks per places [] long = sym (none places (omega (arith, long)))
  where
    none : (ms : List Mark) → length ms ≡ 0 → ms ≡ []
    none [] e = refl
    none (m ∷ ms) e = absurd (omega arith)
joined_marks per places (r ∷ rows) long =
    ap (λ (ms : List Mark). take per places ++ ms) (joined_marks per (drop per places) rows (length-drop per places ∙ omega (arith, long))) ∙ take-append-drop per places

joined_rows : (per : ℕ) (places : List Mark) (rows : List ℕ) → all_rows (entries_in per places rows) ≡ rows
joined_rows per places [] = refl
joined_rows per places (r ∷ rows) = ap (λ (ns : List ℕ). r ∷ ns) (joined_rows per (drop per places) rows)

pub written_read : (marks : Marks) → AreMarks marks → HaveWords marks → option_map (marks_of marks.per_granule) (entries_reading marks.per_granule (marks_bytes (entry_marks marks) marks.rows)) ≡ Some marks
written_read marks are have =
    let per = marks.per_granule in
    let is : IsCut per marks.places marks.rows = record { long = are.complete; words = record { offsets = have.offsets; inners = have.inners }; counts = have.rows } in
    let bytes : List ℕ = rest_bytes per marks.places marks.rows in
    let long : length bytes ≡ length marks.rows * entry_len per = length-written per marks.places marks.rows is in
    let whole : length bytes % entry_len per ≡ 0 = ap (λ (n : ℕ). n % entry_len per) long ∙ mul-mod_left (length marks.rows) (entry_len per) in
    let count : length bytes / entry_len per ≡ length marks.rows = ap (λ (n : ℕ). n / entry_len per) long ∙ mul-div_cancel (length marks.rows) (omega arith) in
    ap (λ (b : Bool). option_map (marks_of per) (if b then Some (entries_from per (length bytes / entry_len per) bytes) else None)) (eq-eqb (length bytes % entry_len per) 0 whole)
    ∙ ap (λ (n : ℕ). Some (marks_of per (entries_from per n bytes))) count
    ∙ ap (λ (es : List Entry). Some (marks_of per es)) (entries_read per marks.places marks.rows is)
    ∙ ap (λ (ms : List Mark). let m : Marks = record { per_granule = per; places = ms; rows = all_rows (entries_in per marks.places marks.rows) } in Some m) (joined_marks per marks.places marks.rows are.complete)
    ∙ ap (λ (ns : List ℕ). let m : Marks = record { per_granule = per; places = marks.places; rows = ns } in Some m) (joined_rows per marks.places marks.rows)
