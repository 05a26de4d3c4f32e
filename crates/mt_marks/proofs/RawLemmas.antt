-- The loops that read the numbers of a marks file: what is left to read decides.
use Rattle.std.proofs.Common.{◌≡◌, ℕ, zero, suc, ◌+◌, ◌*◌, ◌-◌, ◌/◌, ◌%◌, ◌<◌, ◌≤◌, List, [], ◌∷◌, ◌++◌, length, drop, refl, ap, sym, ◌∙◌, append_assoc, append-nil, arith, length-append, map}
use Rattle.std.specs.List.{flat_map}
use Rattle.std.proofs.lemmas.List.{length-drop}
use Rattle.mt_defs.specs.declared.mark.Mark.{Mark}
use Rattle.std.specs.Prelude.{Some, None, option_map, if◌then◌else◌, Bool}
use Rattle.std.proofs.lemmas.Bool.{eq-eqb}
use Rattle.mt_marks.specs.declared.marks.TheConstants.{MAX_PER_GRANULE}
use Rattle.mt_marks.specs.declared.marks.Marks.{Marks}
use Rattle.mt_marks.specs.Entries.{Entry, AreMarks}
use Rattle.mt_marks.specs.MarkReading.{u64_at, entry_len, marks_from, entries_from, entries_reading, marks_of}

pub marks_none : (bytes : List ℕ) → marks_from 0 bytes ≡ []
unfolding marks_from
marks_none bytes = refl

pub marks_next : (n : ℕ) (bytes : List ℕ) → marks_from (suc n) bytes ≡ record { offset = u64_at 0 bytes; inner = u64_at 8 bytes } ∷ marks_from n (drop 16 bytes)
unfolding marks_from
marks_next n bytes = refl

pub length-marks_from : (n : ℕ) (bytes : List ℕ) → length (marks_from n bytes) ≡ n
length-marks_from zero bytes = ap (λ (marks : List Mark). length marks) (marks_none bytes)
length-marks_from (suc n) bytes = ap (λ (marks : List Mark). length marks) (marks_next n bytes) ∙ ap (λ (k : ℕ). suc k) (length-marks_from n (drop 16 bytes))

-- after some marks of an entry
pub record ReadsMarks (n : ℕ) (bytes : List ℕ) (old : List Mark) (i : ℕ) (rest : List ℕ) (places : List Mark) : Type 0 where
  pub left : places ++ marks_from (n - i) rest ≡ old ++ marks_from n bytes
  pub long : length rest + 16 * i ≡ length bytes

pub marks_start : (n : ℕ) (bytes : List ℕ) (old : List Mark) → ReadsMarks n bytes old 0 bytes old
marks_start n bytes old = record { left = ap (λ (k : ℕ). old ++ marks_from k bytes) (omega arith); long = omega arith }

pub marks_step : (n : ℕ) (bytes : List ℕ) (old : List Mark) (i : ℕ) (rest : List ℕ) (places : List Mark) → i < n → 16 ≤ length rest → ReadsMarks n bytes old i rest places
    → ReadsMarks n bytes old (i + 1) (drop 16 rest) (places ++ record { offset = u64_at 0 rest; inner = u64_at 8 rest } ∷ [])
marks_step n bytes old i rest places under room had =
    let here : Mark = record { offset = u64_at 0 rest; inner = u64_at 8 rest } in record {
      left = append_assoc places (here ∷ []) (marks_from (n - (i + 1)) (drop 16 rest)) ∙ ap (λ (marks : List Mark). places ++ marks) (sym (marks_next (n - (i + 1)) rest))
          ∙ ap (λ (k : ℕ). places ++ marks_from k rest) (omega arith) ∙ had.left;
      long = omega (arith, had.long, length-drop 16 rest);
    }

pub marks_end : (n : ℕ) (bytes : List ℕ) (old : List Mark) (i : ℕ) (rest : List ℕ) (places : List Mark) → n ≤ i → ReadsMarks n bytes old i rest places → places ≡ old ++ marks_from n bytes
marks_end n bytes old i rest places over had =
    sym (append-nil places) ∙ ap (λ (marks : List Mark). places ++ marks) (sym (marks_none rest)) ∙ ap (λ (k : ℕ). places ++ marks_from k rest) (omega arith) ∙ had.left

-- ---- all entries

abbrev pub all_marks : List Entry → List Mark
all_marks = flat_map (λ entry. entry.marks)

abbrev pub all_rows : List Entry → List ℕ
all_rows = map (λ entry. entry.rows)

pub entries_none : (per : ℕ) (bytes : List ℕ) → entries_from per 0 bytes ≡ []
unfolding entries_from
entries_none per bytes = refl

pub entries_next : (per n : ℕ) (bytes : List ℕ) → entries_from per (suc n) bytes ≡ record { marks = marks_from per bytes; rows = u64_at (16 * per) bytes } ∷ entries_from per n (drop (entry_len per) bytes)
unfolding entries_from
entries_next per n bytes = refl

pub length-all_marks : (per n : ℕ) (bytes : List ℕ) → length (all_marks (entries_from per n bytes)) ≡ n * per
length-all_marks per zero bytes = ap (λ (entries : List Entry). length (all_marks entries)) (entries_none per bytes) ∙ omega arith
length-all_marks per (suc n) bytes =
    ap (λ (entries : List Entry). length (all_marks entries)) (entries_next per n bytes)
    ∙ length-append (marks_from per bytes) (all_marks (entries_from per n (drop (entry_len per) bytes)))
    ∙ omega (arith, length-marks_from per bytes, length-all_marks per n (drop (entry_len per) bytes))

pub length-all_rows : (per n : ℕ) (bytes : List ℕ) → length (all_rows (entries_from per n bytes)) ≡ n
length-all_rows per zero bytes = ap (λ (entries : List Entry). length (all_rows entries)) (entries_none per bytes)
length-all_rows per (suc n) bytes =
    ap (λ (entries : List Entry). length (all_rows entries)) (entries_next per n bytes) ∙ ap (λ (k : ℕ). suc k) (length-all_rows per n (drop (entry_len per) bytes))

-- after some entries
pub record ReadsEntries (per n : ℕ) (bytes : List ℕ) (i : ℕ) (rest : List ℕ) (places : List Mark) (rows : List ℕ) : Type 0 where
  pub marks : places ++ all_marks (entries_from per (n - i) rest) ≡ all_marks (entries_from per n bytes)
  pub counts : rows ++ all_rows (entries_from per (n - i) rest) ≡ all_rows (entries_from per n bytes)
  pub long : length rest ≡ (n - i) * entry_len per

pub entries_start : (per n : ℕ) (bytes : List ℕ) → length bytes ≡ n * entry_len per → ReadsEntries per n bytes 0 bytes [] []
entries_start per n bytes long = record {
  marks = ap (λ (k : ℕ). all_marks (entries_from per k bytes)) (omega arith);
  counts = ap (λ (k : ℕ). all_rows (entries_from per k bytes)) (omega arith);
  long = long ∙ ap (λ (k : ℕ). k * entry_len per) (omega arith);
}

-- one more entry is there
pub entry_room : (e n i : ℕ) → i < n → (n - i) * e ≡ e + (n - (i + 1)) * e
entry_room e n i under = ap (λ (k : ℕ). k * e) (let one : n - i ≡ suc (n - (i + 1)) = omega arith in one) ∙ omega arith

pub entries_step : (per n : ℕ) (bytes : List ℕ) (i : ℕ) (rest : List ℕ) (places : List Mark) (rows : List ℕ) → i < n → ReadsEntries per n bytes i rest places rows
    → ReadsEntries per n bytes (i + 1) (drop (entry_len per) rest) (places ++ marks_from per rest) (rows ++ u64_at (16 * per) rest ∷ [])
entries_step per n bytes i rest places rows under had =
    let here : Entry = record { marks = marks_from per rest; rows = u64_at (16 * per) rest } in
    let more : List Entry = entries_from per (n - (i + 1)) (drop (entry_len per) rest) in
    let step : here ∷ more ≡ entries_from per (n - i) rest = sym (entries_next per (n - (i + 1)) rest) ∙ ap (λ (k : ℕ). entries_from per k rest) (omega arith) in
    record {
      marks = append_assoc places (marks_from per rest) (all_marks more) ∙ ap (λ (entries : List Entry). places ++ all_marks entries) step ∙ had.marks;
      counts = append_assoc rows (u64_at (16 * per) rest ∷ []) (all_rows more) ∙ ap (λ (entries : List Entry). rows ++ all_rows entries) step ∙ had.counts;
      long = let room = entry_room (entry_len per) n i under in omega (arith, had.long, room, length-drop (entry_len per) rest);
    }

pub places_end : (per n : ℕ) (bytes : List ℕ) (i : ℕ) (rest : List ℕ) (places : List Mark) (rows : List ℕ) → n ≤ i → ReadsEntries per n bytes i rest places rows → places ≡ all_marks (entries_from per n bytes)
places_end per n bytes i rest places rows over had =
    sym (append-nil places) ∙ ap (λ (entries : List Entry). places ++ all_marks entries) (sym (entries_none per rest))
    ∙ ap (λ (k : ℕ). places ++ all_marks (entries_from per k rest)) (omega arith) ∙ had.marks

pub rows_end : (per n : ℕ) (bytes : List ℕ) (i : ℕ) (rest : List ℕ) (places : List Mark) (rows : List ℕ) → n ≤ i → ReadsEntries per n bytes i rest places rows → rows ≡ all_rows (entries_from per n bytes)
rows_end per n bytes i rest places rows over had =
    sym (append-nil rows) ∙ ap (λ (entries : List Entry). rows ++ all_rows entries) (sym (entries_none per rest))
    ∙ ap (λ (k : ℕ). rows ++ all_rows (entries_from per k rest)) (omega arith) ∙ had.counts

pub all_read : (per : ℕ) (bytes : List ℕ) (i : ℕ) (rest : List ℕ) (places : List Mark) (rows : List ℕ) → length bytes % entry_len per ≡ 0 → length bytes / entry_len per ≤ i
    → ReadsEntries per (length bytes / entry_len per) bytes i rest places rows
    → Some (record { per_granule = per; places = places; rows = rows }) ≡ option_map (marks_of per) (entries_reading per bytes)
all_read per bytes i rest places rows whole over had =
    let n : ℕ = length bytes / entry_len per in
    let p : places ≡ all_marks (entries_from per n bytes) = places_end per n bytes i rest places rows over had in
    let r : rows ≡ all_rows (entries_from per n bytes) = rows_end per n bytes i rest places rows over had in
    ap (λ (marks : List Mark). let m : Marks = record { per_granule = per; places = marks; rows = rows } in Some m) p
    ∙ ap (λ (counts : List ℕ). let m : Marks = record { per_granule = per; places = all_marks (entries_from per n bytes); rows = counts } in Some m) r
    ∙ ap (λ (b : Bool). option_map (marks_of per) (if b then Some (entries_from per n bytes) else None)) (sym (eq-eqb (length bytes % entry_len per) 0 whole))

pub all_complete : (per n : ℕ) (bytes : List ℕ) (i : ℕ) (rest : List ℕ) (places : List Mark) (rows : List ℕ) → 1 ≤ per → per ≤ MAX_PER_GRANULE → n ≤ i → ReadsEntries per n bytes i rest places rows
    → AreMarks (record { per_granule = per; places = places; rows = rows })
all_complete per n bytes i rest places rows some few over had = record {
  some = some;
  few = few;
  complete = ap (λ (marks : List Mark). length marks) (places_end per n bytes i rest places rows over had) ∙ length-all_marks per n bytes
      ∙ ap (λ (k : ℕ). k * per) (sym (ap (λ (counts : List ℕ). length counts) (rows_end per n bytes i rest places rows over had) ∙ length-all_rows per n bytes));
}
