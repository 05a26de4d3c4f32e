-- What the checks of a marks file give together.
use Rattle.std.proofs.Common.{◌≡◌, ℕ, zero, suc, ◌*◌, ◌<◌, ◌≤◌, ◌%◌, ◌/◌, Bool, true, false, List, ◌∷◌, ◌++◌, length, drop, refl, ap, sym, ◌∙◌, arith}
use Rattle.std.specs.Prelude.{Option, Some, None, Result, Ok, Err, option_map, if◌then◌else◌, ◌==◌, nat_le}
use Rattle.std.proofs.lemmas.Bool.{lt-leb, le-leb}
use Rattle.std.proofs.lemmas.List.{take_at, drop_at, length-map}
use Rattle.mt_fault.specs.declared.fault.Why.{Why}
use Rattle.mt_fault.specs.declared.fault.Why.TheVariants as why
use Rattle.mt_defs.specs.declared.mark.Mark.{Mark}
use Rattle.mt_frame.specs.declared.frames.Frames.{Frames}
use Rattle.mt_types.specs.Steps.{◌>>=◌, require, ok_or}
use Rattle.mt_marks.specs.declared.marks.Marks.{Marks}
use Rattle.mt_marks.specs.declared.fault.MarksError.{MarksError}
use Rattle.mt_marks.specs.declared.fault.MarksError.TheVariants.{At, NoMemory}
use Rattle.mt_marks.specs.Entries.{Entry, entries_in, entries_of}
use Rattle.mt_marks.specs.MarkReading.{marks_from, entries_from, entries_reading, marks_of, entry_len, marks_reading, rules_reading, in_granule, u64_at}
use Rattle.mt_marks.specs.Results.{GivesMarks, GivesRules}
use Rattle.mt_marks.proofs.RawLemmas.{all_marks, all_rows, length-marks_from, entries_none, entries_next}

-- entries that are taken apart and put together
entries_back : (per n : ℕ) (bytes : List ℕ) → entries_in per (all_marks (entries_from per n bytes)) (all_rows (entries_from per n bytes)) ≡ entries_from per n bytes
entries_back per zero bytes = ap (λ (es : List Entry). entries_in per (all_marks es) (all_rows es)) (entries_none per bytes) ∙ sym (entries_none per bytes)
entries_back per (suc n) bytes =
    let here : List Mark = marks_from per bytes in
    let more : List Entry = entries_from per n (drop (entry_len per) bytes) in
    let long = length-marks_from per bytes in
    ap (λ (es : List Entry). entries_in per (all_marks es) (all_rows es)) (entries_next per n bytes)
    ∙ ap (λ (ms : List Mark). record { marks = ms; rows = u64_at (16 * per) bytes } ∷ entries_in per (drop per (here ++ all_marks more)) (all_rows more)) (take_at here (all_marks more) per long)
    ∙ ap (λ (ms : List Mark). record { marks = here; rows = u64_at (16 * per) bytes } ∷ entries_in per ms (all_rows more)) (drop_at here (all_marks more) per long)
    ∙ ap (λ (es : List Entry). record { marks = here; rows = u64_at (16 * per) bytes } ∷ es) (entries_back per n (drop (entry_len per) bytes))
    ∙ sym (entries_next per n bytes)

-- what a file that was read without its rules fixes
record IsRead (per : ℕ) (bytes : List ℕ) (marks : Marks) : Type 0 where
  entries : List Entry
  is : entries_reading per bytes ≡ Some entries
  marks_are : marks ≡ marks_of per entries
  back : entries_of marks ≡ entries

read_parts : (per : ℕ) (bytes : List ℕ) (marks : Marks) → Some marks ≡ option_map (marks_of per) (entries_reading per bytes) → IsRead per bytes marks
read_parts per bytes marks e = whole (length bytes % entry_len per == 0) refl e
  where
    n : ℕ
    n = length bytes / entry_len per

    some_marks : (x y : Marks) → (let o : Option Marks = Some x in o) ≡ Some y → x ≡ y
    some_marks x y e = cc

    whole : (b : Bool) → (length bytes % entry_len per == 0) ≡ b → Some marks ≡ option_map (marks_of per) (if b then Some (entries_from per n bytes) else None) → IsRead per bytes marks
    whole false is e = absurd cc
    whole true is e =
        let same = some_marks marks (marks_of per (entries_from per n bytes)) e in
        record {
          entries = entries_from per n bytes;
          is = ap (λ (b : Bool). if b then Some (entries_from per n bytes) else None) is;
          marks_are = same;
          back = ap (λ (m : Marks). entries_of m) same ∙ entries_back per n bytes;
        }

module _ (per : ℕ) (frames : Frames) (bytes : List ℕ) where
  pub no_entries : None ≡ option_map (marks_of per) (entries_reading per bytes) → marks_reading per frames bytes ≡ Err (None, why.Length)
  no_entries e = by (entries_reading per bytes) e
    where
      by : (o : Option (List Entry)) → None ≡ option_map (marks_of per) o
          → (ok_or (None, why.Length) o >>= λ entries. require (nat_le 2 (length entries)) (None, why.Length) >>= λ _. in_granule (rules_reading frames 0 0 None entries) >>= λ _. Ok (marks_of per entries)) ≡ Err (None, why.Length)
      by None e = refl
      by (Some entries) e = absurd cc

  module _ (marks : Marks) (read : Some marks ≡ option_map (marks_of per) (entries_reading per bytes)) where
    parts : IsRead per bytes marks
    parts = read_parts per bytes marks read

    counted : length marks.rows ≡ length (parts).entries
    counted = ap (λ (m : Marks). length m.rows) (parts).marks_are ∙ length-map (parts).entries (λ (e : Entry). e.rows)

    begun : marks_reading per frames bytes
        ≡ (require (nat_le 2 (length (parts).entries)) (None, why.Length) >>= λ _. in_granule (rules_reading frames 0 0 None (parts).entries) >>= λ _. Ok (marks_of per (parts).entries))
    begun = ap (λ (o : Option (List Entry)). ok_or (None, why.Length) o >>= λ entries. require (nat_le 2 (length entries)) (None, why.Length) >>= λ _. in_granule (rules_reading frames 0 0 None entries) >>= λ _. Ok (marks_of per entries)) (parts).is

    pub few_entries : length marks.rows < 2 → marks_reading per frames bytes ≡ Err (None, why.Length)
    few_entries few =
        begun ∙ ap (λ (b : Bool). require b (None, why.Length) >>= λ _. in_granule (rules_reading frames 0 0 None (parts).entries) >>= λ _. Ok (marks_of per (parts).entries)) (lt-leb 2 (length (parts).entries) (omega (arith, few, counted)))

    enough : 2 ≤ length marks.rows → marks_reading per frames bytes ≡ (in_granule (rules_reading frames 0 0 None (entries_of marks)) >>= λ _. Ok marks)
    enough many =
        begun ∙ ap (λ (b : Bool). require b (None, why.Length) >>= λ _. in_granule (rules_reading frames 0 0 None (parts).entries) >>= λ _. Ok (marks_of per (parts).entries)) (le-leb 2 (length (parts).entries) (omega (arith, many, counted)))
        ∙ ap (λ (es : List Entry). in_granule (rules_reading frames 0 0 None es) >>= λ _. Ok (marks_of per (parts).entries)) (sym (parts).back)
        ∙ ap (λ (m : Marks). in_granule (rules_reading frames 0 0 None (entries_of marks)) >>= λ _. Ok m) (sym (parts).marks_are)

    pub all_hold : 2 ≤ length marks.rows → rules_reading frames 0 0 None (entries_of marks) ≡ Ok tt → marks_reading per frames bytes ≡ Ok marks
    all_hold many is = enough many ∙ ap (λ (r : Result (Unit {0}) (ℕ × Why)). in_granule r >>= λ _. Ok marks) is

    pub one_breaks : (e : MarksError) → 2 ≤ length marks.rows → GivesRules (Err e) (rules_reading frames 0 0 None (entries_of marks)) → GivesMarks (Err e) (marks_reading per frames bytes)
    one_breaks (At None w) many gives = absurd gives
    one_breaks (At (Some granule) w) many gives = enough many ∙ ap (λ (r : Result (Unit {0}) (ℕ × Why)). in_granule r >>= λ _. Ok marks) gives
    one_breaks NoMemory many gives = absurd gives
