-- The entries of a marks file, with their counts.
use Rattle.std.proofs.Common.{◌≡◌, ℕ, ◌<◌, ◌≤◌, true, false, List, length, Option, Some, None, refl, ap, sym, ◌∙◌}
use Rattle.std.specs.Prelude.{Result, Ok, Err, nat_le, option_map, sum}
use Rattle.std.proofs.lemmas.Bool.{le-leb, lt-leb, leb-true}
use Rattle.mt_types.specs.Steps.{◌>>=◌, ok_or, require}
use Rattle.mt_types.proofs.StepLemmas.{failed, passed, then_of, then_bad}
use Rattle.mt_table.specs.declared.limits.TheConstants.{MAX_ROWS}
use Rattle.mt_fault.specs.declared.fault.Fault.{Fault}
use Rattle.mt_fault.specs.declared.fault.Why.TheVariants as why
use Rattle.mt_fault.specs.Faults.{Judged, file_fault}
use Rattle.mt_shelf.specs.declared.error.ReadError.{ReadError}
use Rattle.mt_shelf.specs.declared.error.ReadError.TheVariants.{AtFault, Shelf, NoMemory}
use Rattle.mt_files.specs.ShelfResults.{ReadFails}
use Rattle.mt_granules.specs.PayloadReading.{granules_of}
use Rattle.mt_marks.specs.declared.marks.Marks.{Marks}
use Rattle.mt_marks.specs.MarkReading.{entries_reading, marks_of}
use Rattle.mt_marked_file.specs.Opening.{IsReadFault, ShowsFrom, counts_check, raw_reading}
use Rattle.mt_marked_file.proofs.OpeningLemmas.{shows_fault, shows_same}

pub fault_kept : (fault : Fault) (e : ReadError) (n : ℕ) → IsReadFault fault e → (let r : Result Marks ReadError = Err e in ReadFails n n r)
fault_kept fault (AtFault found) n is = refl
fault_kept fault Shelf n is = elim is [ ]
fault_kept fault NoMemory n is = refl

-- what a test that held says
pub within : (a b : ℕ) → true ≡ nat_le a b → a ≤ b
within a b is = leb-true a b (sym is)

module _ (name : List ℕ) (marks : Marks) where
  abbrev rows_check : Unit {0} → Judged Marks
  rows_check _ = require (nat_le (sum (granules_of marks)) MAX_ROWS) (file_fault name why.TooLong) >>= λ _. Ok marks

  enough : 2 ≤ length marks.rows → counts_check name marks ≡ rows_check tt
  enough many = passed (nat_le 2 (length marks.rows)) (file_fault name why.Length) rows_check (le-leb 2 (length marks.rows) many)

  pub no_granule : (e : ReadError) → length marks.rows < 2 → IsReadFault (file_fault name why.Length) e → ShowsFrom (λ (found : Marks). found) (Err e) (counts_check name marks)
  no_granule e few is =
      shows_fault (λ (found : Marks). found) (file_fault name why.Length) e (counts_check name marks) is
      (failed (nat_le 2 (length marks.rows)) (file_fault name why.Length) rows_check (lt-leb 2 (length marks.rows) few))

  pub many_rows : (e : ReadError) → 2 ≤ length marks.rows → false ≡ nat_le (sum (granules_of marks)) MAX_ROWS → IsReadFault (file_fault name why.TooLong) e → ShowsFrom (λ (found : Marks). found) (Err e) (counts_check name marks)
  many_rows e many over is =
      shows_fault (λ (found : Marks). found) (file_fault name why.TooLong) e (counts_check name marks) is
      (enough many ∙ failed (nat_le (sum (granules_of marks)) MAX_ROWS) (file_fault name why.TooLong) (λ _. Ok marks) (sym over))

  pub all_there : 2 ≤ length marks.rows → true ≡ nat_le (sum (granules_of marks)) MAX_ROWS → counts_check name marks ≡ Ok marks
  all_there many few = enough many ∙ passed (nat_le (sum (granules_of marks)) MAX_ROWS) (file_fault name why.TooLong) (λ _. Ok marks) (sym few)

module _ (name : List ℕ) (per : ℕ) (bytes : List ℕ) where
  abbrev read : Option Marks → Judged Marks
  read found = ok_or (file_fault name why.Length) found >>= counts_check name

  pub raw_found : (marks : Marks) (result : Result Marks ReadError) → Some marks ≡ option_map (marks_of per) (entries_reading per bytes) → ShowsFrom (λ (found : Marks). found) result (counts_check name marks)
      → ShowsFrom (λ (found : Marks). found) result (raw_reading name per bytes)
  raw_found marks result is = shows_same (λ (found : Marks). found) result (raw_reading name per bytes) (counts_check name marks) (ap read (sym is))

  pub raw_none : (e : ReadError) → None ≡ option_map (marks_of per) (entries_reading per bytes) → IsReadFault (file_fault name why.Length) e → ShowsFrom (λ (found : Marks). found) (Err e) (raw_reading name per bytes)
  raw_none e none is = shows_fault (λ (found : Marks). found) (file_fault name why.Length) e (raw_reading name per bytes) is (ap read (sym none))
