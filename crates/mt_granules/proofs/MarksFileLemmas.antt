-- What the reading of a marks file fixes of its marks.
use Rattle.std.proofs.Common.{◌≡◌, ℕ, zero, suc, ◌*◌, ◌/◌, ◌%◌, ◌≤◌, Bool, true, false, List, [], ◌∷◌, ◌++◌, length, drop, refl, ap, sym, ◌∙◌, subst, arith, Option, Some, None}
use Rattle.std.specs.Prelude.{Result, Ok, Err, if◌then◌else◌, ◌==◌, nat_le}
use Rattle.std.proofs.lemmas.Bool.{leb-true, eqb-true}
use Rattle.std.proofs.lemmas.List.{take_at, drop_at, length-append}
use Rattle.mt_fault.specs.declared.fault.Why.{Why}
use Rattle.mt_fault.specs.declared.fault.Why.TheVariants as why
use Rattle.mt_types.specs.Steps.{ok_or}
use Rattle.mt_types.proofs.StepLemmas.{ok_then, ok_one, required}
use Rattle.mt_defs.specs.declared.mark.Mark.{Mark}
use Rattle.mt_frame.specs.declared.frames.Frames.{Frames}
use Rattle.mt_marks.specs.declared.marks.Marks.{Marks}
use Rattle.mt_marks.specs.Entries.{Entry, entries_in, entries_of}
use Rattle.mt_marks.specs.MarkReading.{entries_from, entries_reading, marks_of, entry_len, marks_reading, rules_reading, in_granule}
use Rattle.mt_marks.proofs.RawLemmas.{all_marks, all_rows, length-marks_from, entries_none, entries_next}

-- each entry has so many marks
abbrev pub HaveMarks : ℕ → List Entry → Type 0
HaveMarks per [] = Unit {0}
HaveMarks per (e ∷ es) = (length e.marks ≡ per) × HaveMarks per es

pub read_have : (per n : ℕ) (bytes : List ℕ) → HaveMarks per (entries_from per n bytes)
read_have per zero bytes = subst (HaveMarks per) (sym (entries_none per bytes)) tt
read_have per (suc n) bytes = subst (HaveMarks per) (sym (entries_next per n bytes)) (length-marks_from per bytes, read_have per n (drop (entry_len per) bytes))

-- entries that are taken apart and put together
pub entries_back : (per : ℕ) (es : List Entry) → HaveMarks per es → entries_in per (all_marks es) (all_rows es) ≡ es
entries_back per [] have = refl
entries_back per (e ∷ es) have =
    ap (λ (ms : List Mark). record { marks = ms; rows = e.rows } ∷ entries_in per (drop per (e.marks ++ all_marks es)) (all_rows es)) (take_at e.marks (all_marks es) per have.0)
    ∙ ap (λ (ms : List Mark). record { marks = e.marks; rows = e.rows } ∷ entries_in per ms (all_rows es)) (drop_at e.marks (all_marks es) per have.0)
    ∙ ap (λ (es : List Entry). e ∷ es) (entries_back per es have.1)

pub length-all_marks : (per : ℕ) (es : List Entry) → HaveMarks per es → length (all_marks es) ≡ length es * per
length-all_marks per [] have = omega arith
length-all_marks per (e ∷ es) have = omega (arith, length-append e.marks (all_marks es), have.0, length-all_marks per es have.1)

-- the entries of a file that is read
pub record IsReadAs (per : ℕ) (frames : Frames) (bytes : List ℕ) (marks : Marks) : Type 0 where
  pub entries : List Entry
  pub are : entries ≡ entries_from per (length bytes / entry_len per) bytes
  pub whole : length bytes % entry_len per ≡ 0
  pub many : 2 ≤ length entries
  pub rules : rules_reading frames 0 0 None entries ≡ Ok tt
  pub marks_are : marks ≡ marks_of per entries
  pub have : HaveMarks per entries
  pub back : entries_of marks ≡ entries

pub found : {A E : Type 0} (o : Option A) (w : E) (x : A) → ok_or w o ≡ Ok x → o ≡ Some x
found {A} (Some y) w x e = ap (λ (b : A). Some b) (sym (ok_one _ _ e))
found None w x e = cc

in_granule_ok : (r : Result (Unit {0}) (ℕ × Why)) (u : Unit {0}) → in_granule r ≡ Ok u → r ≡ Ok tt
in_granule_ok (Ok t) u e = refl
in_granule_ok (Err (g, w)) u e = cc

pub entries_are : (per : ℕ) (bytes : List ℕ) (es : List Entry) → entries_reading per bytes ≡ Some es → (es ≡ entries_from per (length bytes / entry_len per) bytes) × (length bytes % entry_len per ≡ 0)
entries_are per bytes es e = by (length bytes % entry_len per == 0) refl e
  where
    by : (b : Bool) → (length bytes % entry_len per == 0) ≡ b → (if b then Some (entries_from per (length bytes / entry_len per) bytes) else None) ≡ Some es
        → (es ≡ entries_from per (length bytes / entry_len per) bytes) × (length bytes % entry_len per ≡ 0)
    by false is e = cc
    by true is e = (cc, eqb-true _ _ is)

pub marks_read : (per : ℕ) (frames : Frames) (bytes : List ℕ) (marks : Marks) → marks_reading per frames bytes ≡ Ok marks → IsReadAs per frames bytes marks
marks_read per frames bytes marks e =
    ok_then (ok_or (None, why.Length) (entries_reading per bytes)) _ marks e (λ entries is e.
    required (nat_le 2 (length entries)) (None, why.Length) _ marks e (λ many e.
    ok_then (in_granule (rules_reading frames 0 0 None entries)) _ marks e (λ u rules e.
    let same : marks ≡ marks_of per entries = ok_one _ _ e in
    let are = entries_are per bytes entries (found (entries_reading per bytes) (None, why.Length) entries is) in
    let have : HaveMarks per entries = subst (HaveMarks per) (sym are.0) (read_have per (length bytes / entry_len per) bytes) in
    record {
      entries = entries;
      are = are.0;
      whole = are.1;
      many = leb-true _ _ many;
      rules = in_granule_ok (rules_reading frames 0 0 None entries) u rules;
      marks_are = same;
      have = have;
      back = ap (λ (m : Marks). entries_of m) same ∙ entries_back per entries have;
    })))

pub marks_keep : (per : ℕ) (frames : Frames) (bytes : List ℕ) (marks : Marks) → marks_reading per frames bytes ≡ Ok marks → rules_reading frames 0 0 None (entries_of marks) ≡ Ok tt
marks_keep per frames bytes marks e = let read = marks_read per frames bytes marks e in ap (λ (es : List Entry). rules_reading frames 0 0 None es) read.back ∙ read.rules

pub marks_per : (per : ℕ) (frames : Frames) (bytes : List ℕ) (marks : Marks) → marks_reading per frames bytes ≡ Ok marks → marks.per_granule ≡ per
marks_per per frames bytes marks e = ap (λ (m : Marks). m.per_granule) (marks_read per frames bytes marks e).marks_are
