-- The loops that check an entry and all entries: what is left to check decides.
use Rattle.std.proofs.Common.{◌≡◌, ℕ, ◌+◌, ◌*◌, ◌<◌, ◌≤◌, Bool, true, false, List, [], ◌∷◌, length, take, drop, get_or, refl, ap, sym, ◌∙◌, arith}
use Rattle.std.specs.Prelude.{Option, Some, None, Result, Ok, Err, if◌then◌else◌, ◌==◌}
use Rattle.std.proofs.lemmas.Bool.{eq-eqb, ne_eqb}
use Rattle.std.proofs.lemmas.List.{drop_more, drop_all, length-drop}
use Rattle.mt_fault.specs.declared.fault.Why.{Why}
use Rattle.mt_fault.specs.declared.fault.Why.TheVariants as why
use Rattle.mt_defs.specs.declared.mark.Mark.{Mark}
use Rattle.mt_frame.specs.declared.frames.Frames.{Frames}
use Rattle.mt_types.specs.Steps.{◌>>=◌, require, at}
use Rattle.mt_marks.specs.declared.rules.Former.{Former}
use Rattle.mt_marks.specs.Entries.{Entry, entries_in}
use Rattle.mt_marks.specs.MarkReading.{mark_reading, last_reading, are_rows, is_last, rules_reading}

-- ---- the marks of an entry

pub last_none : (frames : Frames) (last : Bool) (former : Option Former) → last_reading frames last former [] ≡ Ok former
unfolding last_reading
last_none frames last former = refl

pub last_next : (frames : Frames) (last : Bool) (former : Option Former) (m : Mark) (ms : List Mark) →
    last_reading frames last former (m ∷ ms) ≡ (mark_reading frames.end frames.list last former m >>= λ here. last_reading frames last (Some here) ms)
unfolding last_reading
last_next frames last former m ms = refl

module _ (frames : Frames) (last : Bool) (former : Option Former) (entry : List Mark) (i : ℕ) (d : Mark) where
  pub mark_holds : (here : Former) → i < length entry → mark_reading frames.end frames.list last former (get_or entry i d) ≡ Ok here
      → last_reading frames last former (drop i entry) ≡ last_reading frames last (Some here) (drop (i + 1) entry)
  mark_holds here under is =
      ap (λ (ms : List Mark). last_reading frames last former ms) (drop_more entry i d under) ∙ last_next frames last former (get_or entry i d) (drop (i + 1) entry)
      ∙ ap (λ (r : Result Former Why). r >>= λ here. last_reading frames last (Some here) (drop (i + 1) entry)) is

  pub mark_breaks : (w : Why) → i < length entry → mark_reading frames.end frames.list last former (get_or entry i d) ≡ Err w → last_reading frames last former (drop i entry) ≡ Err w
  mark_breaks w under is =
      ap (λ (ms : List Mark). last_reading frames last former ms) (drop_more entry i d under) ∙ last_next frames last former (get_or entry i d) (drop (i + 1) entry)
      ∙ ap (λ (r : Result Former Why). r >>= λ here. last_reading frames last (Some here) (drop (i + 1) entry)) is

pub marks_hold : (frames : Frames) (last : Bool) (former : Option Former) (entry : List Mark) (i : ℕ) → length entry ≤ i → last_reading frames last former (drop i entry) ≡ Ok former
marks_hold frames last former entry i over = ap (λ (ms : List Mark). last_reading frames last former ms) (drop_all i entry over) ∙ last_none frames last former

-- ---- all entries

pub rules_none : (frames : Frames) (granule total : ℕ) (former : Option Former) → rules_reading frames granule total former [] ≡ Ok tt
unfolding rules_reading
rules_none frames granule total former = refl

abbrev rules_step : Frames → ℕ → ℕ → Entry → List Entry → Result (Unit {0}) Why → Result (Option Former) Why → Result (Unit {0}) (ℕ × Why)
rules_step frames granule total e es rows_hold marks_hold = at granule rows_hold >>= λ _. (at granule marks_hold >>= λ here. rules_reading frames (granule + 1) (total + e.rows) here es)

rules_next : (frames : Frames) (granule total : ℕ) (former : Option Former) (e : Entry) (es : List Entry) → rules_reading frames granule total former (e ∷ es)
    ≡ rules_step frames granule total e es (require (are_rows (is_last es) e.rows (total + e.rows)) why.Rows) (last_reading frames (is_last es) former e.marks)
unfolding rules_reading
rules_next frames granule total former e es = refl

last_is : (per : ℕ) (places : List Mark) (rows : List ℕ) (i : ℕ) → i < length rows → is_last (entries_in per places (drop (i + 1) rows)) ≡ (i + 1 == length rows)
last_is per places rows i under = by_length (drop (i + 1) rows) refl
  where
    by_length : (left : List ℕ) → drop (i + 1) rows ≡ left → is_last (entries_in per places left) ≡ (i + 1 == length rows)
    by_length [] e = sym (eq-eqb (i + 1) (length rows) (omega (arith, under, ap (λ (l : List ℕ). length l) e, length-drop (i + 1) rows)))
    by_length (r ∷ left) e = sym (ne_eqb (i + 1) (length rows) (λ same. omega (arith, same, ap (λ (l : List ℕ). length l) e, length-drop (i + 1) rows)))

-- after some entries
pub record KeepsRules (frames : Frames) (per : ℕ) (places : List Mark) (rows : List ℕ) (i : ℕ) (rest : List Mark) (total : ℕ) (former : Option Former) : Type 0 where
  pub left : rules_reading frames i total former (entries_in per rest (drop i rows)) ≡ rules_reading frames 0 0 None (entries_in per places rows)
  pub long : length rest ≡ length (drop i rows) * per

module _ (frames : Frames) (per : ℕ) (places : List Mark) (rows : List ℕ) (i : ℕ) (rest : List Mark) (total : ℕ) (former : Option Former) (r : ℕ) (last : Bool)
    (under : i < length rows) (here_rows : r ≡ get_or rows i 0) (is : last ≡ (i + 1 == length rows)) (had : KeepsRules frames per places rows i rest total former) where
  more : List Entry
  more = entries_in per (drop per rest) (drop (i + 1) rows)

  step : rules_reading frames 0 0 None (entries_in per places rows)
      ≡ rules_step frames i total (record { marks = take per rest; rows = r }) (entries_in per (drop per rest) (drop (i + 1) rows)) (require (are_rows last r (total + r)) why.Rows) (last_reading frames last former (take per rest))
  step =
      sym had.left ∙ ap (λ (left : List ℕ). rules_reading frames i total former (entries_in per rest left)) (drop_more rows i 0 under)
      ∙ ap (λ (k : ℕ). rules_reading frames i total former (record { marks = take per rest; rows = k } ∷ entries_in per (drop per rest) (drop (i + 1) rows))) (sym here_rows)
      ∙ rules_next frames i total former (record { marks = take per rest; rows = r }) (entries_in per (drop per rest) (drop (i + 1) rows))
      ∙ ap (λ (b : Bool). rules_step frames i total (record { marks = take per rest; rows = r }) (entries_in per (drop per rest) (drop (i + 1) rows)) (require (are_rows b r (total + r)) why.Rows) (last_reading frames b former (take per rest)))
      (last_is per (drop per rest) rows i under ∙ sym is)

  pub rows_break : None ≡ (if are_rows last r (total + r) then Some (total + r) else None) → rules_reading frames 0 0 None (entries_in per places rows) ≡ Err (i, why.Rows)
  rows_break none =
      step ∙ ap (λ (b : Bool). rules_step frames i total (record { marks = take per rest; rows = r }) (entries_in per (drop per rest) (drop (i + 1) rows)) (require b why.Rows) (last_reading frames last former (take per rest)))
      (is_false (are_rows last r (total + r)) none)
    where
      is_false : (b : Bool) → None ≡ (if b then Some (total + r) else None) → b ≡ false
      is_false true e = absurd cc
      is_false false e = refl

  holds : (sum : ℕ) (b : Bool) → Some sum ≡ (if b then Some (total + r) else None) → (b ≡ true) × (sum ≡ total + r)
  holds sum true e = (refl, cc)
  holds sum false e = absurd cc

  pub entry_breaks : (sum : ℕ) (w : Why) → Some sum ≡ (if are_rows last r (total + r) then Some (total + r) else None) → last_reading frames last former (take per rest) ≡ Err w
      → rules_reading frames 0 0 None (entries_in per places rows) ≡ Err (i, w)
  entry_breaks sum w some marks =
      step ∙ ap (λ (b : Bool). rules_step frames i total (record { marks = take per rest; rows = r }) (entries_in per (drop per rest) (drop (i + 1) rows)) (require b why.Rows) (last_reading frames last former (take per rest)))
      (holds sum (are_rows last r (total + r)) some).0
      ∙ ap (λ (x : Result (Option Former) Why). rules_step frames i total (record { marks = take per rest; rows = r }) (entries_in per (drop per rest) (drop (i + 1) rows)) (Ok tt) x) marks

  pub entry_holds : (sum : ℕ) (here : Option Former) → Some sum ≡ (if are_rows last r (total + r) then Some (total + r) else None) → last_reading frames last former (take per rest) ≡ Ok here
      → KeepsRules frames per places rows (i + 1) (drop per rest) sum here
  entry_holds sum here some marks = record {
    left = sym (
        step ∙ ap (λ (b : Bool). rules_step frames i total (record { marks = take per rest; rows = r }) (entries_in per (drop per rest) (drop (i + 1) rows)) (require b why.Rows) (last_reading frames last former (take per rest)))
        (holds sum (are_rows last r (total + r)) some).0
        ∙ ap (λ (x : Result (Option Former) Why). rules_step frames i total (record { marks = take per rest; rows = r }) (entries_in per (drop per rest) (drop (i + 1) rows)) (Ok tt) x) marks
        ∙ ap (λ (k : ℕ). rules_reading frames (i + 1) k here (entries_in per (drop per rest) (drop (i + 1) rows))) (sym (holds sum (are_rows last r (total + r)) some).1)
        );
    long = omega (arith, had.long, length-drop per rest, ap (λ (l : List ℕ). length l * per) (drop_more rows i 0 under));
  }

pub rules_hold : (frames : Frames) (per : ℕ) (places : List Mark) (rows : List ℕ) (i : ℕ) (rest : List Mark) (total : ℕ) (former : Option Former) → length rows ≤ i → KeepsRules frames per places rows i rest total former
    → rules_reading frames 0 0 None (entries_in per places rows) ≡ Ok tt
rules_hold frames per places rows i rest total former over had =
    sym had.left ∙ ap (λ (left : List ℕ). rules_reading frames i total former (entries_in per rest left)) (drop_all i rows over) ∙ rules_none frames i total former
