-- The loops of a marks file's writer: what is left to append decides.
use Rattle.std.proofs.Common.{◌≡◌, ℕ, ◌+◌, ◌*◌, ◌<◌, ◌≤◌, List, ◌∷◌, ◌++◌, length, take, drop, get_or, ap, sym, ◌∙◌, append_assoc, append-nil, arith, length-drop, add-one}
use Rattle.std.proofs.Math.Seq.{drop-cons}
use Rattle.std.proofs.lemmas.List.{drop_all}
use Rattle.mt_defs.specs.declared.mark.Mark.{Mark}
use Rattle.mt_defs.specs.Marks.{entry_bytes, marks_bytes}
use Rattle.mt_marks.specs.Entries.{mark_runs}

-- the bytes of the entries that are left
abbrev pub rest_bytes : ℕ → List Mark → List ℕ → List ℕ
rest_bytes per places rows = marks_bytes (mark_runs per (length rows) places) rows

-- after some entries: the bytes of all are those so far and those of the rest
pub record Writes (per : ℕ) (places : List Mark) (rows : List ℕ) (i : ℕ) (rest : List Mark) (out : List ℕ) : Type 0 where
  pub bytes : out ++ rest_bytes per rest (drop i rows) ≡ rest_bytes per places rows
  pub long : length rest ≡ length (drop i rows) * per

pub writes_on : (per : ℕ) (places : List Mark) (rows : List ℕ) (i : ℕ) (rest : List Mark) (out : List ℕ) → i < length rows → Writes per places rows i rest out
    → Writes per places rows (i + 1) (drop per rest) (out ++ entry_bytes (take per rest) (get_or rows i 0))
writes_on per places rows i rest out under had =
    let step : drop i rows ≡ get_or rows i 0 ∷ drop (i + 1) rows = rw add-one (drop-cons rows i 0 under) in record {
      bytes = append_assoc out (entry_bytes (take per rest) (get_or rows i 0)) (rest_bytes per (drop per rest) (drop (i + 1) rows))
          ∙ ap (λ (left : List ℕ). out ++ rest_bytes per rest left) (sym step) ∙ had.bytes;
      long = length-drop per rest ∙ omega (arith, had.long, ap (λ (left : List ℕ). length left * per) step, length-drop i rows, length-drop (i + 1) rows);
    }

pub written : (per : ℕ) (places : List Mark) (rows : List ℕ) (i : ℕ) (rest : List Mark) (out : List ℕ) → length rows ≤ i → Writes per places rows i rest out → out ≡ rest_bytes per places rows
written per places rows i rest out over had =
    sym (append-nil out) ∙ ap (λ (left : List ℕ). out ++ rest_bytes per rest left) (sym (drop_all i rows over)) ∙ had.bytes
