-- Bytes taken in several reads.
use Rattle.std.proofs.Common.{◌≡◌, ℕ, ◌+◌, ◌<◌, ◌≤◌, List, [], ◌∷◌, ◌++◌, length, take, refl, ap, sym, subst, ◌∙◌, get_or, arith}
use Rattle.std.specs.Prelude.{Option, Some, None, Result, Ok, Err, OnOk, OnErr, IfSome, option_map, unwrap_or}
use Rattle.std.specs.List.{sum_by, cons_option}
use Rattle.std.proofs.lemmas.List.{take_more}
use Rattle.std.proofs.lemmas.List.Sums.{sum_by-take-le, sum_by_push}
use Rattle.mt_shelf.specs.State.{State, ReadsUpTo, after_read, files_of}
use Rattle.mt_shelf.specs.declared.causes.CallError.{CallError}
use Rattle.mt_shelf.proofs.WholeFiles.{grown_twice}

-- one read after another
pub reads_both : (old mid new : State) (a b : ℕ) → ReadsUpTo a old mid → ReadsUpTo b mid new → ReadsUpTo (a + b) old new
reads_both old mid new a b (m, le, is) (n, less, more) =
    (m + n, omega (arith, le, less), more ∙ ap (after_read n) is ∙ ap (λ (k : ℕ). let t : State = record old { taken = k } in t) (grown_twice old.taken m n))

pub reads_less : (old new : State) (a b : ℕ) → a ≤ b → ReadsUpTo a old new → ReadsUpTo b old new
reads_less old new a b less (n, le, is) = (n, omega (arith, less, le), is)

pub reads_none : (state : State) (a : ℕ) → ReadsUpTo a state state
reads_none state a = (0, omega arith, ap (λ (k : ℕ). let t : State = record state { taken = k } in t) (grind arith))

-- a read of so many bytes, or of less where it failed
pub reads_once : {T : Type 0} (size : ℕ) (old new : State) (result : Result T CallError) → OnOk result (new ≡ after_read size old) → OnErr result (ReadsUpTo size old new) → ReadsUpTo size old new
reads_once size old new (Ok x) ok err = (size, omega arith, ok)
reads_once size old new (Err e) ok err = err

-- the files stay
pub same_files : (n : ℕ) (old new : State) → ReadsUpTo n old new → files_of new ≡ files_of old
same_files n old new (k, le, is) = ap files_of is

-- ---- the files of some names

module _ (size : List ℕ → ℕ) (names : List (List ℕ)) (i : ℕ) (d name : List ℕ) (inside : i < length names) (at : name ≡ get_or names i d) where
  -- those before, and the next
  pub sizes_more : sum_by size (take (i + 1) names) ≡ sum_by size (take i names) + size name
  sizes_more =
      ap (sum_by size) (take_more names i d inside) ∙ sum_by_push size (take i names) (get_or names i d)
      ∙ ap (λ (n : List ℕ). sum_by size (take i names) + size n) (sym at)

  pub reads_next : (old mid new : State) → ReadsUpTo (sum_by size (take i names)) old mid → ReadsUpTo (size name) mid new → ReadsUpTo (sum_by size (take (i + 1) names)) old new
  reads_next old mid new before here =
      subst (λ (n : ℕ). ReadsUpTo n old new) (sym sizes_more) (reads_both old mid new (sum_by size (take i names)) (size name) before here)

  -- where the next read failed
  pub reads_failed : (old mid new : State) → ReadsUpTo (sum_by size (take i names)) old mid → ReadsUpTo (size name) mid new → ReadsUpTo (sum_by size names) old new
  reads_failed old mid new before here = reads_less old new (sum_by size (take (i + 1) names)) (sum_by size names) (sum_by-take-le size names (i + 1)) (reads_next old mid new before here)
