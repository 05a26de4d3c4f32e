-- Bytes taken by a read of a whole file.
use Rattle.std.proofs.Common.{◌≡◌, ℕ, ◌≤◌, ap, arith}
use Rattle.std.specs.Prelude.{Result, Ok, Err, OnOk, OnErr}
use Rattle.mt_shelf.specs.Causes.{grown_count}
use Rattle.mt_shelf.specs.State.{State, ReadsUpTo, after_read}
use Rattle.mt_shelf.specs.declared.causes.CallError.{CallError}

-- nothing was read
pub reads_none : (state : State) (most : ℕ) → ReadsUpTo most state state
reads_none state most = (0, omega arith, ap (λ (k : ℕ). record state { taken = k }) (grown_none state.taken))
  where
    grown_none : (count : ℕ) → count ≡ grown_count count 0
    grown_none count = grind arith

-- a read of so many bytes, or of less where it failed
pub reads_once : {T : Type 0} (size : ℕ) (old new : State) (result : Result T CallError) → OnOk result (new ≡ after_read size old) → OnErr result (ReadsUpTo size old new) → ReadsUpTo size old new
reads_once size old new (Ok x) ok err = (size, omega arith, ok)
reads_once size old new (Err e) ok err = err
