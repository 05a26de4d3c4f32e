-- Errors of the first of some steps in order.
use Rattle.std.proofs.Common.{◌≡◌, ℕ, ◌<◌, List, ◌∷◌, length, take, get_or}
use Rattle.std.specs.Prelude.{Ok}
use Rattle.std.specs.List.{enumerate_from}
use Rattle.mt_types.specs.Steps.{onto}
use Rattle.mt_fault.proofs.FaultLemmas.{fails_then}
use Rattle.mt_fault.specs.Faults.{Judged}
use Rattle.mt_granules.specs.FileFaults.{in_order}
use Rattle.mt_fault.specs.Results.{FailsAs}
use Rattle.mt_fault.specs.declared.error.FileError.{FileError}
use Rattle.mt_fault.specs.declared.error.FileError.TheVariants.{AtFault, NoMemory}
use Rattle.mt_granules.proofs.OrderLemmas.{order_stops, numbered_stops}

-- an error of the first of some steps in order
pub fails_first : {A B : Type 0} (e : FileError) (step : A → Judged B) (x : A) (others : List A) → FailsAs e (step x) → FailsAs e (in_order step (x ∷ others))
fails_first e step x others fails = fails_then e (step x) (λ y. onto y (in_order step others)) fails

-- a loop that ends early
pub fails_in_order : {A B : Type 0} (e : FileError) (step : A → Judged B) (xs : List A) (i : ℕ) (x : A) (ys : List B) → i < length xs → x ≡ get_or xs i x → in_order step (take i xs) ≡ Ok ys → FailsAs e (step x) → FailsAs e (in_order step xs)
fails_in_order (AtFault fault) step xs i x ys h at so_far fails = order_stops step xs i x ys fault h at so_far fails
fails_in_order NoMemory step xs i x ys h at so_far fails = tt

pub fails_numbered : {A B : Type 0} (e : FileError) (step : ℕ × A → Judged B) (xs : List A) (i : ℕ) (x : A) (ys : List B) → i < length xs → x ≡ get_or xs i x → in_order step (take i (enumerate_from 0 xs)) ≡ Ok ys → FailsAs e (step (i, x))
    → FailsAs e (in_order step (enumerate_from 0 xs))
fails_numbered (AtFault fault) step xs i x ys h at so_far fails = numbered_stops step xs i x ys so_far fault h at fails
fails_numbered NoMemory step xs i x ys h at so_far fails = tt
