-- Errors of the first of some steps.
use Rattle.std.proofs.Common.{◌≡◌, Bool, false, sym, ap, ◌∙◌}
use Rattle.std.specs.Prelude.{Result, Ok, Err}
use Rattle.mt_types.specs.Steps.{◌>>=◌, require}
use Rattle.mt_types.proofs.StepLemmas.{ok_one, then_of, then_bad}
use Rattle.mt_fault.specs.declared.fault.Fault.{Fault}
use Rattle.mt_fault.specs.declared.error.FileError.{FileError}
use Rattle.mt_fault.specs.declared.error.FileError.TheVariants.{AtFault, NoMemory}
use Rattle.mt_fault.specs.Faults.{Judged, blame}
use Rattle.mt_fault.specs.Results.{Gives, FailsAs, IsFault}

-- what is blamed on nothing was read
pub blame_ok : {A E : Type 0} (fault : E → Fault) (r : Result A E) (x : A) → blame fault r ≡ Ok x → r ≡ Ok x
blame_ok {A} {E} fault (Ok y) x e = ap (λ (z : A). let r : Result A E = Ok z in r) (sym (ok_one y x e))
blame_ok fault (Err w) x e = cc

-- an error of the first step is one of the steps
pub fails_then : {A B : Type 0} (e : FileError) (first : Judged A) (next : A → Judged B) → FailsAs e first → FailsAs e (first >>= next)
fails_then (AtFault fault) first next fails = then_bad first fault next fails
fails_then NoMemory first next fails = tt

-- and so is one of the steps after it
pub fails_after : {A B : Type 0} (e : FileError) (first : Judged A) (x : A) (next : A → Judged B) → first ≡ Ok x → FailsAs e (next x) → FailsAs e (first >>= next)
fails_after (AtFault fault) first x next is fails = then_of first x next is ∙ fails
fails_after NoMemory first x next is fails = tt

-- what the next step gives, where the first is Ok
pub gives_then : {A B : Type 0} (x : A) (r : Result B FileError) (first : Judged A) (next : A → Judged B) → first ≡ Ok x → Gives r (next x) → Gives r (first >>= next)
gives_then x (Ok y) first next is gives = then_of first x next is ∙ gives
gives_then x (Err e) first next is gives = fails_after e first x next is gives

-- a fault that a reading ends with
pub fault_gives : {A : Type 0} (fault : Fault) (e : FileError) (reading : Judged A) → IsFault fault e → reading ≡ Err fault → FailsAs e reading
fault_gives {A} fault (AtFault found) reading is reads = reads ∙ ap (λ (f : Fault). let q : Judged A = Err f in q) (sym is)
fault_gives fault NoMemory reading is reads = tt

-- a test that fails
pub test_fails : (test : Bool) (fault : Fault) (e : FileError) → test ≡ false → IsFault fault e → FailsAs e (require test fault)
test_fails test fault e not is = fault_gives fault e (require test fault) is (ap (λ (b : Bool). require b fault) not)
