-- A step that uses no object, beside a shelf.
use Rattle.std.proofs.Common.{ℕ, Result, Err, refl}
use Rattle.mt_command.specs.Steps.{StepCausedBy, of_nothing, of_shelf}
use Rattle.mt_command.specs.declared.status.Status.{Status}
use Rattle.mt_command.specs.declared.status.Status.TheVariants.{Done, AtFault, BadWords, NoTable, NoPart, BadTable, BadQuery, Exists, NoRows, BadRows, ManyPartitions, MixedPartitions, TooMuch, SourceFault, ShelfFault, SinkFault, NoMemory}
use Rattle.mt_command.proofs.RefusedLemmas.{never_rose}

pub at_rest : (A : Type 0) (status : Status) (count : ℕ) → StepCausedBy (let r : Result A Status = Err status in r) of_nothing of_nothing → StepCausedBy (let r : Result A Status = Err status in r) (of_shelf count) (of_shelf count)
at_rest A Done count cause = absurd cause
at_rest A BadWords count cause = absurd cause
at_rest A SourceFault count cause = never_rose cause.0
at_rest A SinkFault count cause = never_rose cause.0
at_rest A ShelfFault count cause = never_rose cause.0
at_rest A NoMemory count cause = tt
at_rest A (AtFault word fault) count cause = refl
at_rest A NoTable count cause = refl
at_rest A (NoPart word) count cause = refl
at_rest A (BadTable why) count cause = refl
at_rest A (BadQuery why) count cause = refl
at_rest A Exists count cause = refl
at_rest A NoRows count cause = refl
at_rest A (BadRows line why) count cause = refl
at_rest A (ManyPartitions line) count cause = refl
at_rest A (MixedPartitions input) count cause = refl
at_rest A (TooMuch what limit) count cause = refl
