-- A trial is done, or ends from outside.
use Rattle.std.proofs.Common.{◌≡◌, ◌⊎◌, inl, inr, ℕ, Bool, true, false, List, Option, Result, Ok, Err, refl, subst}
use Rattle.std.specs.Io.KnownBytes.{append_known}
use Rattle.mt_command.specs.Outcomes.{ReturnsOutcome, gives}
use Rattle.mt_command.specs.Plans.{answer_of}
use Rattle.mt_command.specs.Status.{is_outside_fault}
use Rattle.mt_command.specs.Steps.{Counts, Printed, StepCausedBy, of_nothing}
use Rattle.mt_command.specs.declared.status.Status.{Status}
use Rattle.mt_command.specs.declared.status.Status.TheVariants.{Done, AtFault, BadWords, NoTable, NoPart, BadTable, BadQuery, Exists, NoRows, BadRows, ManyPartitions, MixedPartitions, TooMuch, SourceFault, ShelfFault, SinkFault, NoMemory}
use Rattle.mt_command.proofs.RefusedLemmas.{never_rose}
use Rattle.mt_trial.proofs.OnlyLemmas.{no_value, same_value}

-- ---- before anything is printed

outside_by : (text : List ℕ) (status : Status) (b : Bool) → is_outside_fault status ≡ b → ReturnsOutcome (let r : Result (List ℕ) Status = Err status in r) (gives (Ok text)) → is_outside_fault status ≡ true
outside_by text status true is returned = is
outside_by text status false is returned = absurd (no_value status text (returned is))

pub ended_outside : (text : List ℕ) (status : Status) → ReturnsOutcome (let r : Result (List ℕ) Status = Err status in r) (gives (Ok text)) → (status ≡ Done) ⊎ (is_outside_fault status ≡ true)
ended_outside text status returned = inr (outside_by text status (is_outside_fault status) refl returned)

pub not_done : {X : Type 0} (status : Status) (before now : Counts) → StepCausedBy (let r : Result (List ℕ) Status = Err status in r) before now → status ≡ Done → X
not_done status before now cause is = absurd (subst (λ s. StepCausedBy (let r : Result (List ℕ) Status = Err s in r) before now) is cause)

pub not_of_shelf : (status : Status) → StepCausedBy (let r : Result (List ℕ) Status = Err status in r) of_nothing of_nothing → ¬ (status ≡ ShelfFault)
not_of_shelf status cause is = never_rose (subst (λ s. StepCausedBy (let r : Result (List ℕ) Status = Err s in r) of_nothing of_nothing) is cause).0

-- ---- after the text was printed, or a prefix of it

pub print_unrefused : (text : List ℕ) (old new : Option (List ℕ)) (result : Result Unit Status) → Printed text old new result → (answer_of result ≡ Done) ⊎ (is_outside_fault (answer_of result) ≡ true)
print_unrefused text old new (Ok done) printed = inl refl
print_unrefused text old new (Err SinkFault) printed = inr refl
print_unrefused text old new (Err NoMemory) printed = inr refl
print_unrefused text old new (Err Done) printed = absurd printed
print_unrefused text old new (Err BadWords) printed = absurd printed
print_unrefused text old new (Err (AtFault part fault)) printed = absurd printed
print_unrefused text old new (Err NoTable) printed = absurd printed
print_unrefused text old new (Err (NoPart part)) printed = absurd printed
print_unrefused text old new (Err (BadTable why)) printed = absurd printed
print_unrefused text old new (Err (BadQuery why)) printed = absurd printed
print_unrefused text old new (Err Exists) printed = absurd printed
print_unrefused text old new (Err NoRows) printed = absurd printed
print_unrefused text old new (Err (BadRows line why)) printed = absurd printed
print_unrefused text old new (Err (ManyPartitions line)) printed = absurd printed
print_unrefused text old new (Err (MixedPartitions input)) printed = absurd printed
print_unrefused text old new (Err (TooMuch what limit)) printed = absurd printed
print_unrefused text old new (Err SourceFault) printed = absurd printed
print_unrefused text old new (Err ShelfFault) printed = absurd printed

whole : (text : List ℕ) (old new : Option (List ℕ)) (result : Result Unit Status) → Printed text old new result → answer_of result ≡ Done → new ≡ append_known old text
whole text old new (Ok done) printed is = printed
whole text old new (Err status) printed is = absurd (subst (λ s. Printed text old new (let r : Result Unit Status = Err s in r)) is printed)

pub print_not_of_shelf : (text : List ℕ) (old new : Option (List ℕ)) (result : Result Unit Status) → Printed text old new result → ¬ (answer_of result ≡ ShelfFault)
print_not_of_shelf text old new (Ok done) printed is = cc
print_not_of_shelf text old new (Err status) printed is = subst (λ s. Printed text old new (let r : Result Unit Status = Err s in r)) is printed

pub print_whole : (text given : List ℕ) (old new : Option (List ℕ)) (result : Result Unit Status) → (let r : Result (List ℕ) Status = Ok given in r) ≡ Ok text → Printed given old new result → answer_of result ≡ Done → new ≡ append_known old text
print_whole text given old new result same printed is = whole text old new result (subst (λ t. Printed t old new result) (same_value given text same) printed) is
