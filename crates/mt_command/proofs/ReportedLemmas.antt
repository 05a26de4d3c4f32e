-- What stays true of a command whose status turns into NoMemory, as where none is left for its note.
use Rattle.std.proofs.Common.{◌≡◌, ◌⊎◌, inl, inr, ℕ, List, Option, Some, None, IfSome, IsSome, Result, refl, ap, sym, ◌∙◌, subst}
use Rattle.mt_fault.specs.declared.file.FileBytes.{FileBytes}
use Rattle.mt_shelf.specs.Files.{Files}
use Rattle.mt_command.specs.Commands.{IsOutcome, PrintsTextOf, PublishesFolderOf, printing_plan, publishing_plan}
use Rattle.mt_command.specs.Outcomes.{Outcomes}
use Rattle.mt_command.specs.Plans.{Plan, World, Leaves, CausedBy, Performs, Answers, input_of, refusal_of}
use Rattle.mt_command.specs.Status.{is_outside_fault}
use Rattle.mt_command.specs.declared.status.Status.{Status}
use Rattle.mt_command.specs.declared.status.Status.TheVariants.{Done, AtFault, BadWords, NoTable, NoPart, BadTable, BadQuery, Exists, NoRows, BadRows, ManyPartitions, MixedPartitions, TooMuch, SourceFault, ShelfFault, SinkFault, NoMemory}
use Rattle.mt_command.proofs.RefusedLemmas.{printed_nothing}

-- the status that is reported of another
abbrev pub IsReportedAs : Status → Status → Type 0
IsReportedAs status reported = (reported ≡ status) ⊎ ((reported ≡ NoMemory) × ¬ (status ≡ Done))

-- gained files keep their cause
with_cause : {A B C : Type 0} → A ⊎ B → C → (A × C) ⊎ B
with_cause (inl a) c = inl (a, c)
with_cause (inr b) c = inr b

left_of_memory : (plan : Plan) (old new : World) (status : Status) → ¬ (status ≡ Done) → CausedBy plan old new status → Leaves plan old new status → Leaves plan old new NoMemory
left_of_memory plan old new Done refused cause left = absurd (refused refl)
left_of_memory plan old new ShelfFault refused cause left = (with_cause left.0 cause.0, printed_nothing plan old new left.1)
left_of_memory plan old new SinkFault refused cause left = (inr left.0, left.1)
left_of_memory plan old new NoMemory refused cause left = left
left_of_memory plan old new SourceFault refused cause left = (inr left.0, printed_nothing plan old new left.1)
left_of_memory plan old new BadWords refused cause left = (inr left.0, printed_nothing plan old new left.1)
left_of_memory plan old new (AtFault part fault) refused cause left = (inr left.0, printed_nothing plan old new left.1)
left_of_memory plan old new NoTable refused cause left = (inr left.0, printed_nothing plan old new left.1)
left_of_memory plan old new (NoPart part) refused cause left = (inr left.0, printed_nothing plan old new left.1)
left_of_memory plan old new (BadTable why) refused cause left = (inr left.0, printed_nothing plan old new left.1)
left_of_memory plan old new (BadQuery why) refused cause left = (inr left.0, printed_nothing plan old new left.1)
left_of_memory plan old new Exists refused cause left = (inr left.0, printed_nothing plan old new left.1)
left_of_memory plan old new NoRows refused cause left = (inr left.0, printed_nothing plan old new left.1)
left_of_memory plan old new (BadRows line why) refused cause left = (inr left.0, printed_nothing plan old new left.1)
left_of_memory plan old new (ManyPartitions line) refused cause left = (inr left.0, printed_nothing plan old new left.1)
left_of_memory plan old new (MixedPartitions input) refused cause left = (inr left.0, printed_nothing plan old new left.1)
left_of_memory plan old new (TooMuch what limit) refused cause left = (inr left.0, printed_nothing plan old new left.1)

answers_memory : (refusal : Option Status) → Answers refusal NoMemory
answers_memory refusal e = cc

answer_of_memory : {A B : Type 0} (files : Option A) (left : Option B) (refusal : A → B → Option Status) → IfSome files (λ f. IfSome left (λ input. Answers (refusal f input) NoMemory))
answer_of_memory None left refusal = tt
answer_of_memory (Some f) None refusal = tt
answer_of_memory (Some f) (Some input) refusal = answers_memory (refusal f input)

early_memory : {A : Type 0} (files : Option A) (refusal : A → Option Status) → IfSome files (λ f. IsSome (refusal f) → Answers (refusal f) NoMemory)
early_memory None refusal = tt
early_memory (Some f) refusal = λ _. answers_memory (refusal f)

no_words : ¬ (NoMemory ≡ BadWords)
no_words e = cc

performed_memory : (plan : Option Plan) (old new : World) (status : Status) → ¬ (status ≡ Done) → Performs plan old new status → Performs plan old new NoMemory
performed_memory None old new status refused (same, words) = (same, inr refl)
performed_memory (Some plan) old new status refused (meets, cause) = (
  record {
    answer = answer_of_memory old.files (input_of plan old) (refusal_of plan);
    early = early_memory old.files plan.early;
    words = no_words;
    left = left_of_memory plan old new status refused cause meets.left;
    quiet = meets.quiet;
    unread = meets.unread;
    taken = meets.taken;
  },
  tt,
)

-- a command's contract holds of the reported answer too
pub performs_reported : (plan : Option Plan) (old new : World) (status reported : Status) → IsReportedAs status reported → Performs plan old new status → Performs plan old new reported
performs_reported plan old new status reported (inl same) performs = let P : Status → Type 0 = λ s. Performs plan old new s in subst P (sym same) performs
performs_reported plan old new status reported (inr memory) performs =
    let P : Status → Type 0 = λ s. Performs plan old new s in subst P (sym memory.0) (performed_memory plan old new status memory.1 performs)

-- ---- by the outcome of steps

-- the outcome stays, and the run ended as early
outcome_reported : {A : Type 0} (steps : Files → Outcomes A) (old new : World) (status reported : Status) (outcome : Result A Status) → IsReportedAs status reported → IsOutcome steps old new status outcome
    → IsOutcome steps old new reported outcome
outcome_reported steps old new status reported outcome is (inl known) = inl known
outcome_reported steps old new status reported outcome (inl same) (inr (outside, unchanged)) = inr (ap is_outside_fault same ∙ outside, unchanged)
outcome_reported steps old new status reported outcome (inr memory) (inr (outside, unchanged)) = inr (ap is_outside_fault memory.0, unchanged)

pub prints_reported : (steps : Files → Outcomes (List ℕ)) (old new : World) (status reported : Status) → IsReportedAs status reported → PrintsTextOf steps old new status → PrintsTextOf steps old new reported
prints_reported steps old new status reported is (outcome, known, performs) =
    (outcome, outcome_reported steps old new status reported outcome is known, performs_reported (Some (printing_plan outcome)) old new status reported is performs)

pub publishes_reported : (part : List ℕ) (steps : Files → Outcomes (List FileBytes)) (old new : World) (status reported : Status) → IsReportedAs status reported → PublishesFolderOf part steps old new status
    → PublishesFolderOf part steps old new reported
publishes_reported part steps old new status reported is (outcome, known, performs) =
    (outcome, outcome_reported steps old new status reported outcome is known, performs_reported (Some (publishing_plan part outcome)) old new status reported is performs)
