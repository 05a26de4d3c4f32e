-- What stands where the steps of a command end before anything is printed or published.
use Rattle.std.proofs.Common.{◌≡◌, inl, inr, ℕ, Bool, true, false, List, [], Option, Some, None, IfSome, IsSome, Result, Err, refl, ap, sym, ◌∙◌, arith}
use Rattle.std.proofs.lemmas.List.{append-nil}
use Rattle.std.specs.Io.KnownBytes.{append_known}
use Rattle.mt_fault.specs.declared.file.FileBytes.{FileBytes}
use Rattle.mt_shelf.specs.Causes.{Rose}
use Rattle.mt_shelf.specs.Files.{Files}
use Rattle.mt_shelf.specs.Streams.{GrowsByPrefix}
use Rattle.mt_command.specs.Outcomes.{Outcomes, ReturnsOutcome}
use Rattle.mt_command.specs.Commands.{IsOutcome, PrintsTextOf, PublishesFolderOf, printing_plan, publishing_plan}
use Rattle.mt_command.specs.Plans.{Plan, World, Leaves, CausedBy, PrintsPrefix, Answers, input_of, world, refusal_of}
use Rattle.mt_command.specs.Status.{is_outside_fault}
use Rattle.mt_command.specs.Steps.{Counts, StepCausedBy, of_shelf}
use Rattle.mt_command.specs.declared.status.Status.{Status}
use Rattle.mt_command.specs.declared.status.Status.TheVariants.{Done, AtFault, BadWords, NoTable, NoPart, BadTable, BadQuery, Exists, NoRows, BadRows, ManyPartitions, MixedPartitions, TooMuch, SourceFault, ShelfFault, SinkFault, NoMemory}

-- nothing is a prefix of every text
pub grew_by_nothing : (known now : Option (List ℕ)) (text : List ℕ) → now ≡ known → GrowsByPrefix text known now
grew_by_nothing known now text same = (0, same ∙ sym (nothing known))
  where
    nothing : (known : Option (List ℕ)) → append_known known [] ≡ known
    nothing None = refl
    nothing (Some xs) = ap Some (append-nil xs)

-- what holds whatever the files and the input are
pub for_all_known : (files : Option Files) (left : Option (List ℕ)) (P : Files → List ℕ → Type 0) → ((f : Files) (i : List ℕ) → P f i) → IfSome files (λ f. IfSome left (P f))
for_all_known None left P holds = tt
for_all_known (Some f) None P holds = tt
for_all_known (Some f) (Some i) P holds = holds f i

pub printed_nothing : (plan : Plan) (old new : World) → new.written ≡ old.written → PrintsPrefix plan old new
printed_nothing plan old new same = for_all_known old.files (input_of plan old) (λ f i. GrowsByPrefix (plan.text f i) old.written new.written) (λ f i. grew_by_nothing old.written new.written (plan.text f i) same)

pub for_all_files : (files : Option Files) (P : Files → Type 0) → ((f : Files) → P f) → IfSome files P
for_all_files None P holds = tt
for_all_files (Some f) P holds = holds f

-- ---- causes

pub never_rose : {A : Type 0} → Rose 0 0 → A
never_rose rose = absurd (omega (arith, rose))

-- a step that uses the shelf alone
pub shelf_cause : (A : Type 0) (plan : Plan) (status : Status) (left left' written written' : Option (List ℕ)) (files files' : Option Files) (a b c c' : ℕ)
    → StepCausedBy (let r : Result A Status = Err status in r) (of_shelf c) (of_shelf c') → CausedBy plan (world left written files a b c) (world left' written' files' a b c') status
shelf_cause A plan Done left left' written written' files files' a b c c' cause = absurd cause
shelf_cause A plan SourceFault left left' written written' files files' a b c c' cause = never_rose cause.0
shelf_cause A plan SinkFault left left' written written' files files' a b c c' cause = never_rose cause.0
shelf_cause A plan ShelfFault left left' written written' files files' a b c c' cause = (cause.0, refl, refl)
shelf_cause A plan NoMemory left left' written written' files files' a b c c' cause = tt
shelf_cause A plan BadWords left left' written written' files files' a b c c' cause = absurd cause
shelf_cause A plan (AtFault word fault) left left' written written' files files' a b c c' cause = (refl, refl, ap (λ (n : Counts). n.shelf) cause)
shelf_cause A plan NoTable left left' written written' files files' a b c c' cause = (refl, refl, ap (λ (n : Counts). n.shelf) cause)
shelf_cause A plan (NoPart word) left left' written written' files files' a b c c' cause = (refl, refl, ap (λ (n : Counts). n.shelf) cause)
shelf_cause A plan (BadTable why) left left' written written' files files' a b c c' cause = (refl, refl, ap (λ (n : Counts). n.shelf) cause)
shelf_cause A plan (BadQuery why) left left' written written' files files' a b c c' cause = (refl, refl, ap (λ (n : Counts). n.shelf) cause)
shelf_cause A plan Exists left left' written written' files files' a b c c' cause = (refl, refl, ap (λ (n : Counts). n.shelf) cause)
shelf_cause A plan NoRows left left' written written' files files' a b c c' cause = (refl, refl, ap (λ (n : Counts). n.shelf) cause)
shelf_cause A plan (BadRows line why) left left' written written' files files' a b c c' cause = (refl, refl, ap (λ (n : Counts). n.shelf) cause)
shelf_cause A plan (ManyPartitions line) left left' written written' files files' a b c c' cause = (refl, refl, ap (λ (n : Counts). n.shelf) cause)
shelf_cause A plan (MixedPartitions input) left left' written written' files files' a b c c' cause = (refl, refl, ap (λ (n : Counts). n.shelf) cause)
shelf_cause A plan (TooMuch what limit) left left' written written' files files' a b c c' cause = (refl, refl, ap (λ (n : Counts). n.shelf) cause)

-- ---- refused, or ended from outside

-- what stands is what stood
pub unchanged_left : (A : Type 0) (plan : Plan) (status : Status) (left left' written : Option (List ℕ)) (files mid : Option Files) (a b c a' b' c' : ℕ) (before now : Counts)
    → mid ≡ files → StepCausedBy (let r : Result A Status = Err status in r) before now → Leaves plan (world left written files a b c) (world left' written mid a' b' c') status × ¬ (status ≡ BadWords)
unchanged_left A plan Done left left' written files mid a b c a' b' c' before now same cause = absurd cause
unchanged_left A plan ShelfFault left left' written files mid a b c a' b' c' before now same cause = ((inr same, refl), λ e. cc)
unchanged_left A plan SinkFault left left' written files mid a b c a' b' c' before now same cause = ((same, printed_nothing plan (world left written files a b c) (world left' written mid a' b' c') refl), λ e. cc)
unchanged_left A plan NoMemory left left' written files mid a b c a' b' c' before now same cause = ((inr same, printed_nothing plan (world left written files a b c) (world left' written mid a' b' c') refl), λ e. cc)
unchanged_left A plan SourceFault left left' written files mid a b c a' b' c' before now same cause = ((same, refl), λ e. cc)
unchanged_left A plan BadWords left left' written files mid a b c a' b' c' before now same cause = absurd cause
unchanged_left A plan (AtFault word fault) left left' written files mid a b c a' b' c' before now same cause = ((same, refl), λ e. cc)
unchanged_left A plan NoTable left left' written files mid a b c a' b' c' before now same cause = ((same, refl), λ e. cc)
unchanged_left A plan (NoPart word) left left' written files mid a b c a' b' c' before now same cause = ((same, refl), λ e. cc)
unchanged_left A plan (BadTable why) left left' written files mid a b c a' b' c' before now same cause = ((same, refl), λ e. cc)
unchanged_left A plan (BadQuery why) left left' written files mid a b c a' b' c' before now same cause = ((same, refl), λ e. cc)
unchanged_left A plan Exists left left' written files mid a b c a' b' c' before now same cause = ((same, refl), λ e. cc)
unchanged_left A plan NoRows left left' written files mid a b c a' b' c' before now same cause = ((same, refl), λ e. cc)
unchanged_left A plan (BadRows line why) left left' written files mid a b c a' b' c' before now same cause = ((same, refl), λ e. cc)
unchanged_left A plan (ManyPartitions line) left left' written files mid a b c a' b' c' before now same cause = ((same, refl), λ e. cc)
unchanged_left A plan (MixedPartitions input) left left' written files mid a b c a' b' c' before now same cause = ((same, refl), λ e. cc)
unchanged_left A plan (TooMuch what limit) left left' written files mid a b c a' b' c' before now same cause = ((same, refl), λ e. cc)

-- the steps refuse so, unless the status comes from outside
abbrev pub Refuses : {A : Type 0} → (Files → Outcomes A) → Status → Option Files → Type 0
Refuses {A} steps status files = IfSome files (λ f. ReturnsOutcome (let r : Result A Status = Err status in r) (steps f))

-- the refusal is the outcome, or the run ended early
pub refused_outcome : {A : Type 0} (steps : Files → Outcomes A) (status : Status) (b : Bool) (left written : Option (List ℕ)) (files mid : Option Files) (a b' c c' : ℕ) → is_outside_fault status ≡ b → Refuses steps status files → mid ≡ files
    → IsOutcome steps (world left written files a b' c) (world left written mid a b' c') status (Err status)
refused_outcome steps status true left written files mid a b' c c' outside refuses same = inr (outside, (same, refl))
refused_outcome steps status false left written None mid a b' c c' outside refuses same = inl tt
refused_outcome steps status false left written (Some f) mid a b' c c' outside refuses same = inl (refuses outside)

answers_itself : (status : Status) → Answers (Some status) status
answers_itself status inside = refl

-- a command that is refused, or ended from outside, by its steps
pub printing_refused : (steps : Files → Outcomes (List ℕ)) (status : Status) (left written : Option (List ℕ)) (files mid : Option Files) (a b c c' : ℕ)
    → Refuses steps status files → mid ≡ files → StepCausedBy (let r : Result (List ℕ) Status = Err status in r) (of_shelf c) (of_shelf c')
    → PrintsTextOf steps (world left written files a b c) (world left written mid a b c') status
printing_refused steps status left written files mid a b c c' refuses same cause =
    let plan = printing_plan (Err status) in
    let stands = unchanged_left (List ℕ) plan status left left written files mid a b c a b c' (of_shelf c) (of_shelf c') same cause in (
      Err status,
      refused_outcome steps status (is_outside_fault status) left written files mid a b c c' refl refuses same,
      (
        record {
          answer = for_all_known files (Some []) (λ f i. Answers (refusal_of plan f i) status) (λ f i. answers_itself status);
          early = for_all_files files (λ f. IsSome (plan.early f) → Answers (plan.early f) status) (λ f some. answers_itself status);
          words = stands.1;
          left = stands.0;
          quiet = λ _. refl;
          unread = λ _. refl;
          taken = for_all_files files (λ f. IsSome (plan.early f) → left ≡ left) (λ f some. refl);
        },
        shelf_cause (List ℕ) plan status left left written written files mid a b c c' cause,
      ),
    )

-- a command that is refused, or ended from outside, by its steps
pub publishing_refused : (part : List ℕ) (steps : Files → Outcomes (List FileBytes)) (status : Status) (left written : Option (List ℕ)) (files mid : Option Files) (a b c c' : ℕ)
    → Refuses steps status files → mid ≡ files → StepCausedBy (let r : Result (List FileBytes) Status = Err status in r) (of_shelf c) (of_shelf c')
    → PublishesFolderOf part steps (world left written files a b c) (world left written mid a b c') status
publishing_refused part steps status left written files mid a b c c' refuses same cause =
    let plan = publishing_plan part (Err status) in
    let stands = unchanged_left (List FileBytes) plan status left left written files mid a b c a b c' (of_shelf c) (of_shelf c') same cause in (
      Err status,
      refused_outcome steps status (is_outside_fault status) left written files mid a b c c' refl refuses same,
      (
        record {
          answer = for_all_known files (Some []) (λ f i. Answers (refusal_of plan f i) status) (λ f i. answers_itself status);
          early = for_all_files files (λ f. IsSome (plan.early f) → Answers (plan.early f) status) (λ f some. answers_itself status);
          words = stands.1;
          left = stands.0;
          quiet = λ _. refl;
          unread = λ _. refl;
          taken = for_all_files files (λ f. IsSome (plan.early f) → left ≡ left) (λ f some. refl);
        },
        shelf_cause (List FileBytes) plan status left left written written files mid a b c c' cause,
      ),
    )
