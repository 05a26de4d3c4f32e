-- The exits of commands whose steps have a text, which is printed, or a folder, which is published.
use Rattle.std.proofs.Common.{◌≡◌, ◌⊎◌, inl, inr, ℕ, true, List, [], map, Option, Some, None, IfSome, IsSome, Result, Ok, Err, refl, ap, sym, ◌∙◌, subst}
use Rattle.std.proofs.lemmas.List.{append-nil}
use Rattle.std.specs.Option.{option_map}
use Rattle.std.specs.Io.KnownBytes.{append_known}
use Rattle.mt_fault.specs.declared.file.FileBytes.{FileBytes}
use Rattle.mt_shelf.specs.Causes.{Rose}
use Rattle.mt_shelf.specs.Files.{Files, gained_files}
use Rattle.mt_shelf.specs.Held.{pair_of}
use Rattle.mt_shelf.specs.Streams.{GrowsByPrefix}
use Rattle.mt_command.specs.Outcomes.{Outcomes}
use Rattle.mt_command.specs.Commands.{PrintsTextOf, PublishesFolderOf, printing_plan, publishing_plan}
use Rattle.mt_command.specs.Plans.{Answers, world, refusal_of, answer_of}
use Rattle.mt_command.specs.Status.{is_outside_fault}
use Rattle.mt_command.specs.Steps.{Counts, StepCausedBy, Printed, Stored, of_shelf, of_output}
use Rattle.mt_command.specs.declared.status.Status.{Status}
use Rattle.mt_command.specs.declared.status.Status.TheVariants.{Done, AtFault, BadWords, NoTable, NoPart, BadTable, BadQuery, Exists, NoRows, BadRows, ManyPartitions, MixedPartitions, TooMuch, SourceFault, ShelfFault, SinkFault, NoMemory}
use Rattle.mt_command.proofs.RefusedLemmas.{for_all_known, for_all_files, printed_nothing}

never_early : {X : Type 0} → IsSome (let o : Option Status = None in o) → X
never_early some = cc

outside_answers : (refused : Option Status) (status : Status) → is_outside_fault status ≡ true → Answers refused status
outside_answers refused status is = λ inside. cc

files_stay : (files mid : Option Files) (left : Option (List ℕ)) → mid ≡ files → IfSome files (λ f. IfSome left (λ input. mid ≡ Some f))
files_stay None mid left same = tt
files_stay (Some f) mid None same = tt
files_stay (Some f) mid (Some input) same = same

-- ---- a text

pub printing_printed : (steps : Files → Outcomes (List ℕ)) (text : List ℕ) (result : Result Unit Status) (left written written' : Option (List ℕ)) (files mid : Option Files) (a b c b' c' : ℕ)
    → IfSome files (λ f. steps f (Ok text)) → mid ≡ files → of_shelf c' ≡ of_shelf c
    → Printed text written written' result → StepCausedBy result (of_output b) (of_output b')
    → PrintsTextOf steps (world left written files a b c) (world left written' mid a b' c') (answer_of result)
printing_printed steps text (Ok done) left written written' files mid a b c b' c' gives same kept printed cause =
    let plan = printing_plan (Ok text) in (
      Ok text,
      inl gives,
      (
        record {
          answer = for_all_known files (Some []) (λ f i. Answers (refusal_of plan f i) Done) (λ f i inside. refl);
          early = for_all_files files (λ f. IsSome (plan.early f) → Answers (plan.early f) Done) (λ f some. never_early some);
          words = λ e. cc;
          left = (files_stay files mid (Some []) same, for_all_known files (Some []) (λ f i. written' ≡ append_known written (plan.text f i)) (λ f i. printed), λ e. cc);
          quiet = λ e. cc;
          unread = λ _. refl;
          taken = for_all_files files (λ f. IsSome (plan.early f) → left ≡ left) (λ f some. refl);
        },
        (refl, ap (λ (n : Counts). n.output) cause, ap (λ (n : Counts). n.shelf) kept),
      ),
    )
printing_printed steps text (Err SinkFault) left written written' files mid a b c b' c' gives same kept printed cause =
    let plan = printing_plan (Ok text) in (
      Ok text,
      inl gives,
      (
        record {
          answer = for_all_known files (Some []) (λ f i. Answers (refusal_of plan f i) SinkFault) (λ f i. outside_answers (refusal_of plan f i) SinkFault refl);
          early = for_all_files files (λ f. IsSome (plan.early f) → Answers (plan.early f) SinkFault) (λ f some. never_early some);
          words = λ e. cc;
          left = (same, for_all_known files (Some []) (λ f i. GrowsByPrefix (plan.text f i) written written') (λ f i. printed));
          quiet = λ e. cc;
          unread = λ _. refl;
          taken = for_all_files files (λ f. IsSome (plan.early f) → left ≡ left) (λ f some. refl);
        },
        (refl, cause.0, refl, ap (λ (n : Counts). n.shelf) kept),
      ),
    )
printing_printed steps text (Err NoMemory) left written written' files mid a b c b' c' gives same kept printed cause =
    let plan = printing_plan (Ok text) in (
      Ok text,
      inl gives,
      (
        record {
          answer = for_all_known files (Some []) (λ f i. Answers (refusal_of plan f i) NoMemory) (λ f i. outside_answers (refusal_of plan f i) NoMemory refl);
          early = for_all_files files (λ f. IsSome (plan.early f) → Answers (plan.early f) NoMemory) (λ f some. never_early some);
          words = λ e. cc;
          left = (inr same, for_all_known files (Some []) (λ f i. GrowsByPrefix (plan.text f i) written written') (λ f i. printed));
          quiet = λ e. cc;
          unread = λ _. refl;
          taken = for_all_files files (λ f. IsSome (plan.early f) → left ≡ left) (λ f some. refl);
        },
        tt,
      ),
    )
printing_printed steps text (Err Done) left written written' files mid a b c b' c' gives same kept printed cause = absurd printed
printing_printed steps text (Err BadWords) left written written' files mid a b c b' c' gives same kept printed cause = absurd printed
printing_printed steps text (Err (AtFault word fault)) left written written' files mid a b c b' c' gives same kept printed cause = absurd printed
printing_printed steps text (Err NoTable) left written written' files mid a b c b' c' gives same kept printed cause = absurd printed
printing_printed steps text (Err (NoPart word)) left written written' files mid a b c b' c' gives same kept printed cause = absurd printed
printing_printed steps text (Err (BadTable why)) left written written' files mid a b c b' c' gives same kept printed cause = absurd printed
printing_printed steps text (Err (BadQuery why)) left written written' files mid a b c b' c' gives same kept printed cause = absurd printed
printing_printed steps text (Err Exists) left written written' files mid a b c b' c' gives same kept printed cause = absurd printed
printing_printed steps text (Err NoRows) left written written' files mid a b c b' c' gives same kept printed cause = absurd printed
printing_printed steps text (Err (BadRows line why)) left written written' files mid a b c b' c' gives same kept printed cause = absurd printed
printing_printed steps text (Err (ManyPartitions line)) left written written' files mid a b c b' c' gives same kept printed cause = absurd printed
printing_printed steps text (Err (MixedPartitions input)) left written written' files mid a b c b' c' gives same kept printed cause = absurd printed
printing_printed steps text (Err (TooMuch what limit)) left written written' files mid a b c b' c' gives same kept printed cause = absurd printed
printing_printed steps text (Err SourceFault) left written written' files mid a b c b' c' gives same kept printed cause = absurd printed
printing_printed steps text (Err ShelfFault) left written written' files mid a b c b' c' gives same kept printed cause = absurd printed

-- ---- a folder

-- the files gained what the plan has
files_gained : (part : List ℕ) (folder : List FileBytes) (files mid : Option Files) (left : Option (List ℕ)) (new : Option Files) → mid ≡ files
    → new ≡ option_map (gained_files part (map pair_of folder)) mid
    → IfSome files (λ f. IfSome left (λ input. new ≡ Some ((publishing_plan part (Ok folder)).files f input)))
files_gained part folder files mid left new same is = gained files (is ∙ ap (option_map (gained_files part (map pair_of folder))) same)
  where
    gained : (files : Option Files) → new ≡ option_map (gained_files part (map pair_of folder)) files → IfSome files (λ f. IfSome left (λ input. new ≡ Some (gained_files part (map pair_of folder) f)))
    gained None is = tt
    gained (Some f) is = known left
      where
        known : (left : Option (List ℕ)) → IfSome left (λ input. new ≡ Some (gained_files part (map pair_of folder) f))
        known None = tt
        known (Some input) = is

nothing_printed : (written : Option (List ℕ)) → written ≡ append_known written []
nothing_printed None = refl
nothing_printed (Some xs) = ap Some (sym (append-nil xs))

-- a folder is stored, with counts of the shelf alone
pub publishing_stored : (part : List ℕ) (steps : Files → Outcomes (List FileBytes)) (folder : List FileBytes) (result : Result Unit Status) (left written : Option (List ℕ)) (files mid new : Option Files) (a b c c' c'' : ℕ)
    → IfSome files (λ f. steps f (Ok folder)) → mid ≡ files → of_shelf c' ≡ of_shelf c
    → Stored (option_map (gained_files part (map pair_of folder)) mid) mid new result → StepCausedBy result (of_shelf c') (of_shelf c'')
    → PublishesFolderOf part steps (world left written files a b c) (world left written new a b c'') (answer_of result)
publishing_stored part steps folder (Ok done) left written files mid new a b c c' c'' gives same kept stored cause =
    let plan = publishing_plan part (Ok folder) in (
      Ok folder,
      inl gives,
      (
        record {
          answer = for_all_known files (Some []) (λ f i. Answers (refusal_of plan f i) Done) (λ f i inside. refl);
          early = for_all_files files (λ f. IsSome (plan.early f) → Answers (plan.early f) Done) (λ f some. never_early some);
          words = λ e. cc;
          left = (files_gained part folder files mid (Some []) new same stored, for_all_known files (Some []) (λ f i. written ≡ append_known written (plan.text f i)) (λ f i. nothing_printed written), λ e. cc);
          quiet = λ _. refl;
          unread = λ _. refl;
          taken = for_all_files files (λ f. IsSome (plan.early f) → left ≡ left) (λ f some. refl);
        },
        (refl, refl, ap (λ (n : Counts). n.shelf) cause ∙ ap (λ (n : Counts). n.shelf) kept),
      ),
    )
publishing_stored part steps folder (Err ShelfFault) left written files mid new a b c c' c'' gives same kept stored cause =
    let plan = publishing_plan part (Ok folder) in (
      Ok folder,
      inl gives,
      (
        record {
          answer = for_all_known files (Some []) (λ f i. Answers (refusal_of plan f i) ShelfFault) (λ f i. outside_answers (refusal_of plan f i) ShelfFault refl);
          early = for_all_files files (λ f. IsSome (plan.early f) → Answers (plan.early f) ShelfFault) (λ f some. never_early some);
          words = λ e. cc;
          left = (after stored, refl);
          quiet = λ _. refl;
          unread = λ _. refl;
          taken = for_all_files files (λ f. IsSome (plan.early f) → left ≡ left) (λ f some. refl);
        },
        (subst (λ n. Rose n c'') (ap (λ (n : Counts). n.shelf) kept) cause.0, refl, refl),
      ),
    )
  where
    after : (new ≡ option_map (gained_files part (map pair_of folder)) mid) ⊎ (new ≡ mid) → IfSome files (λ f. IfSome (let o : Option (List ℕ) = Some [] in o) (λ input. new ≡ Some ((publishing_plan part (Ok folder)).files f input))) ⊎ (new ≡ files)
    after (inl is) = inl (files_gained part folder files mid (Some []) new same is)
    after (inr is) = inr (is ∙ same)
publishing_stored part steps folder (Err NoMemory) left written files mid new a b c c' c'' gives same kept stored cause =
    let plan = publishing_plan part (Ok folder) in (
      Ok folder,
      inl gives,
      (
        record {
          answer = for_all_known files (Some []) (λ f i. Answers (refusal_of plan f i) NoMemory) (λ f i. outside_answers (refusal_of plan f i) NoMemory refl);
          early = for_all_files files (λ f. IsSome (plan.early f) → Answers (plan.early f) NoMemory) (λ f some. never_early some);
          words = λ e. cc;
          left = (inr (stored ∙ same), printed_nothing plan (world left written files a b c) (world left written new a b c'') refl);
          quiet = λ _. refl;
          unread = λ _. refl;
          taken = for_all_files files (λ f. IsSome (plan.early f) → left ≡ left) (λ f some. refl);
        },
        tt,
      ),
    )
publishing_stored part steps folder (Err Done) left written files mid new a b c c' c'' gives same kept stored cause = absurd stored
publishing_stored part steps folder (Err BadWords) left written files mid new a b c c' c'' gives same kept stored cause = absurd stored
publishing_stored part steps folder (Err (AtFault word fault)) left written files mid new a b c c' c'' gives same kept stored cause = absurd stored
publishing_stored part steps folder (Err NoTable) left written files mid new a b c c' c'' gives same kept stored cause = absurd stored
publishing_stored part steps folder (Err (NoPart word)) left written files mid new a b c c' c'' gives same kept stored cause = absurd stored
publishing_stored part steps folder (Err (BadTable why)) left written files mid new a b c c' c'' gives same kept stored cause = absurd stored
publishing_stored part steps folder (Err (BadQuery why)) left written files mid new a b c c' c'' gives same kept stored cause = absurd stored
publishing_stored part steps folder (Err Exists) left written files mid new a b c c' c'' gives same kept stored cause = absurd stored
publishing_stored part steps folder (Err NoRows) left written files mid new a b c c' c'' gives same kept stored cause = absurd stored
publishing_stored part steps folder (Err (BadRows line why)) left written files mid new a b c c' c'' gives same kept stored cause = absurd stored
publishing_stored part steps folder (Err (ManyPartitions line)) left written files mid new a b c c' c'' gives same kept stored cause = absurd stored
publishing_stored part steps folder (Err (MixedPartitions input)) left written files mid new a b c c' c'' gives same kept stored cause = absurd stored
publishing_stored part steps folder (Err (TooMuch what limit)) left written files mid new a b c c' c'' gives same kept stored cause = absurd stored
publishing_stored part steps folder (Err SourceFault) left written files mid new a b c c' c'' gives same kept stored cause = absurd stored
publishing_stored part steps folder (Err SinkFault) left written files mid new a b c c' c'' gives same kept stored cause = absurd stored
