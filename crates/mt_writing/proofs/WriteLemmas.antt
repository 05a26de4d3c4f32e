-- The exits of `write` once the folder is made, each as the plan has it.
use Rattle.std.proofs.Common.{◌≡◌, ◌⊎◌, inl, inr, ℕ, true, false, List, [], map, Option, Some, None, IfSome, IsSome, Result, Ok, Err, refl, ap, sym, ◌∙◌, subst}
use Rattle.std.proofs.lemmas.List.{append-nil}
use Rattle.std.specs.Option.{option_map}
use Rattle.std.specs.Io.KnownBytes.{append_known, IsAtEnd}
use Rattle.mt_table.specs.declared.definition.Table.{Table}
use Rattle.mt_fault.specs.declared.file.FileBytes.{FileBytes}
use Rattle.mt_shelf.specs.Streams.{GrowsByPrefix}
use Rattle.mt_shelf.specs.Files.{Files, gained_files}
use Rattle.mt_shelf.specs.Held.{pair_of}
use Rattle.mt_command.specs.Status.{is_outside_fault, refusal, ◌>>=◌}
use Rattle.mt_command.specs.Plans.{Meets, Answers, refusal_of, world, or_else, status_of, answer_of}
use Rattle.mt_command.specs.Steps.{Counts, StepCausedBy, Stored}
use Rattle.mt_command.specs.Tables.{table_in}
use Rattle.mt_command.specs.Targets.{free_target, with_folder}
use Rattle.mt_writing.specs.Write.{table_for, folder_for, write_plan}
use Rattle.mt_command.specs.declared.status.Status.{Status}
use Rattle.mt_command.specs.declared.status.Status.TheVariants.{Done, AtFault, BadWords, NoTable, NoPart, BadTable, BadQuery, Exists, NoRows, BadRows, ManyPartitions, MixedPartitions, TooMuch, SourceFault, ShelfFault, SinkFault, NoMemory}
use Rattle.mt_command.proofs.RefusedLemmas.{grew_by_nothing, unchanged_left}

-- ---- where the outside shows enough

if_some : {A : Type 0} {P R : A → Type 0} → ((a : A) → P a → R a) → (o : Option A) → IfSome o P → IfSome o R
if_some h None p = tt
if_some h (Some a) p = h a p

if_both : {A B : Type 0} {P : A → Type 0} {Q : B → Type 0} {R : A → B → Type 0} → ((a : A) (b : B) → P a → Q b → R a b) → (o : Option A) (u : Option B) → IfSome o P → IfSome u Q → IfSome o (λ a. IfSome u (R a))
if_both h None u p q = tt
if_both h (Some a) None p q = tt
if_both h (Some a) (Some b) p q = h a b p q

-- ---- a first step that has a value, and a second one

-- the first step refuses nothing
not_refused : {A X : Type 0} (first : Result A Status) (x : A) → first ≡ Ok x → IsSome (refusal first) → X
not_refused (Ok y) x is some = cc
not_refused (Err status) x is some = cc

none_refuses : {A B : Type 0} (first : Result A Status) (second : A → Result B Status) (x : A) (y : B) → first ≡ Ok x → second x ≡ Ok y → Answers (or_else (refusal first) (refusal (first >>= second))) Done
none_refuses (Ok z) second x y is gives = λ inside. let at_z : second z ≡ Ok y = cc in rw at_z refl
none_refuses (Err s) second x y is gives = cc

both_give : {A B : Type 0} (first : Result A Status) (second : A → Result B Status) (x : A) (y : B) → first ≡ Ok x → second x ≡ Ok y → (first >>= second) ≡ Ok y
both_give (Ok z) second x y is gives = cc
both_give (Err s) second x y is gives = cc

-- ---- no text is printed

printed_prefix : (path part : List ℕ) (files : Option Files) (left : Option (List ℕ)) (written : Option (List ℕ)) → IfSome files (λ f. IfSome left (λ input. GrowsByPrefix ((write_plan path part).text f input) written written))
printed_prefix path part None left written = tt
printed_prefix path part (Some f) None written = tt
printed_prefix path part (Some f) (Some input) written = grew_by_nothing written written [] refl

-- ---- the folder is published, or its step fails

-- the files gained what the plan has
files_gained : (path part : List ℕ) (table : Table) (folder : List FileBytes) (files : Option Files) (left : Option (List ℕ)) (new : Option Files)
    → IfSome files (λ f. table_for path part f ≡ Ok table)
    → IfSome left (λ input. folder_for table input ≡ Ok folder)
    → new ≡ option_map (gained_files part (map pair_of folder)) files
    → IfSome files (λ f. IfSome left (λ input. new ≡ Some ((write_plan path part).files f input)))
files_gained path part table folder None left new known gives is = tt
files_gained path part table folder (Some f) None new known gives is = tt
files_gained path part table folder (Some f) (Some input) new known gives is =
    is ∙ ap (λ r. Some (with_folder part r f)) (sym (both_give (table_for path part f) (λ t. folder_for t input) table folder known gives))

text_printed : (path part : List ℕ) (files : Option Files) (left written : Option (List ℕ)) → IfSome files (λ f. IfSome left (λ input. written ≡ append_known written ((write_plan path part).text f input)))
text_printed path part None left written = tt
text_printed path part (Some f) None written = tt
text_printed path part (Some f) (Some input) None = refl
text_printed path part (Some f) (Some input) (Some xs) = ap Some (sym (append-nil xs))

outside_answers : (status : Status) → is_outside_fault status ≡ true → (refused : Option Status) → Answers refused status
outside_answers status is refused = λ inside. cc

pub folder_stored : (path part : List ℕ) (table : Table) (folder : List FileBytes) (result : Result Unit Status) (left left' written : Option (List ℕ)) (files mid new : Option Files) (a b c a' b' c' : ℕ)
    → IfSome files (λ f. table_for path part f ≡ Ok table)
    → mid ≡ files
    → IfSome left (λ input. folder_for table input ≡ Ok folder)
    → IsAtEnd left'
    → Stored (option_map (gained_files part (map pair_of folder)) mid) mid new result
    → Meets (write_plan path part) (world left written files a b c) (world left' written new a' b' c') (answer_of result)
folder_stored path part table folder (Ok done) left left' written files mid new a b c a' b' c' known same gives ended stored = record {
  answer = if_both (λ f input is gives. none_refuses (table_for path part f) (λ t. folder_for t input) table folder is gives) files left known gives;
  early = if_some (λ f is some. not_refused (table_for path part f) table is some) files known;
  words = λ e. cc;
  left = (files_gained path part table folder files left new known gives (stored ∙ ap (option_map (gained_files part (map pair_of folder))) same), text_printed path part files left written, λ _. ended);
  quiet = λ _. refl;
  unread = λ none. cc;
  taken = if_some (λ f is some. not_refused (table_for path part f) table is some) files known;
}
folder_stored path part table folder (Err ShelfFault) left left' written files mid new a b c a' b' c' known same gives ended stored = record {
  answer = if_both (λ f input is gives. outside_answers ShelfFault refl (refusal_of (write_plan path part) f input)) files left known gives;
  early = if_some (λ f is some. not_refused (table_for path part f) table is some) files known;
  words = λ e. cc;
  left = (after stored, refl);
  quiet = λ _. refl;
  unread = λ none. cc;
  taken = if_some (λ f is some. not_refused (table_for path part f) table is some) files known;
}
  where
    after : (new ≡ option_map (gained_files part (map pair_of folder)) mid) ⊎ (new ≡ mid) → IfSome files (λ f. IfSome left (λ input. new ≡ Some ((write_plan path part).files f input))) ⊎ (new ≡ files)
    after (inl is) = inl (files_gained path part table folder files left new known gives (is ∙ ap (option_map (gained_files part (map pair_of folder))) same))
    after (inr is) = inr (is ∙ same)
folder_stored path part table folder (Err NoMemory) left left' written files mid new a b c a' b' c' known same gives ended stored = record {
  answer = if_both (λ f input is gives. outside_answers NoMemory refl (refusal_of (write_plan path part) f input)) files left known gives;
  early = if_some (λ f is some. not_refused (table_for path part f) table is some) files known;
  words = λ e. cc;
  left = (inr (stored ∙ same), printed_prefix path part files left written);
  quiet = λ _. refl;
  unread = λ none. cc;
  taken = if_some (λ f is some. not_refused (table_for path part f) table is some) files known;
}
folder_stored path part table folder (Err Done) left left' written files mid new a b c a' b' c' known same gives ended stored = absurd stored
folder_stored path part table folder (Err BadWords) left left' written files mid new a b c a' b' c' known same gives ended stored = absurd stored
folder_stored path part table folder (Err (AtFault word fault)) left left' written files mid new a b c a' b' c' known same gives ended stored = absurd stored
folder_stored path part table folder (Err NoTable) left left' written files mid new a b c a' b' c' known same gives ended stored = absurd stored
folder_stored path part table folder (Err (NoPart word)) left left' written files mid new a b c a' b' c' known same gives ended stored = absurd stored
folder_stored path part table folder (Err (BadTable why)) left left' written files mid new a b c a' b' c' known same gives ended stored = absurd stored
folder_stored path part table folder (Err (BadQuery why)) left left' written files mid new a b c a' b' c' known same gives ended stored = absurd stored
folder_stored path part table folder (Err Exists) left left' written files mid new a b c a' b' c' known same gives ended stored = absurd stored
folder_stored path part table folder (Err NoRows) left left' written files mid new a b c a' b' c' known same gives ended stored = absurd stored
folder_stored path part table folder (Err (BadRows line why)) left left' written files mid new a b c a' b' c' known same gives ended stored = absurd stored
folder_stored path part table folder (Err (ManyPartitions line)) left left' written files mid new a b c a' b' c' known same gives ended stored = absurd stored
folder_stored path part table folder (Err (MixedPartitions input)) left left' written files mid new a b c a' b' c' known same gives ended stored = absurd stored
folder_stored path part table folder (Err (TooMuch what limit)) left left' written files mid new a b c a' b' c' known same gives ended stored = absurd stored
folder_stored path part table folder (Err SourceFault) left left' written files mid new a b c a' b' c' known same gives ended stored = absurd stored
folder_stored path part table folder (Err SinkFault) left left' written files mid new a b c a' b' c' known same gives ended stored = absurd stored

-- ---- a step before that is refused

-- the target stands, or the shelf failed
target_steps : {A : Type 0} (first : Result A Status) (second : Result Unit Status) (x : A) (status : Status) → first ≡ Ok x → second ≡ Err status → (first >>= λ y. second >>= λ _. (let r : Result A Status = Ok y in r)) ≡ Err status
target_steps (Ok y) (Ok done) x status is gives = cc
target_steps (Ok y) (Err other) x status is gives = let same : other ≡ status = cc in ap Err same
target_steps (Err s) second x status is gives = cc

pub target_refused : (path part : List ℕ) (table : Table) (status : Status) (files mid : Option Files) → IfSome files (λ f. table_in path f ≡ Ok table) → mid ≡ files
    → IfSome mid (λ f. is_outside_fault status ≡ false → free_target part f ≡ Err status) → IfSome files (λ f. is_outside_fault status ≡ false → table_for path part f ≡ Err status)
target_refused path part table status None mid known same gives = tt
target_refused path part table status (Some f) mid known same gives =
    let here : is_outside_fault status ≡ false → free_target part f ≡ Err status = subst (λ files. IfSome files (λ g. is_outside_fault status ≡ false → free_target part g ≡ Err status)) same gives in
    λ inside. target_steps (table_in path f) (free_target part f) table status known (here inside)

then_refuses : {A B : Type 0} (first : Result A Status) (second : A → Result B Status) (x : A) (status : Status) → first ≡ Ok x → (is_outside_fault status ≡ false → second x ≡ Err status)
    → Answers (or_else (refusal first) (refusal (first >>= second))) status
then_refuses (Ok z) second x status is gives = λ inside. let same : z ≡ x = cc in sym (ap (λ r. status_of (refusal r)) (ap second same ∙ gives inside))
then_refuses (Err s) second x status is gives = cc

-- the input is refused, or failed
pub input_refused : (path part : List ℕ) (table : Table) (status : Status) (left left' written : Option (List ℕ)) (files mid : Option Files) (a b c a' b' c' : ℕ) (before now : Counts)
    → IfSome files (λ f. table_for path part f ≡ Ok table) → mid ≡ files → IfSome left (λ input. is_outside_fault status ≡ false → folder_for table input ≡ Err status)
    → StepCausedBy (let r : Result (List FileBytes) Status = Err status in r) before now
    → Meets (write_plan path part) (world left written files a b c) (world left' written mid a' b' c') status
input_refused path part table status left left' written files mid a b c a' b' c' before now known same gives cause =
    let both = unchanged_left (List FileBytes) (write_plan path part) status left left' written files mid a b c a' b' c' before now same cause in
    record {
      answer = if_both (λ f input is refuses. then_refuses (table_for path part f) (λ t. folder_for t input) table status is refuses) files left known gives;
      early = if_some (λ f is some. not_refused (table_for path part f) table is some) files known;
      words = both.1;
      left = both.0;
      quiet = λ _. refl;
      unread = λ none. cc;
      taken = if_some (λ f is some. not_refused (table_for path part f) table is some) files known;
    }
