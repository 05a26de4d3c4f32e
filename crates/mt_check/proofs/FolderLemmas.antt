-- A part's files, step by step.
use Rattle.std.proofs.Common.{◌≡◌, ℕ, ◌+◌, ◌<◌, ◌≤◌, Bool, true, false, List, [], ◌∷◌, ◌++◌, length, map, drop, refl, ap, sym, subst, ◌∙◌, get_or, arith}
use Rattle.std.specs.Prelude.{Option, option_map, Result, Ok, Err}
use Rattle.std.specs.List.{zip}
use Rattle.mt_facts.proofs.Lists.{drop_next}
use Rattle.std.proofs.lemmas.List.{get_or_default}
use Rattle.mt_types.specs.Steps.{◌>>=◌, require}
use Rattle.mt_types.proofs.StepLemmas.{then_of, require_is}
use Rattle.mt_fault.specs.declared.file.FileBytes.{FileBytes}
use Rattle.mt_fault.specs.declared.fault.Fault.{Fault}
use Rattle.mt_fault.specs.declared.error.FileError.{FileError}
use Rattle.mt_fault.specs.declared.error.FileError.TheVariants.{AtFault, NoMemory}
use Rattle.mt_fault.specs.declared.fault.Why.TheVariants as why
use Rattle.mt_table.specs.declared.definition.PartDef.{PartDef}
use Rattle.mt_table.specs.declared.definition.Table.{Table}
use Rattle.mt_table.specs.declared.projection.Projection.{Projection}
use Rattle.mt_table.specs.Stored.{no_projection, projection_at}
use Rattle.mt_defs.specs.Folder.{Folder, folder_of}
use Rattle.mt_defs.specs.Projections.{base_of, inner_of, projection_prefix, is_projection_of}
use Rattle.mt_fault.specs.Faults.{file_fault}
use Rattle.mt_files.specs.Faults.{named_below}
use Rattle.mt_names.specs.ProjectionFolders.{projection_folder}
use Rattle.mt_fault.specs.Results.{FailsAs}
use Rattle.mt_fault.specs.Results.{IsFault}
use Rattle.mt_definition.specs.declared.accepted.Accepted.{Accepted}
use Rattle.mt_definition.specs.DefinitionReading.{definition_reading}
use Rattle.mt_check.specs.FolderChecks.{projection_checks, each, files_checks, stored_checks, projections_checks, skip_checks}
use Rattle.mt_check.specs.PartitionReading.{partition_reading}
use Rattle.mt_check.specs.Results.{IsBelow}
use Rattle.mt_fault.proofs.FaultLemmas.{fails_then, fault_gives, test_fails}
use Rattle.mt_files.proofs.LoopLemmas.{at_end}

-- ---- a projection

below_fails : {A : Type 0} (prefix : List ℕ) (error e : FileError) (reading : Result A Fault) → FailsAs error reading → IsBelow prefix error e → FailsAs e (named_below prefix reading)
below_fails {A = A} prefix (AtFault fault) e reading fails below =
    fault_gives (record { file = prefix ++ fault.file; granule = fault.granule; at = fault.at; why = fault.why }) e (named_below prefix reading) below (ap (λ (r : Result A Fault). named_below prefix r) fails)
below_fails prefix NoMemory e reading fails below = subst (λ (error : FileError). FailsAs error (named_below prefix reading)) (sym below) tt

module _ (table : Table) (accepted : Accepted) (projection : Projection) (files : Folder) where
  abbrev inside : Result Accepted Fault
  inside = named_below (projection_prefix projection) (definition_reading (inner_of table projection) files)

  abbrev stands_check : Accepted → Result Unit Fault
  stands_check stored = require (is_projection_of table projection accepted.rows stored.rows) (file_fault (projection_folder projection) why.Projection)

  pub inside_fails : (definition : PartDef) (other : Projection) (error e : FileError) → definition ≡ inner_of table projection → other ≡ projection → FailsAs error (definition_reading definition files) → IsBelow (projection_prefix other) error e
      → FailsAs e (stored_checks table accepted projection files)
  inside_fails definition other error e is same fails below =
      fails_then e inside stands_check
      (below_fails (projection_prefix projection) error e (definition_reading (inner_of table projection) files)
      (subst (λ (d : PartDef). FailsAs error (definition_reading d files)) is fails) (subst (λ (p : Projection). IsBelow (projection_prefix p) error e) same below))

  stored_check : (definition : PartDef) (stored : Accepted) → definition ≡ inner_of table projection → definition_reading definition files ≡ Ok stored → stored_checks table accepted projection files ≡ stands_check stored
  stored_check definition stored is reads =
      then_of inside stored stands_check (ap (named_below (projection_prefix projection)) (ap (λ (d : PartDef). definition_reading d files) (sym is) ∙ reads))

  pub stands_not : (definition : PartDef) (other : Projection) (stored : Accepted) (e : FileError) → definition ≡ inner_of table projection → other ≡ projection → definition_reading definition files ≡ Ok stored
      → is_projection_of table projection accepted.rows stored.rows ≡ false → IsFault (file_fault (projection_folder other) why.Projection) e → FailsAs e (stored_checks table accepted projection files)
  stands_not definition other stored e is same reads not fault =
      subst (FailsAs e) (sym (stored_check definition stored is reads))
      (test_fails (is_projection_of table projection accepted.rows stored.rows) (file_fault (projection_folder projection) why.Projection) e not (subst (λ (p : Projection). IsFault (file_fault (projection_folder p) why.Projection) e) same fault))

  pub stands_there : (definition : PartDef) (stored : Accepted) → definition ≡ inner_of table projection → definition_reading definition files ≡ Ok stored → is_projection_of table projection accepted.rows stored.rows ≡ true
      → stored_checks table accepted projection files ≡ Ok tt
  stands_there definition stored is reads stands =
      stored_check definition stored is reads ∙ require_is (is_projection_of table projection accepted.rows stored.rows) (file_fault (projection_folder projection) why.Projection) stands

-- ---- all projections

-- the files of projections that are read, as folders
abbrev pub as_folders : List (Option (List FileBytes)) → List (Option Folder)
as_folders folders = map (option_map folder_of) folders

-- the checks of the projections from one on, by the files that are read
abbrev pub checks_from : Table → Accepted → List (Option (List FileBytes)) → ℕ → Result Unit Fault
checks_from table accepted folders i = projections_checks table accepted (zip (drop i table.projections) (as_folders (drop i folders)))

abbrev one_check : Table → Accepted → ℕ → Option (List FileBytes) → Result Unit Fault
one_check table accepted i files = projection_checks table accepted (projection_at table i) (option_map folder_of files)

checks_next : (table : Table) (accepted : Accepted) (folders : List (Option (List FileBytes))) (i : ℕ) (files : Option (List FileBytes)) → length folders ≡ length table.projections → i < length folders → files ≡ get_or folders i files
    → checks_from table accepted folders i ≡ (one_check table accepted i files >>= λ _. checks_from table accepted folders (i + 1))
checks_next table accepted folders i files long inside at =
    let there : i < length table.projections = omega (arith, inside, long) in
    let one = projection_at table i in
    ap (λ (ps : List Projection). projections_checks table accepted (zip ps (as_folders (drop i folders)))) (drop_next table.projections i one there (get_or_default table.projections i no_projection one there))
    ∙ ap (λ (fs : List (Option (List FileBytes))). projections_checks table accepted (zip (one ∷ drop (i + 1) table.projections) (as_folders fs))) (drop_next folders i files inside at)

pub projection_fails : (table : Table) (accepted : Accepted) (folders : List (Option (List FileBytes))) (i : ℕ) (files : Option (List FileBytes)) (whole : Result Unit Fault) (e : FileError) → checks_from table accepted folders i ≡ whole
    → length folders ≡ length table.projections → i < length folders → files ≡ get_or folders i files → FailsAs e (one_check table accepted i files) → FailsAs e whole
projection_fails table accepted folders i files whole e ahead long inside at fails =
    subst (FailsAs e) (sym (checks_next table accepted folders i files long inside at) ∙ ahead)
    (fails_then e (one_check table accepted i files) (λ _. checks_from table accepted folders (i + 1)) fails)

pub projection_holds : (table : Table) (accepted : Accepted) (folders : List (Option (List FileBytes))) (i : ℕ) (files : Option (List FileBytes)) (whole : Result Unit Fault) → checks_from table accepted folders i ≡ whole
    → length folders ≡ length table.projections → i < length folders → files ≡ get_or folders i files → one_check table accepted i files ≡ Ok tt → checks_from table accepted folders (i + 1) ≡ whole
projection_holds table accepted folders i files whole ahead long inside at holds =
    sym (then_of (one_check table accepted i files) tt (λ _. checks_from table accepted folders (i + 1)) holds)
    ∙ sym (checks_next table accepted folders i files long inside at) ∙ ahead

pub projections_done : (table : Table) (accepted : Accepted) (folders : List (Option (List FileBytes))) (i : ℕ) (whole : Result Unit Fault) → checks_from table accepted folders i ≡ whole → length folders ≤ i → whole ≡ Ok tt
projections_done table accepted folders i whole ahead over =
    sym ahead ∙ ap (λ (fs : List (Option (List FileBytes))). projections_checks table accepted (zip (drop i table.projections) (as_folders fs))) (at_end folders i over) ∙ none (drop i table.projections)
  where
    none : (projections : List Projection) → projections_checks table accepted (zip projections []) ≡ Ok tt
    none [] = refl
    none (projection ∷ projections) = refl

-- ---- the part

module _ (table : Table) (folder : Folder) (folders : List (Option Folder)) where
  abbrev base : Result Accepted Fault
  base = definition_reading (base_of table) folder

  abbrev stand : Accepted → Result Unit Fault
  stand accepted = projections_checks table accepted (zip table.projections folders)

  abbrev after_projections : Accepted → Unit {0} → Result Accepted Fault
  after_projections accepted _ = Ok accepted

  abbrev after_skips : Accepted → Unit {0} → Result Accepted Fault
  after_skips accepted _ = stand accepted >>= after_projections accepted

  abbrev after_partition : Accepted → Unit {0} → Result Accepted Fault
  after_partition accepted _ = each (skip_checks table folder accepted) table.skips >>= after_skips accepted

  abbrev after_base : Accepted → Result Accepted Fault
  after_base accepted = partition_reading table folder accepted >>= after_partition accepted

  pub base_fails : (e : FileError) → FailsAs e base → FailsAs e (files_checks table folder folders)
  base_fails e fails = fails_then e base after_base fails

  module _ (accepted : Accepted) (is : base ≡ Ok accepted) where
    known_base : files_checks table folder folders ≡ after_base accepted
    known_base = then_of base accepted after_base is

    pub partition_fails : (e : FileError) → FailsAs e (partition_reading table folder accepted) → FailsAs e (files_checks table folder folders)
    partition_fails e fails = subst (FailsAs e) (sym known_base) (fails_then e (partition_reading table folder accepted) (after_partition accepted) fails)

    known_partition : partition_reading table folder accepted ≡ Ok tt → files_checks table folder folders ≡ after_partition accepted tt
    known_partition holds = known_base ∙ then_of (partition_reading table folder accepted) tt (after_partition accepted) holds

    pub skips_fail : (e : FileError) → partition_reading table folder accepted ≡ Ok tt → FailsAs e (each (skip_checks table folder accepted) table.skips) → FailsAs e (files_checks table folder folders)
    skips_fail e holds fails = subst (FailsAs e) (sym (known_partition holds)) (fails_then e (each (skip_checks table folder accepted) table.skips) (after_skips accepted) fails)

    known_skips : partition_reading table folder accepted ≡ Ok tt → each (skip_checks table folder accepted) table.skips ≡ Ok tt → files_checks table folder folders ≡ after_skips accepted tt
    known_skips holds agree = known_partition holds ∙ then_of (each (skip_checks table folder accepted) table.skips) tt (after_skips accepted) agree

    pub projections_fail : (e : FileError) → partition_reading table folder accepted ≡ Ok tt → each (skip_checks table folder accepted) table.skips ≡ Ok tt → FailsAs e (stand accepted) → FailsAs e (files_checks table folder folders)
    projections_fail e holds agree fails = subst (FailsAs e) (sym (known_skips holds agree)) (fails_then e (stand accepted) (after_projections accepted) fails)

    pub files_accepted : partition_reading table folder accepted ≡ Ok tt → each (skip_checks table folder accepted) table.skips ≡ Ok tt → stand accepted ≡ Ok tt → files_checks table folder folders ≡ Ok accepted
    files_accepted holds agree stands = known_skips holds agree ∙ then_of (stand accepted) tt (after_projections accepted) stands
