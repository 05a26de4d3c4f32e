-- The checks of projections hold exactly where each has its projection's rows.
use Rattle.std.proofs.Common.{◌≡◌, ℕ, Bool, true, List, [], ◌∷◌, map, refl, sym, ap, ◌∙◌, inl, inr}
use Rattle.std.specs.Prelude.{All, ◌↔◌, if◌then◌else◌, Option, Some, None, Result, Ok, Err}
use Rattle.std.proofs.lemmas.Bool.{cases_Bool}
use Rattle.std.specs.List.{zip}
use Rattle.std.proofs.lemmas.List.Elements.{All-nil, All-cons, All-head, All-tail}
use Rattle.mt_types.specs.Steps.{require}
use Rattle.mt_types.proofs.StepLemmas.{ok_then, require_is, then_of}
use Rattle.mt_fault.specs.declared.fault.Fault.{Fault}
use Rattle.mt_fault.specs.declared.fault.Why.TheVariants as why
use Rattle.mt_table.specs.declared.definition.PartDef.{PartDef}
use Rattle.mt_table.specs.declared.definition.Table.{Table}
use Rattle.mt_table.specs.declared.projection.Projection.{Projection}
use Rattle.mt_defs.specs.Folder.{Folder, folder_below}
use Rattle.mt_defs.specs.Metadata.{column_at, columns_name, columns_text}
use Rattle.mt_defs.specs.Part.{HasProjection, HoldsRows, MayHaveProjection}
use Rattle.mt_defs.specs.Projections.{IsProjectionOf, inner_of, is_projection_of, projection_prefix}
use Rattle.mt_defs.specs.Rows.{Row}
use Rattle.mt_fault.specs.Faults.{file_fault}
use Rattle.mt_files.specs.Faults.{named_below}
use Rattle.mt_names.specs.ProjectionFolders.{projection_folder}
use Rattle.mt_definition.specs.declared.accepted.Accepted.{Accepted}
use Rattle.mt_definition.specs.DefinitionReading.{definition_reading}
use Rattle.mt_files.specs.Listings.{has_below}
use Rattle.mt_definition.proofs.DefinitionLaw.{required_true}
use Rattle.mt_check.specs.FolderChecks.{projection_checks, projection_folder_in, projections_checks, stored_checks}
use Rattle.mt_law_checked.specs.Listed.{HasFilesAt}
use Rattle.mt_law_checked.proofs.ThereLaw.{lacks_none_below, projection_lacks, some_below}

-- what is read of the folder is what it holds
abbrev pub IsRead : PartDef → Folder → Type 0
IsRead definition folder = (accepted : Accepted) → (definition_reading definition folder ≡ Ok accepted) ↔ HoldsRows definition folder accepted.rows accepted.granules

-- the folder of a projection
abbrev pub below : Folder → Projection → Folder
below folder projection = folder_below folder (projection_prefix projection)

abbrev pub IsProjectionRead : Table → Folder → Projection → Type 0
IsProjectionRead table folder projection = IsRead (inner_of table projection) (below folder projection)

below_ok : {A : Type 0} (prefix : List ℕ) (reading : Result A Fault) (x : A) → named_below prefix reading ≡ Ok x → reading ≡ Ok x
below_ok prefix (Ok y) x e = e
below_ok prefix (Err fault) x e = cc

-- what is said of the test of stored rows: `projections_are_tested`
abbrev pub AreTested : Type 0
AreTested = (table : Table) (projection : Projection) (rows stored : List Row) → (is_projection_of table projection rows stored ≡ true) ↔ IsProjectionOf table projection rows stored

-- ---- one projection

module _ (tested : AreTested) (table : Table) (folder : Folder) (accepted : Accepted) (projection : Projection) (read : IsProjectionRead table folder projection) where
  abbrev reading : Result Accepted Fault
  reading = definition_reading (inner_of table projection) (below folder projection)

  abbrev stands_check : Accepted → Result Unit Fault
  stands_check stored = require (is_projection_of table projection accepted.rows stored.rows) (file_fault (projection_folder projection) why.Projection)

  stored_held : stored_checks table accepted projection (below folder projection) ≡ Ok tt → HasProjection table folder accepted.rows projection
  stored_held passes =
      ok_then (named_below (projection_prefix projection) reading) stands_check tt passes (λ stored is stands.
      record {
        stored = stored.rows;
        granules = stored.granules;
        holds = (read stored).0 (below_ok (projection_prefix projection) reading stored is);
        stands = (tested table projection accepted.rows stored.rows).0 (required_true (is_projection_of table projection accepted.rows stored.rows) (file_fault (projection_folder projection) why.Projection) stands);
      })

  stored_passes : HasProjection table folder accepted.rows projection → stored_checks table accepted projection (below folder projection) ≡ Ok tt
  stored_passes has =
      let stored : Accepted = record { rows = has.stored; granules = has.granules } in
      then_of (named_below (projection_prefix projection) reading) stored stands_check (ap (named_below (projection_prefix projection)) ((read stored).1 has.holds))
      ∙ require_is (is_projection_of table projection accepted.rows has.stored) (file_fault (projection_folder projection) why.Projection) ((tested table projection accepted.rows has.stored).1 has.stands)

  -- ---- and whether it is there

  module _ (names : List (List ℕ)) (listed : HasFilesAt folder names) where
    abbrev MayBe : Type 0
    MayBe = MayHaveProjection table folder accepted.rows projection

    abbrev check_by : Bool → Result Unit Fault
    check_by there = projection_checks table accepted projection (if there then Some (below folder projection) else None)

    pub projection_held : projection_checks table accepted projection (projection_folder_in folder names projection) ≡ Ok tt → MayBe
    projection_held passes =
        elim (cases_Bool (has_below names (projection_prefix projection))) [
          | inl there ↦ inr (stored_held (sym (ap check_by there) ∙ passes))
          | inr none ↦ inl (projection_lacks folder names listed projection none)
        ]

    pub projection_passes : MayBe → projection_checks table accepted projection (projection_folder_in folder names projection) ≡ Ok tt
    projection_passes (inl lacks) = ap check_by (lacks_none_below folder names listed projection lacks)
    projection_passes (inr has) =
        ap check_by (some_below folder names listed projection columns_name (columns_text (map (column_at (inner_of table projection).columns) has.holds.order)) has.holds.metadata.lists_columns) ∙ stored_passes has

-- ---- all of them

module _ (tested : AreTested) (table : Table) (folder : Folder) (accepted : Accepted) (names : List (List ℕ)) (listed : HasFilesAt folder names) where
  abbrev May : Projection → Type 0
  May = MayHaveProjection table folder accepted.rows

  abbrev AreRead : List Projection → Type 0
  AreRead = All (IsProjectionRead table folder)

  abbrev found : Projection → Option Folder
  found = projection_folder_in folder names

  abbrev all_checks : List Projection → Result Unit Fault
  all_checks projections = projections_checks table accepted (zip projections (map found projections))

  pub projections_held : (projections : List Projection) → AreRead projections → all_checks projections ≡ Ok tt → All May projections
  projections_held [] read passes = All-nil May
  projections_held (projection ∷ projections) read passes =
      ok_then (projection_checks table accepted projection (found projection)) (λ _. all_checks projections) tt passes (λ done first rest.
      All-cons May projection projections (projection_held tested table folder accepted projection (All-head (IsProjectionRead table folder) projection projections read) names listed first)
      (projections_held projections (All-tail (IsProjectionRead table folder) projection projections read) rest))

  pub projections_pass : (projections : List Projection) → AreRead projections → All May projections → all_checks projections ≡ Ok tt
  projections_pass [] read may = refl
  projections_pass (projection ∷ projections) read may =
      then_of (projection_checks table accepted projection (found projection)) tt (λ _. all_checks projections)
      (projection_passes tested table folder accepted projection (All-head (IsProjectionRead table folder) projection projections read) names listed (All-head May projection projections may))
      ∙ projections_pass projections (All-tail (IsProjectionRead table folder) projection projections read) (All-tail May projection projections may)
