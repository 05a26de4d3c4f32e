-- The checks of a folder accept rows and granules exactly where it stands for these rows in these granules.
use Rattle.std.proofs.Common.{◌≡◌, ◌≢◌, ℕ, ◌≤◌, List, [], ◌∷◌, length, map, refl, sym, ap, ◌∙◌, subst, arith, inl, inr}
use Rattle.std.specs.Prelude.{All, ◌↔◌, Contains, IsSome, Some, None, Option, Result, Ok, Err, sum}
use Rattle.std.specs.List.{zip}
use Rattle.std.proofs.lemmas.List.{length-map}
use Rattle.mt_types.specs.Steps.{◌>>=◌}
use Rattle.mt_types.proofs.StepLemmas.{ok_one, ok_then, then_of}
use Rattle.mt_fault.specs.declared.fault.Fault.{Fault}
use Rattle.mt_fault.specs.declared.fault.Why.TheVariants as why
use Rattle.mt_table.specs.declared.definition.PartDef.{PartDef}
use Rattle.mt_table.specs.declared.definition.Table.{Table}
use Rattle.mt_defs.specs.Folder.{Folder}
use Rattle.mt_defs.specs.Metadata.{column_at}
use Rattle.mt_defs.specs.Part.{HasColumns, HoldsRows, StandsFor, StandsForIn, known_names}
use Rattle.mt_defs.specs.Partition.{HasPartition, HaveOnePartition, partition_name}
use Rattle.mt_defs.specs.Projections.{base_of}
use Rattle.mt_defs.specs.Rows.{Row, RowFits, key_of}
use Rattle.mt_fault.specs.Faults.{file_fault}
use Rattle.mt_files.specs.Faults.{none_found}
use Rattle.mt_files.specs.PartTexts.{order_reading}
use Rattle.mt_strays.specs.Strays.{first_unknown, strays_reading}
use Rattle.mt_definition.specs.declared.accepted.Accepted.{Accepted}
use Rattle.mt_definition.specs.DefinitionReading.{definition_reading}
use Rattle.mt_check.specs.FolderChecks.{each, files_checks, folder_checks, projection_folders, projections_checks, skip_checks}
use Rattle.mt_check.specs.PartitionReading.{partition_reading}
use Rattle.mt_law_checked.specs.Listed.{HasFilesAt}
use Rattle.mt_law_checked.proofs.KeyNames.{no_partition}
use Rattle.mt_law_checked.proofs.ProjectionLaw as projection
use Rattle.mt_law_checked.proofs.ProjectionLaw.{IsProjectionRead, IsRead, projections_held, projections_pass}
use Rattle.mt_law_checked.proofs.SkipLaw as skip
use Rattle.mt_law_checked.proofs.SkipLaw.{skips_held, skips_pass}
use Rattle.mt_law_checked.proofs.StrayLaw.{known_exactly}

-- ---- granules

granules_of : (rows : List Row) (granules : List ℕ) → rows ≢ [] → sum granules ≡ length rows → 1 ≤ length granules
granules_of [] granules some all = absurd (some refl)
granules_of (row ∷ rows) [] some all = absurd (omega (arith, all))
granules_of (row ∷ rows) (count ∷ granules) some all = omega arith

some_granules : (definition : PartDef) (folder : Folder) (rows : List Row) (granules : List ℕ) → HoldsRows definition folder rows granules → 1 ≤ length granules
some_granules definition folder rows granules holds = granules_of rows granules holds.part_rows.not_empty (all holds.columns ∙ length-map rows (key_of holds.order))
  where
    all : HasColumns (map (column_at definition.columns) holds.order) (map (key_of holds.order) rows) granules folder → sum granules ≡ length (map (key_of holds.order) rows)
    all (inl (compact, is)) = is.cut.all
    all (inr (wide, is)) = is.cut.all

none_there : (found : Option (List ℕ)) (fault : List ℕ → Fault) → none_found found fault ≡ Ok tt → found ≡ None
none_there None fault e = refl
none_there (Some name) fault e = cc

-- rows and granules that are read of one folder
pub same_read : (a b : Accepted) (reading : Result Accepted Fault) → reading ≡ Ok a → reading ≡ Ok b → a ≡ b
same_read a b reading one two = sym (ok_one a b (sym one ∙ two))

-- no folder stands for two lists of rows, nor in two lists of granules
pub one_list : (table : Table) (folder : Folder) → IsRead (base_of table) folder → (a b : Accepted) → StandsForIn table folder a.rows a.granules → StandsForIn table folder b.rows b.granules → a ≡ b
one_list table folder base a b one two = same_read a b (definition_reading (base_of table) folder) ((base a).1 one.holds) ((base b).1 two.holds)

-- what partitions say: `partitions_are_checked`
abbrev pub ArePartitions : Table → Folder → Type 0
ArePartitions table folder =
    (accepted : Accepted) → accepted.rows ≢ [] → All (RowFits table.columns) accepted.rows → (table.partition ≡ [] → folder partition_name ≡ None)
    → (partition_reading table folder accepted ≡ Ok tt) ↔ (HaveOnePartition table accepted.rows × HasPartition table accepted.rows folder)

-- what is said of the columns that a part lists: they are those that are read
abbrev pub IsOrdered : Table → Folder → Type 0
IsOrdered table folder = (rows : List Row) (granules : List ℕ) (holds : HoldsRows (base_of table) folder rows granules) → order_reading (base_of table) folder ≡ Ok holds.order

module _ (tested : skip.AreTested) (stored_tested : projection.AreTested) (table : Table) (folder : Folder) (base : IsRead (base_of table) folder) (ordered : IsOrdered table folder)
    (stored : All (IsProjectionRead table folder) table.projections) (partitions : ArePartitions table folder) (names : List (List ℕ)) (listed : HasFilesAt folder names) where
  abbrev folders : List (Option Folder)
  folders = projection_folders table folder names

  abbrev after_projections : Accepted → Unit {0} → Result Accepted Fault
  after_projections accepted _ = Ok accepted

  abbrev after_skips : Accepted → Unit {0} → Result Accepted Fault
  after_skips accepted _ = projections_checks table accepted (zip table.projections folders) >>= after_projections accepted

  abbrev after_partition : Accepted → Unit {0} → Result Accepted Fault
  after_partition accepted _ = each (skip_checks table folder accepted) table.skips >>= after_skips accepted

  abbrev after_base : Accepted → Result Accepted Fault
  after_base accepted = partition_reading table folder accepted >>= after_partition accepted

  abbrev AllKnown : List ℕ → Type 0
  AllKnown order = (name : List ℕ) → IsSome (folder name) → Contains (known_names table order folder) name

  abbrev Stands : Accepted → Type 0
  Stands accepted = StandsForIn table folder accepted.rows accepted.granules

  -- ---- the files

  files_stand : (accepted : Accepted) (order : List ℕ) → order_reading (base_of table) folder ≡ Ok order → AllKnown order → files_checks table folder folders ≡ Ok accepted → Stands accepted
  files_stand accepted order orders known passes =
      ok_then (definition_reading (base_of table) folder) after_base accepted passes (λ read is rest.
      ok_then (partition_reading table folder read) (after_partition read) accepted rest (λ done part rest.
      ok_then (each (skip_checks table folder read) table.skips) (after_skips read) accepted rest (λ done skips rest.
      ok_then (projections_checks table read (zip table.projections folders)) (after_projections read) accepted rest (λ done projections same.
      let holds = (base read).0 is in
      let known_held : AllKnown holds.order = subst AllKnown (sym (ok_one order holds.order (sym orders ∙ ordered read.rows read.granules holds))) known in
      let both = (partitions read holds.part_rows.not_empty holds.part_rows.fit (no_partition table holds.order folder known_held)).0 part in
      subst Stands (sym (ok_one read accepted same))
      (record {
        holds = holds;
        one_partition = both.0;
        partition = both.1;
        skips = skips_held tested table folder read (some_granules (base_of table) folder read.rows read.granules holds) table.skips skips;
        projections = projections_held stored_tested table folder read names listed table.projections stored projections;
        known = known_held;
      })))))

  files_pass : (accepted : Accepted) → Stands accepted → files_checks table folder folders ≡ Ok accepted
  files_pass accepted stands =
      let part = (partitions accepted stands.holds.part_rows.not_empty stands.holds.part_rows.fit (no_partition table stands.holds.order folder stands.known)).1 (stands.one_partition, stands.partition) in
      then_of (definition_reading (base_of table) folder) accepted after_base ((base accepted).1 stands.holds)
      ∙ then_of (partition_reading table folder accepted) tt (after_partition accepted) part
      ∙ then_of (each (skip_checks table folder accepted) table.skips) tt (after_skips accepted) (skips_pass tested table folder accepted table.skips stands.skips)
      ∙ then_of (projections_checks table accepted (zip table.projections folders)) tt (after_projections accepted) (projections_pass stored_tested table folder accepted names listed table.projections stored stands.projections)

  -- ---- and the other names

  abbrev known_of : List ℕ → List (List ℕ)
  known_of order = known_names table order folder

  abbrev stray : List ℕ → Fault
  stray name = file_fault name why.Stray

  abbrev after_strays : Accepted → Unit {0} → Result Accepted Fault
  after_strays accepted _ = Ok accepted

  abbrev after_order : Accepted → List ℕ → Result Accepted Fault
  after_order accepted order = strays_reading (known_of order) names >>= after_strays accepted

  abbrev after_files : Accepted → Result Accepted Fault
  after_files accepted = order_reading (base_of table) folder >>= after_order accepted

  accepted_stands : (accepted : Accepted) → folder_checks table folder names ≡ Ok accepted → Stands accepted
  accepted_stands accepted passes =
      ok_then (files_checks table folder folders) after_files accepted passes (λ read is rest.
      ok_then (order_reading (base_of table) folder) (after_order read) accepted rest (λ order orders rest.
      ok_then (strays_reading (known_of order) names) (after_strays read) accepted rest (λ done none same.
      let known = (known_exactly (known_of order) names).0 (none_there (first_unknown (known_of order) names) stray none) in
      subst Stands (sym (ok_one read accepted same)) (files_stand read order orders (λ name has. known name ((listed name).0 has)) is))))

  stands_accepted : (accepted : Accepted) → Stands accepted → folder_checks table folder names ≡ Ok accepted
  stands_accepted accepted stands =
      let order = stands.holds.order in
      let none = (known_exactly (known_of order) names).1 (λ name at. stands.known name ((listed name).1 at)) in
      then_of (files_checks table folder folders) accepted after_files (files_pass accepted stands)
      ∙ then_of (order_reading (base_of table) folder) order (after_order accepted) (ordered accepted.rows accepted.granules stands.holds)
      ∙ then_of (strays_reading (known_of order) names) tt (after_strays accepted) (ap (λ (found : Option (List ℕ)). none_found found stray) none)

  pub accepted_exactly : (accepted : Accepted) → (folder_checks table folder names ≡ Ok accepted) ↔ Stands accepted
  accepted_exactly accepted = (accepted_stands accepted, stands_accepted accepted)

  -- a folder that stands for no rows has a fault
  pub fault_of : ((rows : List Row) → StandsFor table folder rows → ⊥) → (fault : Fault) × (folder_checks table folder names ≡ Err fault)
  fault_of none = by (folder_checks table folder names) refl
    where
      by : (reading : Result Accepted Fault) → folder_checks table folder names ≡ reading → (fault : Fault) × (folder_checks table folder names ≡ Err fault)
      by (Ok accepted) is = absurd (none accepted.rows (accepted.granules, accepted_stands accepted is))
      by (Err fault) is = (fault, is)
