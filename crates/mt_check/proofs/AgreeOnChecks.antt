-- The checks of a part: folders that agree at its names are checked alike.
use Rattle.std.proofs.Common.{◌≡◌, ℕ, List, [], ◌∷◌, ◌++◌, length, refl, ap, ◌∙◌}
use mathlib.Core.Path.{fun_ext}
use Rattle.std.specs.Prelude.{Option, is_some, ◌||◌, if◌then◌else◌, Result, Ok}
use Rattle.std.specs.List.{flat_map, zip}
use Rattle.mt_fault.specs.declared.fault.Fault.{Fault}
use Rattle.mt_fault.specs.declared.fault.Why.TheVariants as why
use Rattle.mt_table.specs.declared.definition.Table.{Table}
use Rattle.mt_table.specs.declared.projection.Projection.{Projection}
use Rattle.mt_table.specs.declared.skip.Skip.{Skip}
use Rattle.mt_defs.specs.Folder.{Folder}
use Rattle.mt_defs.specs.Metadata.{column_at}
use Rattle.mt_defs.specs.Part.{is_compact, marks_ending}
use Rattle.mt_defs.specs.Projections.{base_of, inner_of, projection_prefix, is_projection_of}
use Rattle.mt_defs.specs.SkipIndexes.{entry_rows, skip_data_name, skip_marks_name}
use Rattle.mt_definition.specs.declared.accepted.Accepted.{Accepted}
use Rattle.mt_types.specs.Steps.{◌>>=◌, require}
use Rattle.mt_meta.specs.Definitions.{IsDefinition}
use Rattle.mt_definition.specs.DefinitionReading.{definition_reading}
use Rattle.mt_fault.specs.Faults.{file_fault}
use Rattle.mt_files.specs.Faults.{named_below}
use Rattle.mt_check.specs.FolderChecks.{each, entries_checks, files_checks, index_checks, stored_checks, projections_checks, skip_checks, skip_is_there}
use Rattle.mt_files.specs.OwnNames.{base_names, own_names, skip_names_in}
use Rattle.mt_names.specs.ProjectionFolders.{projection_folder}
use Rattle.mt_files.specs.OwnNames as own
use Rattle.mt_check.specs.PartitionReading.{partition_reading}
use Rattle.mt_definition.proofs.AgreeLemmas.{AgreeAt, agree_split}
use Rattle.mt_definition.proofs.AgreeOnData.{definition_same}
use Rattle.mt_check.proofs.AgreeOnPart.{entries_same, partition_same}

-- ---- skip indexes

abbrev skip_by : Table → Accepted → Skip → Result (List (List ℕ)) Fault → Result Unit Fault
skip_by table accepted skip reading = reading >>= λ entries. entries_checks skip (column_at table.columns skip.column).ty 0 (zip (entry_rows skip accepted.rows accepted.granules) entries)

index_same : (f g : Folder) (table : Table) (accepted : Accepted) (skip : Skip) → is_compact f ≡ is_compact g → AgreeAt f g (skip_names_in (is_compact f) skip) → index_checks table f accepted skip ≡ index_checks table g accepted skip
index_same f g table accepted skip kind all = ap (skip_by table accepted skip) (entries_same f g skip (length (entry_rows skip accepted.rows accepted.granules)) kind all)

-- it is there in both or in neither
pub there_same : (f g : Folder) (skip : Skip) → is_compact f ≡ is_compact g → AgreeAt f g (skip_names_in (is_compact f) skip) → skip_is_there f skip ≡ skip_is_there g skip
there_same f g skip kind all =
    ap (λ (o : Option (List ℕ)). is_some o || is_some (f (skip_marks_name skip (marks_ending (is_compact f))))) all.0
    ∙ ap (λ (o : Option (List ℕ)). is_some (g (skip_data_name skip)) || is_some o) all.1.0
    ∙ ap (λ b. is_some (g (skip_data_name skip)) || is_some (g (skip_marks_name skip (marks_ending b)))) kind

skip_same : (f g : Folder) (table : Table) (accepted : Accepted) (skip : Skip) → is_compact f ≡ is_compact g → AgreeAt f g (skip_names_in (is_compact f) skip) → skip_checks table f accepted skip ≡ skip_checks table g accepted skip
skip_same f g table accepted skip kind all =
    ap (λ (r : Result Unit Fault). if skip_is_there f skip then r else Ok tt) (index_same f g table accepted skip kind all)
    ∙ ap (λ b. if b then index_checks table g accepted skip else Ok tt) (there_same f g skip kind all)

pub skips_same : (f g : Folder) (table : Table) (accepted : Accepted) (skips : List Skip) → is_compact f ≡ is_compact g → AgreeAt f g (flat_map (skip_names_in (is_compact f)) skips) → each (skip_checks table f accepted) skips ≡ each (skip_checks table g accepted) skips
skips_same f g table accepted [] kind all = refl
skips_same f g table accepted (skip ∷ skips) kind all =
    let parts = agree_split f g (skip_names_in (is_compact f) skip) (flat_map (skip_names_in (is_compact f)) skips) all in
    ap (λ (first : Result Unit Fault). first >>= λ _. each (skip_checks table f accepted) skips) (skip_same f g table accepted skip kind parts.0)
    ∙ ap (λ (later : Result Unit Fault). skip_checks table g accepted skip >>= λ _. later) (skips_same f g table accepted skips kind parts.1)

-- ---- projections

abbrev projection_by : Table → Accepted → Projection → Result Accepted Fault → Result Unit Fault
projection_by table accepted projection reading =
    named_below (projection_prefix projection) reading >>= λ stored. require (is_projection_of table projection accepted.rows stored.rows) (file_fault (projection_folder projection) why.Projection)

pub projection_same : (f g : Folder) (table : Table) (accepted : Accepted) (projection : Projection) → IsDefinition (inner_of table projection) → is_compact f ≡ is_compact g → AgreeAt f g (own_names (inner_of table projection).columns (is_compact f))
    → stored_checks table accepted projection f ≡ stored_checks table accepted projection g
projection_same f g table accepted projection is kind all = ap (projection_by table accepted projection) (definition_same f g (inner_of table projection) is kind all)

-- ---- the part

abbrev checks_by : Result Accepted Fault → (Accepted → Result Unit Fault) → (Accepted → Result Unit Fault) → (Accepted → Result Unit Fault) → Result Accepted Fault
checks_by base partition skips projections =
    base >>= λ accepted. partition accepted >>= λ _. skips accepted >>= λ _. projections accepted >>= λ _. Ok accepted

pub part_same : (f g : Folder) (table : Table) (fs gs : List (Option Folder)) → IsDefinition (base_of table) → is_compact f ≡ is_compact g → AgreeAt f g (base_names table (is_compact f))
    → ((accepted : Accepted) → projections_checks table accepted (zip table.projections fs) ≡ projections_checks table accepted (zip table.projections gs)) → files_checks table f fs ≡ files_checks table g gs
part_same f g table fs gs is kind all projections =
    let parts = agree_split f g (own_names table.columns (is_compact f)) (own.partition_file_names table ++ flat_map (skip_names_in (is_compact f)) table.skips) all in
    let more = agree_split f g (own.partition_file_names table) (flat_map (skip_names_in (is_compact f)) table.skips) parts.1 in
    ap (λ base. checks_by base (partition_reading table f) (λ accepted. each (skip_checks table f accepted) table.skips) (λ accepted. projections_checks table accepted (zip table.projections fs))) (definition_same f g (base_of table) is kind parts.0)
    ∙ ap (λ partition. checks_by (definition_reading (base_of table) g) partition (λ accepted. each (skip_checks table f accepted) table.skips) (λ accepted. projections_checks table accepted (zip table.projections fs)))
    (fun_ext λ accepted. partition_same f g table accepted more.0)
    ∙ ap (λ skips. checks_by (definition_reading (base_of table) g) (partition_reading table g) skips (λ accepted. projections_checks table accepted (zip table.projections fs)))
    (fun_ext λ accepted. skips_same f g table accepted table.skips kind more.1)
    ∙ ap (checks_by (definition_reading (base_of table) g) (partition_reading table g) (λ accepted. each (skip_checks table g accepted) table.skips)) (fun_ext λ accepted. projections accepted)
