-- The shape of the files that are read is the shape of the part's folder.
use Rattle.std.proofs.Common.{◌≡◌, ℕ, Bool, true, false, List, [], ◌∷◌, ◌++◌, map, refl, ap, sym, subst, ◌∙◌}
use Rattle.std.specs.Prelude.{All, Option, Some, None, option_map, Result, if◌then◌else◌}
use Rattle.std.specs.List.{flat_map}
use Rattle.std.proofs.lemmas.List.Elements.{All-head, All-tail}
use Rattle.mt_fault.specs.declared.fault.Fault.{Fault}
use Rattle.mt_fault.specs.declared.file.FileBytes.{FileBytes}
use Rattle.mt_table.specs.declared.definition.Table.{Table}
use Rattle.mt_table.specs.declared.projection.Projection.{Projection}
use Rattle.mt_table.specs.declared.skip.Skip.{Skip}
use Rattle.mt_defs.specs.Folder.{Folder, folder_below, folder_of}
use Rattle.mt_defs.specs.Part.{is_compact}
use Rattle.mt_defs.specs.Projections.{inner_of, projection_prefix}
use Rattle.mt_definition.specs.declared.accepted.Accepted.{Accepted}
use Rattle.mt_meta.specs.Definitions.{IsDefinition}
use Rattle.mt_definition.specs.DefinitionReading.{definition_reading}
use Rattle.mt_check.specs.FolderChecks.{projection_folder_in, projection_folders, projection_is_there, skip_is_there}
use Rattle.mt_check.specs.PartFiles.{base_files, inner_files, part_files, read_projection_files}
use Rattle.mt_files.specs.OwnNames.{base_names, own_names, partition_file_names, skip_names_in}
use Rattle.mt_definition.proofs.AgreeLemmas.{AgreeAt, agree_split}
use Rattle.mt_definition.proofs.AgreeOnData.{definition_same}
use Rattle.mt_check.proofs.AgreeOnChecks.{there_same}
use Rattle.mt_check.proofs.ReadLemmas.{agrees, base_layout, inner_layout, order_read}
use Rattle.mt_meta.proofs.InnerLemmas.{projections_are}
use Rattle.mt_show.specs.declared.shape.Shape.{Shape}
use Rattle.mt_show.specs.declared.shape.Size.{Size}
use Rattle.mt_show.specs.Shape.{order_in, order_or_none, shape_in, size_of_projection, size_or_none, sizes_in, skips_in}

-- ---- skip indexes

indexes_same : (f g : Folder) (skips : List Skip) → is_compact f ≡ is_compact g → AgreeAt f g (flat_map (skip_names_in (is_compact f)) skips) → map (skip_is_there f) skips ≡ map (skip_is_there g) skips
indexes_same f g [] kind all = refl
indexes_same f g (skip ∷ skips) kind all =
    let parts = agree_split f g (skip_names_in (is_compact f) skip) (flat_map (skip_names_in (is_compact f)) skips) all in
    ap (λ (there : Bool). there ∷ map (skip_is_there f) skips) (there_same f g skip kind parts.0) ∙ ap (λ (rest : List Bool). skip_is_there g skip ∷ rest) (indexes_same f g skips kind parts.1)

skips_same : (table : Table) (folder : Folder) → skips_in table (folder_of (base_files table folder)) ≡ skips_in table folder
skips_same table folder =
    let read : Folder = folder_of (base_files table folder) in
    let kind = base_layout table folder in
    let all : AgreeAt read folder (base_names table (is_compact read)) = subst (λ b. AgreeAt read folder (base_names table b)) (sym kind) (agrees folder (base_names table (is_compact folder))) in
    let parts = agree_split read folder (own_names table.columns (is_compact read)) (partition_file_names table ++ flat_map (skip_names_in (is_compact read)) table.skips) all in
    indexes_same read folder table.skips kind (agree_split read folder (partition_file_names table) (flat_map (skip_names_in (is_compact read)) table.skips) parts.1).1

-- ---- projections

reading_same : (table : Table) (projection : Projection) (folder : Folder) → IsDefinition (inner_of table projection)
    → definition_reading (inner_of table projection) (folder_of (inner_files table projection folder)) ≡ definition_reading (inner_of table projection) folder
reading_same table projection folder is =
    let kind = inner_layout table projection folder in
    let own = agrees folder (own_names (inner_of table projection).columns (is_compact folder)) in
    definition_same (folder_of (inner_files table projection folder)) folder (inner_of table projection) is kind
    (subst (λ b. AgreeAt (folder_of (inner_files table projection folder)) folder (own_names (inner_of table projection).columns b)) (sym kind) own)

size_same : (table : Table) (folder : Folder) (names : List (List ℕ)) (projection : Projection) → IsDefinition (inner_of table projection)
    → size_of_projection table projection (option_map folder_of (read_projection_files table folder names projection)) ≡ size_of_projection table projection (projection_folder_in folder names projection)
size_same table folder names projection is =
    by_test (projection_is_there names projection)
  where
    below : Folder
    below = folder_below folder (projection_prefix projection)

    by_test : (there : Bool) → size_of_projection table projection (option_map folder_of (if there then Some (inner_files table projection below) else None)) ≡ size_of_projection table projection (if there then Some below else None)
    by_test true = ap (λ (r : Result Accepted Fault). let size : Option Size = Some (size_or_none r) in size) (reading_same table projection below is)
    by_test false = refl

sizes_same : (table : Table) (folder : Folder) (names : List (List ℕ)) (projections : List Projection) → All (λ projection. IsDefinition (inner_of table projection)) projections
    → sizes_in table projections (map (option_map folder_of) (map (read_projection_files table folder names) projections)) ≡ sizes_in table projections (map (projection_folder_in folder names) projections)
sizes_same table folder names [] are = refl
sizes_same table folder names (projection ∷ projections) are =
    let rest = sizes_in table projections (map (option_map folder_of) (map (read_projection_files table folder names) projections)) in
    let first = size_same table folder names projection (All-head (λ projection. IsDefinition (inner_of table projection)) projection projections are) in
    let later = sizes_same table folder names projections (All-tail (λ projection. IsDefinition (inner_of table projection)) projection projections are) in
    ap (λ (size : Option Size). size ∷ rest) first ∙ ap (λ (sizes : List (Option Size)). size_of_projection table projection (projection_folder_in folder names projection) ∷ sizes) later

-- ---- the part

abbrev shape_by : Bool → List ℕ → List Bool → List (Option Size) → Shape
shape_by compact order skips sizes = record { compact = compact; order = order; skips = skips; projections = sizes }

pub shape_same : (table : Table) (folder : Folder) (names : List (List ℕ))
    → shape_in table (folder_of (part_files table folder names).base) (map (option_map folder_of) (part_files table folder names).projections) ≡ shape_in table folder (projection_folders table folder names)
shape_same table folder names =
    let read : Folder = folder_of (base_files table folder) in
    let sizes : List (Option Size) = sizes_in table table.projections (map (option_map folder_of) (map (read_projection_files table folder names) table.projections)) in
    ap (λ compact. shape_by compact (order_in table read) (skips_in table read) sizes) (base_layout table folder)
    ∙ ap (λ (r : Result (List ℕ) Fault). shape_by (is_compact folder) (order_or_none r) (skips_in table read) sizes) (order_read table folder)
    ∙ ap (λ (skips : List Bool). shape_by (is_compact folder) (order_in table folder) skips sizes) (skips_same table folder)
    ∙ ap (λ (ss : List (Option Size)). shape_by (is_compact folder) (order_in table folder) (skips_in table folder) ss) (sizes_same table folder names table.projections (projections_are table))
