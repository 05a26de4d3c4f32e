-- The names that may stand below a part.
use Rattle.std.proofs.Common.{◌≡◌, ℕ, Bool, true, List, ◌++◌, map, refl, ap, sym, subst, ◌∙◌}
use mathlib.Core.Path.{fun_ext}
use Rattle.std.specs.Prelude.{All, IsTrue}
use Rattle.std.specs.List.{flat_map, list_all}
use Rattle.mt_shelf.specs.Files.{Files, entries_below}
use Rattle.mt_types.specs.Profile.{is_profile}
use Rattle.mt_table.specs.declared.column.Column.{Column}
use Rattle.mt_table.specs.declared.definition.PartDef.{PartDef}
use Rattle.mt_table.specs.declared.definition.Table.{Table}
use Rattle.mt_table.specs.declared.projection.Projection.{Projection}
use Rattle.mt_table.specs.Kept.{is_place}
use Rattle.mt_table.specs.Stored.{column_at}
use Rattle.mt_table.proofs.StoredLemmas.{place_within}
use Rattle.mt_defs.specs.Compact.{compact_marks_name}
use Rattle.mt_defs.specs.Folder.{Folder, folder_below}
use Rattle.mt_defs.specs.Part.{is_compact, known_names, partition_names, projection_names, side_names}
use Rattle.mt_defs.specs.Projections.{inner_of, projection_prefix}
use Rattle.mt_files.specs.Listings.{listed_folder}
use Rattle.mt_files.specs.OwnNames.{own_names, skip_names_in}
use Rattle.mt_files.specs.NamedFiles.{part_folder}
use Rattle.mt_files.proofs.ListingLemmas.{listed_there}
use Rattle.mt_files.proofs.PlaceLemmas.{listed_profile}
use Rattle.mt_meta.proofs.DefinitionLemmas.{base_is}

-- the columns at some places of a table are of the profile
pub places_profile : (table : Table) (columns : List Column) (order : List ℕ) → list_all (is_place table.columns) order ≡ true → columns ≡ map (column_at table.columns) order → All (λ column. IsTrue (is_profile column.ty)) columns
places_profile table columns order there are =
    subst (All (λ (column : Column). IsTrue (is_profile column.ty))) (sym are)
    (listed_profile table.columns order (λ i d inside. place_within table.columns order i d there inside) (base_is table).columns.profile)

abbrev names_by : List ℕ → List Column → Bool → List (List ℕ)
names_by prefix columns compact = map (λ name. prefix ++ name) (own_names columns compact ++ side_names)

-- those of a projection
pub names_below : (table : Table) (folder : Folder) (projection : Projection) (prefix : List ℕ) (definition : PartDef) (columns : List Column) (compact : Bool) (own : List (List ℕ)) → prefix ≡ projection_prefix projection → definition ≡ inner_of table projection
    → columns ≡ definition.columns → compact ≡ is_compact (folder_below folder prefix) → own ≡ own_names columns compact ++ side_names → map (λ name. prefix ++ name) own ≡ projection_names table folder projection
names_below table folder projection prefix definition columns compact own prefix_is definition_is columns_are kind are =
    ap (map (λ name. prefix ++ name)) are
    ∙ ap (names_by prefix columns) (kind ∙ ap (λ (p : List ℕ). is_compact (folder_below folder p)) prefix_is)
    ∙ ap (λ (cs : List Column). names_by prefix cs (is_compact (folder_below folder (projection_prefix projection)))) (columns_are ∙ ap (λ (d : PartDef). d.columns) definition_is)
    ∙ ap (λ (p : List ℕ). names_by p (inner_of table projection).columns (is_compact (folder_below folder (projection_prefix projection)))) prefix_is

-- all of them, as they are put together
pub all_known : (table : Table) (order : List ℕ) (folder : Folder) (compact : Bool) (all skips partition base : List (List ℕ)) → compact ≡ is_compact folder → base ≡ own_names (map (column_at table.columns) order) compact ++ side_names
    → partition ≡ base ++ partition_names table → skips ≡ partition ++ flat_map (skip_names_in compact) table.skips → all ≡ skips ++ flat_map (projection_names table folder) table.projections → all ≡ known_names table order folder
all_known table order folder compact all skips partition base kind own_is partition_is skips_are all_are =
    let indexes = flat_map (skip_names_in compact) table.skips in
    let inner = flat_map (projection_names table folder) table.projections in
    all_are ∙ ap (λ (names : List (List ℕ)). names ++ inner) (skips_are ∙ ap (λ (names : List (List ℕ)). names ++ indexes) (partition_is ∙ ap (λ (names : List (List ℕ)). names ++ partition_names table) own_is))
    ∙ ap (λ b. (own_names (map (column_at table.columns) order) b ++ side_names) ++ partition_names table ++ flat_map (skip_names_in b) table.skips ++ inner) kind

-- ---- what a listing tells of them

abbrev known_by : Table → List ℕ → Bool → (Projection → Bool) → List (List ℕ)
known_by table order compact inner =
    (own_names (map (column_at table.columns) order) compact ++ side_names) ++ partition_names table ++ flat_map (skip_names_in compact) table.skips
    ++ flat_map (λ projection. names_by (projection_prefix projection) (inner_of table projection).columns (inner projection)) table.projections

known_are : (table : Table) (order : List ℕ) (folder : Folder) → known_names table order folder ≡ known_by table order (is_compact folder) (λ projection. is_compact (folder_below folder (projection_prefix projection)))
known_are table order folder = refl

-- they are those of the part
pub known_listed : (table : Table) (order part : List ℕ) (files : Files) → known_names table order (listed_folder (entries_below part files)) ≡ known_names table order (part_folder part files)
known_listed table order part files =
    let listed = listed_folder (entries_below part files) in
    known_are table order listed
    ∙ ap (λ b. known_by table order b (λ projection. is_compact (folder_below listed (projection_prefix projection)))) (listed_there part compact_marks_name files)
    ∙ ap (known_by table order (is_compact (part_folder part files))) (fun_ext λ projection. listed_there part (projection_prefix projection ++ compact_marks_name) files)
    ∙ sym (known_are table order (part_folder part files))
