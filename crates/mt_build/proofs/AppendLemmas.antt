-- Files that are appended one element after another.
use Rattle.std.proofs.Common.{◌≡◌, ℕ, ◌+◌, ◌<◌, List, [], ◌∷◌, ◌++◌, length, map, take, get_or, ap, sym, ◌∙◌}
use Rattle.std.specs.List.{flat_map}
use Rattle.std.proofs.lemmas.List.{flat_map_more, take_more}
use Rattle.mt_fault.specs.declared.file.FileBytes.{FileBytes}
use Rattle.mt_table.specs.declared.definition.Table.{Table}
use Rattle.mt_table.specs.declared.definition.PartDef.{PartDef}
use Rattle.mt_table.specs.declared.projection.Projection.{Projection}
use Rattle.mt_layout.specs.declared.layout.Layout.{Layout}
use Rattle.mt_defs.specs.Projections.{base_of, inner_of, projection_prefix}
use Rattle.mt_defs.specs.Rows.{Row}
use Rattle.mt_defs.specs.Sorting.{sorted_by}
use Rattle.mt_defs.specs.WrittenGranules.{is_small, written_granules}
use Rattle.mt_defs.specs.WrittenPartition.{partition_files}
use Rattle.mt_defs.specs.WrittenSkips.{skip_files}
use Rattle.mt_defs.specs.Writer.{definition_files, file_below, file_cmp, files_with, projection_files, projection_rows, written_folder}

-- one element more
pub files_step : {X : Type 0} (f : X → List FileBytes) (before now new : List FileBytes) (xs : List X) (i : ℕ) (x d : X) → i < length xs → x ≡ get_or xs i d
    → now ≡ before ++ flat_map f (take i xs) → new ≡ now ++ f x → new ≡ before ++ flat_map f (take (i + 1) xs)
files_step f before now new xs i x d h is ahead push =
    push ∙ ap (λ l. l ++ f x) ahead ∙ flat_map_more f before (take i xs) x
    ∙ ap (λ l. before ++ flat_map f l) (sym (take_more xs i d h ∙ ap (λ y. take i xs ++ y ∷ []) (sym is)))

-- the files of a projection, behind others
pub projection_appended : (table : Table) (rows : List Row) (projection read : Projection) (definition : PartDef) (stored slice : List Row) (below old new : List FileBytes) (prefix : List ℕ)
    → read ≡ projection → definition ≡ inner_of table projection → slice ≡ stored → stored ≡ projection_rows table projection rows → below ≡ definition_files table.settings definition slice → prefix ≡ projection_prefix read
    → new ≡ old ++ map (file_below prefix) below → new ≡ old ++ projection_files table rows projection
projection_appended table rows projection read definition stored slice below old new prefix same defined sliced made files begins appended =
    appended ∙ ap (λ p. old ++ map (file_below p) below) (begins ∙ ap projection_prefix same)
    ∙ ap (λ l. old ++ map (file_below (projection_prefix projection)) l) (files ∙ ap (λ d. definition_files table.settings d slice) defined ∙ ap (definition_files table.settings (inner_of table projection)) (sliced ∙ made))

-- the files of a folder, one kind after another
pub folder_is : (table : Table) (rows : List Row) (base : PartDef) (layout : Layout) (own some more all : List FileBytes) → base ≡ base_of table → layout.granules ≡ written_granules table.settings base.columns rows → layout.compact ≡ is_small table.settings base.columns rows
    → own ≡ files_with base rows layout.granules layout.compact → some ≡ own ++ partition_files table rows → more ≡ some ++ flat_map (skip_files table rows) table.skips → all ≡ more ++ flat_map (projection_files table rows) table.projections
    → sorted_by file_cmp all ≡ written_folder table rows
folder_is table rows base layout own some more all defined cut small files partition skips projections =
    let partitions = partition_files table rows in
    let indexes = flat_map (skip_files table rows) table.skips in
    let below = flat_map (projection_files table rows) table.projections in
    let own_is : own ≡ definition_files table.settings (base_of table) rows =
    files ∙ ap (λ granules. files_with base rows granules layout.compact) cut ∙ ap (files_with base rows (written_granules table.settings base.columns rows)) small ∙ ap (λ definition. definition_files table.settings definition rows) defined in
    ap (sorted_by file_cmp) (projections ∙ ap (λ l. l ++ below) (skips ∙ ap (λ l. l ++ indexes) (partition ∙ ap (λ l. l ++ partitions) own_is)))
