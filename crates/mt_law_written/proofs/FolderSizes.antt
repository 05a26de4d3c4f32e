-- The bytes of the writer's folder are those of its definitions, its partition and its skip indexes.
use Rattle.std.proofs.Common.{◌≡◌, ℕ, ◌+◌, List, [], ◌∷◌, ◌++◌, length, map, refl, ap, sym, ◌∙◌}
use Rattle.std.specs.List.{flat_map, sum_by}
use Rattle.std.proofs.lemmas.List.Sums.{sum_by-append, sum_by-cons}
use Rattle.mt_fault.specs.declared.file.FileBytes.{FileBytes}
use Rattle.mt_table.specs.declared.definition.Table.{Table}
use Rattle.mt_table.specs.declared.projection.Projection.{Projection}
use Rattle.mt_defs.proofs.Sorted.{sum_by-sorted_by}
use Rattle.mt_defs.specs.Projections.{base_of, inner_of, projection_prefix}
use Rattle.mt_defs.specs.Rows.{Row}
use Rattle.mt_defs.specs.Writer.{definition_files, file_below, file_cmp, projection_files, projection_rows, written_folder}
use Rattle.mt_defs.specs.WrittenPartition.{partition_files}
use Rattle.mt_defs.specs.WrittenSkips.{skip_files}
use Rattle.mt_law_written.specs.Sizes.{files_size}

abbrev size_of : FileBytes → ℕ
size_of file = length file.bytes

-- the files of each of some things
pub groups_size : {X : Type 0} (files_of : X → List FileBytes) (xs : List X) → files_size (flat_map files_of xs) ≡ sum_by (λ x. files_size (files_of x)) xs
groups_size files_of [] = refl
groups_size files_of (x ∷ xs) =
    sum_by-append size_of (files_of x) (flat_map files_of xs) ∙ ap (λ n. files_size (files_of x) + n) (groups_size files_of xs)
    ∙ sym (sum_by-cons (λ x. files_size (files_of x)) x xs)

-- files below a prefix
pub below_size : (prefix : List ℕ) (files : List FileBytes) → files_size (map (file_below prefix) files) ≡ files_size files
below_size prefix [] = refl
below_size prefix (file ∷ files) =
    sum_by-cons size_of (file_below prefix file) (map (file_below prefix) files) ∙ ap (λ n. size_of file + n) (below_size prefix files)
    ∙ sym (sum_by-cons size_of file files)

-- the bytes of a projection's files
abbrev pub projection_size : Table → List Row → Projection → ℕ
projection_size table rows projection = files_size (definition_files table.settings (inner_of table projection) (projection_rows table projection rows))

projections_size : (table : Table) (rows : List Row) (projections : List Projection) → files_size (flat_map (projection_files table rows) projections) ≡ sum_by (projection_size table rows) projections
projections_size table rows [] = refl
projections_size table rows (projection ∷ projections) =
    sum_by-append size_of (projection_files table rows projection) (flat_map (projection_files table rows) projections)
    ∙ ap (λ n. n + files_size (flat_map (projection_files table rows) projections)) (below_size (projection_prefix projection) (definition_files table.settings (inner_of table projection) (projection_rows table projection rows)))
    ∙ ap (λ n. projection_size table rows projection + n) (projections_size table rows projections)
    ∙ sym (sum_by-cons (projection_size table rows) projection projections)

-- the files of the base part, of the partition, of each skip index and of each projection
pub folder_size : (table : Table) (rows : List Row) → files_size (written_folder table rows)
    ≡ files_size (definition_files table.settings (base_of table) rows) + files_size (partition_files table rows)
    + sum_by (λ skip. files_size (skip_files table rows skip)) table.skips + sum_by (projection_size table rows) table.projections
folder_size table rows =
    let base : List FileBytes = definition_files table.settings (base_of table) rows in
    let partition : List FileBytes = partition_files table rows in
    let skips : List FileBytes = flat_map (skip_files table rows) table.skips in
    let projections : List FileBytes = flat_map (projection_files table rows) table.projections in
    sum_by-sorted_by file_cmp size_of (base ++ partition ++ skips ++ projections)
    ∙ sum_by-append size_of (base ++ partition ++ skips) projections
    ∙ ap (λ n. n + files_size projections) (sum_by-append size_of (base ++ partition) skips ∙ ap (λ n. n + files_size skips) (sum_by-append size_of base partition))
    ∙ ap (λ n. files_size base + files_size partition + n + files_size projections) (groups_size (skip_files table rows) table.skips)
    ∙ ap (λ n. files_size base + files_size partition + sum_by (λ skip. files_size (skip_files table rows skip)) table.skips + n) (projections_size table rows table.projections)
