-- What the writer puts into data and marks files is read again.
use Rattle.std.proofs.Common.{◌≡◌, ℕ, ◌<◌, ◌≤◌, ◌^◌, List, length, refl, arith, lit<}
use Rattle.std.specs.Prelude.{All, Ok}
use Rattle.mt_facts.proofs.Numbers.{each_below_sum}
use Rattle.mt_fault.specs.declared.file.FileBytes.{FileBytes}
use Rattle.mt_table.specs.declared.column.Column.{Column}
use Rattle.mt_table.specs.declared.limits.TheConstants.{MAX_COLUMNS, MAX_ROWS}
use Rattle.mt_defs.specs.Folder.{Folder, folder_of}
use Rattle.mt_defs.specs.Rows.{Row}
use Rattle.mt_defs.specs.WrittenColumns.{compact_files, wide_files}
use Rattle.mt_wide.specs.HeldRows as wide
use Rattle.mt_wide.specs.WideReading.{wide_reading}
use Rattle.mt_wide.proofs.WideLawLemmas.{wide_exactly}
use Rattle.mt_compact.specs.HeldRows as compact
use Rattle.mt_compact.specs.CompactReading.{compact_reading}
use Rattle.mt_compact.proofs.CompactLawLemmas.{compact_exactly}
use Rattle.mt_law_written.specs.Layouts.{AreLaidOut, HaveNames}
use Rattle.mt_law_written.proofs.WideLemmas.{columns_hold, wide_held}
use Rattle.mt_law_written.proofs.CompactLemmas.{compact_held}
use Rattle.mt_law_written.proofs.DefinitionLemmas.{granules_of}
use Rattle.mt_law_written.proofs.DataNames.{compact_apart, wide_apart}
use Rattle.mt_law_written.proofs.FolderLemmas.{all_found}
use Rattle.mt_law_written.proofs.StandLemmas.{own_columns}
use Rattle.mt_law_written.proofs.ShortFiles.{compact_short, wide_short}

-- granules of rows that a part may have are numbers of 64 bits
few_in_each : (columns : List Column) (rows : List Row) (granules : List ℕ) → AreLaidOut columns rows granules → All (λ count. count < 2 ^ 64) granules
few_in_each columns rows granules are =
    let limit : MAX_ROWS < 2 ^ 64 = lit< tt in
    each_below_sum (2 ^ 64) granules (omega (arith, are.cut.all, are.few_rows))

pub wide_again : (columns : List Column) (rows : List Row) (granules : List ℕ) → 1 ≤ length columns → AreLaidOut columns rows granules → HaveNames columns
    → wide_reading (folder_of (wide_files columns rows granules)) (length rows) columns ≡ Ok (rows, granules)
wide_again columns rows granules some are names =
    let files : List FileBytes = wide_files columns rows granules in
    let folder : Folder = folder_of files in
    let there = all_found files (wide_apart columns rows granules (own_columns columns names are.types)) in
    let holds : wide.HoldsRows columns rows granules (length rows) folder = record {
      many = refl;
      fit = are.fit;
      layout = wide_held columns rows granules folder are.cut (few_in_each columns rows granules are) (columns_hold columns rows are.types are.fit) (wide_short columns rows granules are) there;
    } in
    (wide_exactly folder (length rows) columns rows granules are.types some are.not_empty are.few_rows).1 holds

pub compact_again : (columns : List Column) (rows : List Row) (granules : List ℕ) → 1 ≤ length columns → length columns ≤ MAX_COLUMNS → AreLaidOut columns rows granules
    → compact_reading (folder_of (compact_files columns rows granules)) (length rows) columns ≡ Ok (rows, granules)
compact_again columns rows granules some narrow are =
    let files : List FileBytes = compact_files columns rows granules in
    let folder : Folder = folder_of files in
    let there = all_found files (compact_apart columns rows granules) in
    let holds : compact.HoldsRows columns rows granules (length rows) folder = record {
      many = refl;
      fit = are.fit;
      layout = compact_held columns rows granules folder are.cut (few_in_each columns rows granules are) (granules_of columns granules rows are.types are.fit) (compact_short columns rows granules are) there;
    } in
    (compact_exactly folder (length rows) columns rows granules are.types some narrow are.not_empty are.few_rows).1 holds
