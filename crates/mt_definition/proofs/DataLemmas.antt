-- The rows of a folder's data: as many as its count, and each in a granule.
use Rattle.std.proofs.Common.{◌≡◌, ℕ, ◌≤◌, Bool, List, length, map, ap, sym, ◌∙◌, subst}
use Rattle.std.specs.Prelude.{All, IfOk, Result, Ok, Err, sum, ◌==◌, if◌then◌else◌}
use Rattle.std.specs.List.{enumerate_from}
use Rattle.std.proofs.lemmas.Bool.{eqb-true}
use Rattle.mt_types.specs.declared.value.Value.{Value}
use Rattle.mt_types.proofs.StepLemmas.{ok_then, ok_one, ok_pair, required}
use Rattle.mt_fault.specs.declared.fault.Why.TheVariants as why
use Rattle.mt_fault.specs.declared.error.FileError.{FileError}
use Rattle.mt_table.specs.declared.column.Column.{Column}
use Rattle.mt_defs.specs.Folder.{Folder}
use Rattle.mt_defs.specs.Granules.{AreGranules}
use Rattle.mt_defs.specs.Part.{is_compact}
use Rattle.mt_defs.specs.Rows.{Row}
use Rattle.mt_defs.specs.FileNames.{data_name, marks_name}
use Rattle.mt_defs.specs.Compact.{compact_data_name, compact_marks_name}
use Rattle.mt_marks.specs.MarkReading.{marks_reading}
use Rattle.mt_granules.specs.ColumnRows.{all_values, rows_of}
use Rattle.mt_fault.specs.Faults.{Judged, blame, file_fault}
use Rattle.mt_granules.specs.FileFaults.{file_reading, frame_fault, in_order, marks_fault}
use Rattle.mt_granules.specs.PayloadReading.{GranulePayloads, frames_in, granules_reading, payloads_of, payloads_reading}
use Rattle.mt_fault.specs.Results.{Gives}
use Rattle.mt_granules.proofs.MarksFileLemmas.{marks_keep}
use Rattle.mt_granules.proofs.PayloadLemmas.{granules_some}
use Rattle.mt_granules.proofs.RowLemmas.{length-rows_of}
use Rattle.mt_fault.proofs.FaultLemmas.{blame_ok}
use Rattle.mt_wide.specs.WideReading as wide
use Rattle.mt_wide.specs.WideReading.{wide_granules, wide_reading, first_stream}
use Rattle.mt_compact.specs.CompactReading as compact
use Rattle.mt_compact.specs.CompactReading.{compact_reading}
use Rattle.mt_definition.specs.DataReading.{data_reading}

-- each granule of a data file has a row
payloads_some : (folder : Folder) (data_file marks : List ℕ) (per : ℕ) (read : GranulePayloads) → payloads_reading folder data_file marks per ≡ Ok read → All (λ n. 1 ≤ n) read.granules
payloads_some folder data_file marks per read e =
    ok_then (file_reading folder data_file) _ read e (λ file is_file e.
    ok_then (blame (frame_fault data_file) (frames_in file)) _ read e (λ frames are_frames e.
    ok_then (file_reading folder marks) _ read e (λ bytes are_bytes e.
    ok_then (blame (marks_fault marks) (marks_reading per frames bytes)) _ read e (λ found is e.
    subst (λ (r : GranulePayloads). All (λ n. 1 ≤ n) r.granules) (sym (ok_one (payloads_of file frames found) read e))
    (granules_some frames found (marks_keep per frames bytes found (blame_ok (marks_fault marks) (marks_reading per frames bytes) found is)))))))

-- and they are as many as the count
pub record AreCut (count : ℕ) (granules : List ℕ) : Type 0 where
  pub some : All (λ n. 1 ≤ n) granules
  pub all : sum granules ≡ count

granules_cut : (folder : Folder) (count : ℕ) (data_file marks : List ℕ) (per : ℕ) (read : GranulePayloads) → granules_reading folder count data_file marks per ≡ Ok read → AreCut count read.granules
granules_cut folder count data_file marks per read e =
    ok_then (payloads_reading folder data_file marks per) _ read e (λ found is e.
    required (sum found.granules == count) (file_fault marks why.Rows) _ read e (λ all e.
    subst (λ (r : GranulePayloads). AreCut count r.granules) (sym (ok_one found read e))
    (record { some = payloads_some folder data_file marks per found is; all = eqb-true _ _ all })))

-- ---- rows and granules

pub record AreData (count : ℕ) (rows : List Row) (granules : List ℕ) : Type 0 where
  pub many : length rows ≡ count
  pub cut : AreGranules granules rows

are_data : (count : ℕ) (rows : List Row) (granules : List ℕ) → length rows ≡ count → AreCut count granules → AreData count rows granules
are_data count rows granules many cut = record { many = many; cut = record { not_empty = cut.some; all = cut.all ∙ sym many } }

rows_many : (count : ℕ) (columns : List (List Value)) (rows : List Row) → (let r : Judged (List Row) = Ok (rows_of count columns) in r) ≡ Ok rows → length rows ≡ count
rows_many count columns rows e = ap (λ (l : List Row). length l) (ok_one (rows_of count columns) rows e) ∙ length-rows_of count columns

pub wide_data : (folder : Folder) (count : ℕ) (columns : List Column) (rows : List Row) (granules : List ℕ) → wide_reading folder count columns ≡ Ok (rows, granules) → AreData count rows granules
wide_data folder count columns rows granules e =
    ok_then (wide_granules folder count columns) _ (rows, granules) e (λ cut is_cut e.
    ok_then (wide.wide_rows_reading folder cut count columns) _ (rows, granules) e (λ found are_rows e.
    ok_then (granules_reading folder count (data_name (first_stream columns)) (marks_name (first_stream columns)) 1) _ cut is_cut (λ read is_read is_cut.
    ok_then (in_order (wide.column_reading folder cut) columns) _ found are_rows (λ values are_values are_rows.
    let p = ok_pair found rows cut granules e in
    are_data count rows granules (ap (λ (l : List Row). length l) p.0 ∙ rows_many count (map all_values values) found are_rows)
    (subst (AreCut count) (sym (p.1 ∙ ok_one read.granules cut is_cut)) (granules_cut folder count (data_name (first_stream columns)) (marks_name (first_stream columns)) 1 read is_read))))))

pub compact_data : (folder : Folder) (count : ℕ) (columns : List Column) (rows : List Row) (granules : List ℕ) → compact_reading folder count columns ≡ Ok (rows, granules) → AreData count rows granules
compact_data folder count columns rows granules e =
    ok_then (granules_reading folder count compact_data_name compact_marks_name (length columns)) _ (rows, granules) e (λ read is_read e.
    ok_then (compact.compact_rows_reading read count columns) _ (rows, granules) e (λ found are_rows e.
    ok_then (in_order (compact.compact_column_reading (length columns) read) (enumerate_from 0 columns)) _ found are_rows (λ values are_values are_rows.
    let p = ok_pair found rows read.granules granules e in
    are_data count rows granules (ap (λ (l : List Row). length l) p.0 ∙ rows_many count (map all_values values) found are_rows)
    (subst (AreCut count) (sym p.1) (granules_cut folder count compact_data_name compact_marks_name (length columns) read is_read)))))

-- ---- both layouts

pub of_layout : (folder : Folder) (count : ℕ) (columns : List Column) (b : Bool) → is_compact folder ≡ b → data_reading folder count columns ≡ (if b then compact_reading folder count columns else wide_reading folder count columns)
unfolding data_reading
of_layout folder count columns b e = ap (λ (b : Bool). if b then compact_reading folder count columns else wide_reading folder count columns) e

-- a reader's answer that is the layout's
pub gives_data : (r : Result (List Row × List ℕ) FileError) (reading other : Judged (List Row × List ℕ)) → other ≡ reading → Gives r reading → Gives r other
gives_data r reading other same gives = subst (λ (j : Judged (List Row × List ℕ)). Gives r j) (sym same) gives

module _ (r : Result (List Row × List ℕ) FileError) (reading : Judged (List Row × List ℕ)) (count : ℕ) (gives : Gives r reading)
    (data_is : (rows : List Row) (granules : List ℕ) → reading ≡ Ok (rows, granules) → AreData count rows granules) where
  pub many_of : IfOk r (λ found. length found.0 ≡ count)
  many_of = by r gives
    where
      by : (r : Result (List Row × List ℕ) FileError) → Gives r reading → IfOk r (λ found. length found.0 ≡ count)
      by (Ok (rows, granules)) gives = (data_is rows granules gives).many
      by (Err e) gives = tt

  pub cut_of : IfOk r (λ found. AreGranules found.1 found.0)
  cut_of = by r gives
    where
      by : (r : Result (List Row × List ℕ) FileError) → Gives r reading → IfOk r (λ found. AreGranules found.1 found.0)
      by (Ok (rows, granules)) gives = (data_is rows granules gives).cut
      by (Err e) gives = tt
