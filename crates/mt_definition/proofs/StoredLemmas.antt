-- A definition's folder, step by step.
use Rattle.std.proofs.Common.{◌≡◌, ℕ, ◌*◌, ◌≤◌, true, List, length, map, refl, ap, sym, subst, ◌∙◌, arith}
use Rattle.std.specs.Prelude.{All, IsTrue, Result, Ok}
use Rattle.std.specs.List.{list_all}
use Rattle.std.proofs.Math.Nat.{mul-le-mul_left}
use Rattle.std.proofs.lemmas.List.{length-map}
use Rattle.std.proofs.lemmas.List.Elements.{All-weaker}
use Rattle.mt_types.specs.declared.value.Value.{Value}
use Rattle.mt_types.specs.Fits.{fits_of}
use Rattle.mt_types.specs.Steps.{◌>>=◌}
use Rattle.mt_types.proofs.StepLemmas.{both_true, then_of}
use Rattle.mt_fault.specs.declared.fault.Fault.{Fault}
use Rattle.mt_fault.specs.declared.error.FileError.{FileError}
use Rattle.mt_table.specs.declared.column.Column.{Column}
use Rattle.mt_table.specs.declared.definition.PartDef.{PartDef}
use Rattle.mt_table.specs.declared.limits.TheConstants.{MAX_CELLS}
use Rattle.mt_table.specs.Kept.{is_place}
use Rattle.mt_table.proofs.PointwiseLemmas.{Pointwise-length}
use Rattle.mt_defs.specs.Folder.{Folder}
use Rattle.mt_defs.specs.Metadata.{column_at, may_list}
use Rattle.mt_defs.specs.Rows.{Row, RowFits}
use Rattle.mt_definition.specs.declared.accepted.Accepted.{Accepted}
use Rattle.mt_definition.specs.DataReading.{data_reading}
use Rattle.mt_definition.specs.DefinitionReading.{cells_reading, definition_reading, in_definition_order, index_reading, sorted_reading, stored_reading}
use Rattle.mt_files.specs.PartTexts.{order_reading, row_count_reading}
use Rattle.mt_fault.specs.Results.{FailsAs}
use Rattle.mt_definition.specs.RowsReading.{whole_row}
use Rattle.mt_fault.proofs.FaultLemmas.{fails_then}

-- ---- rows of the listed columns

abbrev Fits : Column → Value → Type 0
Fits column value = IsTrue (fits_of column.ty value)

pub rows_long : (columns : List Column) (order : List ℕ) (rows : List Row) → All (RowFits (map (column_at columns) order)) rows → All (λ row. length row ≡ length order) rows
rows_long columns order rows fit =
    All-weaker (RowFits (map (column_at columns) order)) (λ row. length row ≡ length order) (λ row fits. sym (Pointwise-length Fits (map (column_at columns) order) row fits) ∙ length-map order (column_at columns)) rows fit

-- ---- what is asked of the listed columns

pub may_places : (definition : PartDef) (order : List ℕ) (columns : List Column) (places : List ℕ) → columns ≡ definition.columns → places ≡ order → may_list definition.columns definition.must order ≡ true → list_all (is_place columns) places ≡ true
may_places definition order columns places same also may =
    ap (λ (cs : List Column). list_all (is_place cs) places) same ∙ ap (list_all (is_place definition.columns)) also ∙ (both_true (list_all (is_place definition.columns) order) _ may).0

-- fewer columns have fewer cells
pub fewer_cells : (count few many : ℕ) → few ≤ many → count * many ≤ MAX_CELLS → count * few ≤ MAX_CELLS
fewer_cells count few many less most =
    let below : count * few ≤ count * many = mul-le-mul_left count less in
    omega (arith, below, most)

-- ---- columns.txt, count.txt and the data

abbrev behind_data : List Column → List ℕ → List Row × List ℕ → Result Accepted Fault
behind_data columns order stored = Ok (in_definition_order columns order stored)

abbrev behind_count : PartDef → Folder → List ℕ → ℕ → Result Accepted Fault
behind_count definition folder order count = data_reading folder count (map (column_at definition.columns) order) >>= behind_data definition.columns order

abbrev behind_order : PartDef → Folder → List ℕ → Result Accepted Fault
behind_order definition folder order = row_count_reading definition folder >>= behind_count definition folder order

stored_is : (definition : PartDef) (folder : Folder) → stored_reading definition folder ≡ (order_reading definition folder >>= behind_order definition folder)
unfolding stored_reading
stored_is definition folder = refl

pub order_fails : (definition : PartDef) (folder : Folder) (e : FileError) → FailsAs e (order_reading definition folder) → FailsAs e (stored_reading definition folder)
order_fails definition folder e fails = subst (FailsAs e) (sym (stored_is definition folder)) (fails_then e (order_reading definition folder) (behind_order definition folder) fails)

known_order : (definition : PartDef) (folder : Folder) (order : List ℕ) → order_reading definition folder ≡ Ok order → stored_reading definition folder ≡ behind_order definition folder order
known_order definition folder order is = stored_is definition folder ∙ then_of (order_reading definition folder) order (behind_order definition folder) is

pub count_fails : (definition : PartDef) (folder : Folder) (order : List ℕ) (e : FileError) → order_reading definition folder ≡ Ok order → FailsAs e (row_count_reading definition folder) → FailsAs e (stored_reading definition folder)
count_fails definition folder order e is fails = subst (FailsAs e) (sym (known_order definition folder order is)) (fails_then e (row_count_reading definition folder) (behind_count definition folder order) fails)

known_count : (definition : PartDef) (folder : Folder) (order : List ℕ) (count : ℕ) → order_reading definition folder ≡ Ok order → row_count_reading definition folder ≡ Ok count → stored_reading definition folder ≡ behind_count definition folder order count
known_count definition folder order count is counts = known_order definition folder order is ∙ then_of (row_count_reading definition folder) count (behind_count definition folder order) counts

pub data_fails : (definition : PartDef) (folder : Folder) (order : List ℕ) (count : ℕ) (columns : List Column) (e : FileError) → order_reading definition folder ≡ Ok order → row_count_reading definition folder ≡ Ok count
    → columns ≡ map (column_at definition.columns) order → FailsAs e (data_reading folder count columns) → FailsAs e (stored_reading definition folder)
data_fails definition folder order count columns e is counts are fails =
    subst (FailsAs e) (sym (known_count definition folder order count is counts))
    (fails_then e (data_reading folder count (map (column_at definition.columns) order)) (behind_data definition.columns order) (subst (λ (cs : List Column). FailsAs e (data_reading folder count cs)) are fails))

pub stored_read : (definition : PartDef) (folder : Folder) (order : List ℕ) (count : ℕ) (columns : List Column) (read : List Row × List ℕ) (placed : List Row) → order_reading definition folder ≡ Ok order → row_count_reading definition folder ≡ Ok count
    → columns ≡ map (column_at definition.columns) order → data_reading folder count columns ≡ Ok read → placed ≡ map (whole_row definition.columns order) read.0
    → stored_reading definition folder ≡ Ok (let a : Accepted = record { rows = placed; granules = read.1 } in a)
stored_read definition folder order count columns (rows, granules) placed is counts are reads placed_is =
    known_count definition folder order count is counts
    ∙ then_of (data_reading folder count (map (column_at definition.columns) order)) (rows, granules) (behind_data definition.columns order) (ap (data_reading folder count) (sym are) ∙ reads)
    ∙ ap (λ (rs : List Row). let r : Result Accepted Fault = Ok (record { rows = rs; granules = granules }) in r) (sym placed_is)

-- ---- what follows

abbrev pub behind_index : Accepted → Unit {0} → Result Accepted Fault
behind_index accepted _ = Ok accepted

abbrev pub behind_sorted : PartDef → Folder → Accepted → Unit {0} → Result Accepted Fault
behind_sorted definition folder accepted _ = index_reading definition folder accepted >>= behind_index accepted

abbrev pub behind_cells : PartDef → Folder → Accepted → Unit {0} → Result Accepted Fault
behind_cells definition folder accepted _ = sorted_reading definition folder accepted >>= behind_sorted definition folder accepted

abbrev behind_stored : PartDef → Folder → Accepted → Result Accepted Fault
behind_stored definition folder accepted = cells_reading definition accepted >>= behind_cells definition folder accepted

definition_is : (definition : PartDef) (folder : Folder) → definition_reading definition folder ≡ (stored_reading definition folder >>= behind_stored definition folder)
unfolding definition_reading
definition_is definition folder = refl

pub stored_fails : (definition : PartDef) (folder : Folder) (e : FileError) → FailsAs e (stored_reading definition folder) → FailsAs e (definition_reading definition folder)
stored_fails definition folder e fails = subst (FailsAs e) (sym (definition_is definition folder)) (fails_then e (stored_reading definition folder) (behind_stored definition folder) fails)

module _ (definition : PartDef) (folder : Folder) (accepted : Accepted) (stored : stored_reading definition folder ≡ Ok accepted) where
  known_stored : definition_reading definition folder ≡ behind_stored definition folder accepted
  known_stored = definition_is definition folder ∙ then_of (stored_reading definition folder) accepted (behind_stored definition folder) stored

  pub cells_fail : (e : FileError) → FailsAs e (cells_reading definition accepted) → FailsAs e (definition_reading definition folder)
  cells_fail e fails = subst (FailsAs e) (sym known_stored) (fails_then e (cells_reading definition accepted) (behind_cells definition folder accepted) fails)

  known_cells : cells_reading definition accepted ≡ Ok tt → definition_reading definition folder ≡ behind_cells definition folder accepted tt
  known_cells is = known_stored ∙ then_of (cells_reading definition accepted) tt (behind_cells definition folder accepted) is

  pub sorted_fail : (e : FileError) → cells_reading definition accepted ≡ Ok tt → FailsAs e (sorted_reading definition folder accepted) → FailsAs e (definition_reading definition folder)
  sorted_fail e is fails = subst (FailsAs e) (sym (known_cells is)) (fails_then e (sorted_reading definition folder accepted) (behind_sorted definition folder accepted) fails)

  known_sorted : cells_reading definition accepted ≡ Ok tt → sorted_reading definition folder accepted ≡ Ok tt → definition_reading definition folder ≡ behind_sorted definition folder accepted tt
  known_sorted is rises = known_cells is ∙ then_of (sorted_reading definition folder accepted) tt (behind_sorted definition folder accepted) rises

  pub index_fail : (e : FileError) → cells_reading definition accepted ≡ Ok tt → sorted_reading definition folder accepted ≡ Ok tt → FailsAs e (index_reading definition folder accepted) → FailsAs e (definition_reading definition folder)
  index_fail e is rises fails = subst (FailsAs e) (sym (known_sorted is rises)) (fails_then e (index_reading definition folder accepted) (behind_index accepted) fails)

  pub definition_read : cells_reading definition accepted ≡ Ok tt → sorted_reading definition folder accepted ≡ Ok tt → index_reading definition folder accepted ≡ Ok tt → definition_reading definition folder ≡ Ok accepted
  definition_read is rises keys = known_sorted is rises ∙ then_of (index_reading definition folder accepted) tt (behind_index accepted) keys
