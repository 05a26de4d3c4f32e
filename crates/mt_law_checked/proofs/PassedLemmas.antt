-- What passed where a definition's checks accept rows.
use Rattle.std.proofs.Common.{◌≡◌, ℕ, List, map, refl, sym, subst, ◌∙◌}
use Rattle.std.specs.Prelude.{Ok, Result}
use Rattle.mt_types.specs.Steps.{◌>>=◌}
use Rattle.mt_types.proofs.StepLemmas.{ok_one, ok_then}
use Rattle.mt_fault.specs.declared.fault.Fault.{Fault}
use Rattle.mt_table.specs.declared.definition.PartDef.{PartDef}
use Rattle.mt_defs.specs.Folder.{Folder}
use Rattle.mt_defs.specs.Metadata.{column_at}
use Rattle.mt_defs.specs.Rows.{Row}
use Rattle.mt_definition.specs.declared.accepted.Accepted.{Accepted}
use Rattle.mt_definition.specs.DataReading.{data_reading}
use Rattle.mt_definition.specs.DefinitionReading.{cells_reading, definition_reading, in_definition_order, index_reading, sorted_reading, stored_reading}
use Rattle.mt_files.specs.PartTexts.{order_reading, row_count_reading}
use Rattle.mt_definition.proofs.StoredLemmas.{behind_cells, behind_index, behind_sorted}

-- ---- the checks of a definition's folder

abbrev behind_stored : PartDef → Folder → Accepted → Result Accepted Fault
behind_stored definition folder accepted = cells_reading definition accepted >>= behind_cells definition folder accepted

definition_is : (definition : PartDef) (folder : Folder) → definition_reading definition folder ≡ (stored_reading definition folder >>= behind_stored definition folder)
unfolding definition_reading
definition_is definition folder = refl

-- what passed where rows are accepted
pub record Passed (definition : PartDef) (folder : Folder) (accepted : Accepted) : Type 0 where
  pub stored : stored_reading definition folder ≡ Ok accepted
  pub cells : cells_reading definition accepted ≡ Ok tt
  pub rises : sorted_reading definition folder accepted ≡ Ok tt
  pub index : index_reading definition folder accepted ≡ Ok tt

pub passed_of : (definition : PartDef) (folder : Folder) (accepted : Accepted) → definition_reading definition folder ≡ Ok accepted → Passed definition folder accepted
passed_of definition folder accepted e =
    ok_then (stored_reading definition folder) (behind_stored definition folder) accepted (sym (definition_is definition folder) ∙ e) (λ found stored e.
    ok_then (cells_reading definition found) (behind_cells definition folder found) accepted e (λ _ cells e.
    ok_then (sorted_reading definition folder found) (behind_sorted definition folder found) accepted e (λ _ rises e.
    ok_then (index_reading definition folder found) (behind_index found) accepted e (λ _ index e.
    subst (Passed definition folder) (sym (ok_one found accepted e)) (record { stored = stored; cells = cells; rises = rises; index = index })))))

-- ---- the files of its rows

abbrev behind_data : PartDef → List ℕ → List Row × List ℕ → Result Accepted Fault
behind_data definition order read = Ok (in_definition_order definition.columns order read)

abbrev behind_count : PartDef → Folder → List ℕ → ℕ → Result Accepted Fault
behind_count definition folder order count = data_reading folder count (map (column_at definition.columns) order) >>= behind_data definition order

abbrev behind_order : PartDef → Folder → List ℕ → Result Accepted Fault
behind_order definition folder order = row_count_reading definition folder >>= behind_count definition folder order

stored_is : (definition : PartDef) (folder : Folder) → stored_reading definition folder ≡ (order_reading definition folder >>= behind_order definition folder)
unfolding stored_reading
stored_is definition folder = refl

-- what was read of the files, its columns in their order
pub record ReadsStored (definition : PartDef) (folder : Folder) (accepted : Accepted) : Type 0 where
  pub order : List ℕ
  pub count : ℕ
  pub rows : List Row
  pub granules : List ℕ
  pub orders : order_reading definition folder ≡ Ok order
  pub counts : row_count_reading definition folder ≡ Ok count
  pub reads : data_reading folder count (map (column_at definition.columns) order) ≡ Ok (rows, granules)
  pub is : accepted ≡ in_definition_order definition.columns order (rows, granules)

pub stored_of : (definition : PartDef) (folder : Folder) (accepted : Accepted) → stored_reading definition folder ≡ Ok accepted → ReadsStored definition folder accepted
stored_of definition folder accepted e =
    ok_then (order_reading definition folder) (behind_order definition folder) accepted (sym (stored_is definition folder) ∙ e) (λ order orders e.
    ok_then (row_count_reading definition folder) (behind_count definition folder order) accepted e (λ count counts e.
    ok_then (data_reading folder count (map (column_at definition.columns) order)) (behind_data definition order) accepted e (λ (rows, granules) reads e.
    record { order = order; count = count; rows = rows; granules = granules; orders = orders; counts = counts; reads = reads; is = ok_one (in_definition_order definition.columns order (rows, granules)) accepted e })))
