-- What holds where the checks of rows hold.
use Rattle.std.proofs.Common.{◌≡◌, ◌≢◌, ℕ, suc, ◌+◌, ◌≤◌, Bool, true, false, List, [], length, refl, ap, ◌∙◌, get_or, arith}
use Rattle.std.specs.Prelude.{All, IsSorted, Ok, Option, Some, None, nat_le}
use Rattle.std.specs.Ordering.{is_lt}
use Rattle.std.proofs.lemmas.Bool.{leb-true}
use Rattle.mt_fault.specs.declared.fault.Fault.{Fault}
use Rattle.mt_fault.specs.declared.fault.Why.TheVariants as why
use Rattle.mt_types.specs.Steps.{require}
use Rattle.mt_table.specs.declared.definition.PartDef.{PartDef}
use Rattle.mt_table.specs.declared.limits.TheConstants.{MAX_CELLS, MAX_ROWS}
use Rattle.mt_defs.specs.Folder.{Folder}
use Rattle.mt_defs.specs.Rows.{ArePartRows, Row, RowFits, cell_count, key_cmp}
use Rattle.mt_definition.specs.declared.accepted.Accepted.{Accepted}
use Rattle.mt_definition.specs.DefinitionReading.{cells_reading, sort_file, sorted_reading}
use Rattle.mt_fault.specs.Faults.{granule_fault}
use Rattle.mt_files.specs.Faults.{none_found}
use Rattle.mt_definition.specs.RowsReading.{first_fall, granule_of}
use Rattle.mt_definition.proofs.RowLemmas.{fall_free}

pub required_true : (b : Bool) (fault : Fault) → require b fault ≡ Ok tt → b ≡ true
required_true true fault e = refl
required_true false fault e = cc

pub none_is : {A : Type 0} (found : Option A) (fault : A → Fault) → none_found found fault ≡ Ok tt → found ≡ None
none_is None fault e = refl
none_is (Some x) fault e = cc

pub in_order : (sort : List ℕ) (rows : List Row) → first_fall sort rows ≡ None → IsSorted (key_cmp sort) rows
in_order sort rows none k d low inside =
    let next : k + 1 ≡ suc k = omega arith in
    ap (λ i. is_lt (key_cmp sort (get_or rows i d) (get_or rows k d))) next ∙ fall_free sort rows none k d (omega (arith, inside))

pub part_rows : (definition : PartDef) (folder : Folder) (accepted : Accepted) → accepted.rows ≢ [] → length accepted.rows ≤ MAX_ROWS → All (RowFits definition.columns) accepted.rows → cells_reading definition accepted ≡ Ok tt
    → sorted_reading definition folder accepted ≡ Ok tt → ArePartRows definition accepted.rows
part_rows definition folder accepted some few fit cells rises = record {
  not_empty = some;
  fit = fit;
  ordered = in_order definition.sort accepted.rows (none_is (first_fall definition.sort accepted.rows) (λ row. granule_fault (sort_file definition folder) (granule_of accepted.granules row) why.Sorted) rises);
  few_rows = few;
  few_cells = leb-true (cell_count definition.columns accepted.rows) MAX_CELLS (required_true (nat_le (cell_count definition.columns accepted.rows) MAX_CELLS) _ cells);
}
