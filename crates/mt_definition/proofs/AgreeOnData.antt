-- The folder of a definition: folders that agree at its names are read alike.
use Rattle.std.proofs.Common.{◌≡◌, ℕ, suc, ◌<◌, ◌≤◌, Bool, true, false, List, [], ◌∷◌, length, map, refl, ap, sym, subst, ◌∙◌, arith}
use Rattle.std.specs.Prelude.{Option, Some, None, Result, Ok, Err, if◌then◌else◌, option_and_then, slice_index_or}
use Rattle.std.specs.List.{AllByRecursion, flat_map}
use Rattle.std.proofs.lemmas.List.Elements.{recursion_from_All}
use Rattle.mt_types.specs.Steps.{◌>>=◌, ok_or}
use Rattle.mt_fault.specs.declared.fault.Fault.{Fault}
use Rattle.mt_fault.specs.declared.fault.Why.{Why}
use Rattle.mt_fault.specs.declared.fault.Why.TheVariants as why
use Rattle.mt_table.specs.declared.column.Column.{Column}
use Rattle.mt_table.specs.declared.definition.PartDef.{PartDef}
use Rattle.mt_defs.specs.Folder.{Folder}
use Rattle.mt_defs.specs.Compact.{compact_data_name}
use Rattle.mt_defs.specs.FileNames.{data_name, file_name}
use Rattle.mt_defs.specs.Metadata.{column_at, column_line, columns_name, count_name, may_list, no_column}
use Rattle.mt_defs.specs.Part.{is_compact, wide_names}
use Rattle.mt_defs.specs.PrimaryIndex.{index_name}
use Rattle.mt_defs.specs.Rows.{Row}
use Rattle.mt_defs.proofs.ListedColumns.{listed, listed_some}
use Rattle.mt_meta.specs.ColumnsReading.{columns_reading, if_listed, listing, order_of}
use Rattle.mt_meta.specs.CountReading.{count_reading}
use Rattle.mt_fault.specs.Faults.{blame, file_fault}
use Rattle.mt_wide.specs.WideReading.{wide_reading}
use Rattle.mt_compact.specs.CompactReading.{compact_reading}
use Rattle.mt_definition.specs.declared.accepted.Accepted.{Accepted}
use Rattle.mt_definition.specs.DataReading.{data_reading}
use Rattle.mt_meta.specs.Definitions.{IsDefinition}
use Rattle.mt_definition.specs.DefinitionReading.{cells_reading, definition_reading, in_definition_order, index_keys, stored_reading}
use Rattle.mt_files.specs.PartTexts.{count_why, order_reading}
use Rattle.mt_fault.specs.Faults.{file_fault, granule_fault}
use Rattle.mt_granules.specs.FileFaults.{file_at}
use Rattle.mt_files.specs.Faults.{none_found}
use Rattle.mt_files.specs.OwnNames.{data_names, own_names}
use Rattle.mt_definition.specs.RowsReading.{first_fall, granule_of, keys_reading}
use Rattle.mt_definition.proofs.AgreeLemmas.{AgreeAt, agree_each, compact_same, file_same, steps_same, wide_same}

-- ---- the order of columns

abbrev order_by : PartDef → Option (List ℕ) → Result (List ℕ) Fault
order_by definition text = ok_or (file_fault columns_name why.Missing) text >>= λ bytes. blame (file_fault columns_name) (columns_reading definition.columns definition.must bytes)

-- each is the index of a column
abbrev pub AreBelow : ℕ → List ℕ → Type 0
AreBelow count order = AllByRecursion (λ i. i < count) order

-- what is read of columns.txt: at least one column, each by an index
pub record IsOrderOf (definition : PartDef) (order : List ℕ) : Type 0 where
  pub below : AreBelow (length definition.columns) order
  pub some : 1 ≤ length order

order_in : (definition : PartDef) (found : Option (List ℕ)) (order : List ℕ) → IsDefinition definition → option_and_then (if_listed definition.columns definition.must) found ≡ Some order → IsOrderOf definition order
order_in definition None order is e = cc
order_in definition (Some found) order is e = by_test (may_list definition.columns definition.must found) refl e
  where
    by_test : (b : Bool) → may_list definition.columns definition.must found ≡ b → (if b then Some found else None) ≡ Some order → IsOrderOf definition order
    by_test true may e =
        let same : order ≡ found = cc in
        subst (IsOrderOf definition) (sym same) (record {
          below = recursion_from_All (λ i. i < length definition.columns) found (listed definition.columns definition.must found may).known;
          some = listed_some definition.columns definition.must found may is.listed;
        })
    by_test false may e = cc

order_is : (definition : PartDef) (text order : List ℕ) → IsDefinition definition → columns_reading definition.columns definition.must text ≡ Ok order → IsOrderOf definition order
unfolding columns_reading
order_is definition text order is e = by_lines (listing text) e
  where
    some_of : (o : Option (List ℕ)) → ok_or why.Columns o ≡ Ok order → o ≡ Some order
    some_of None e = cc
    some_of (Some found) e = let same : found ≡ order = cc in ap Some same

    by_lines : (lines : Option (List (List ℕ))) → (ok_or why.Syntax lines >>= λ found. ok_or why.Columns (option_and_then (if_listed definition.columns definition.must) (order_of (map column_line definition.columns) found))) ≡ Ok order → IsOrderOf definition order
    by_lines None e = cc
    by_lines (Some lines) e = order_in definition (order_of (map column_line definition.columns) lines) order is (some_of (option_and_then (if_listed definition.columns definition.must) (order_of (map column_line definition.columns) lines)) e)

-- the order that a folder has
folder_order : (definition : PartDef) (text : Option (List ℕ)) (order : List ℕ) → IsDefinition definition → order_by definition text ≡ Ok order → IsOrderOf definition order
folder_order definition None order is e = cc
folder_order definition (Some text) order is e = by_reading (columns_reading definition.columns definition.must text) refl e
  where
    by_reading : (r : Result (List ℕ) Why) → columns_reading definition.columns definition.must text ≡ r → blame (file_fault columns_name) r ≡ Ok order → IsOrderOf definition order
    by_reading (Ok found) is_read e = let same : found ≡ order = cc in order_is definition text order is (is_read ∙ ap Ok same)
    by_reading (Err w) is_read e = cc

-- it is that of columns.txt alone
pub order_same : (definition : PartDef) (f g : Folder) → f columns_name ≡ g columns_name → order_reading definition f ≡ order_reading definition g
order_same definition f g same = ap (order_by definition) (file_same f g columns_name same)

-- ---- the data

each_column : (f g : Folder) (columns : List Column) (order : List ℕ) → AgreeAt f g (flat_map wide_names columns) → AreBelow (length columns) order → AllByRecursion (λ column. AgreeAt f g (wide_names column)) (map (column_at columns) order)
each_column f g columns [] all below = tt
each_column f g columns (i ∷ order) all below = (agree_each f g wide_names columns i no_column all below.0, each_column f g columns order all below.1)

placed_length : (columns : List Column) (order : List ℕ) → length (map (column_at columns) order) ≡ length order
placed_length columns [] = refl
placed_length columns (i ∷ order) = ap (λ n. suc n) (placed_length columns order)

abbrev data_by : Bool → Folder → ℕ → List Column → Result (List Row × List ℕ) Fault
data_by compact folder count columns = if compact then compact_reading folder count columns else wide_reading folder count columns

data_is : (folder : Folder) (count : ℕ) (columns : List Column) → data_reading folder count columns ≡ data_by (is_compact folder) folder count columns
unfolding data_reading
data_is folder count columns = refl

data_by_same : (f g : Folder) (definition : PartDef) (order : List ℕ) (count : ℕ) (compact : Bool) → IsOrderOf definition order → AgreeAt f g (data_names definition.columns compact)
    → data_by compact f count (map (column_at definition.columns) order) ≡ data_by compact g count (map (column_at definition.columns) order)
data_by_same f g definition order count true is all = compact_same f g count (map (column_at definition.columns) order) all.0 all.1.0
data_by_same f g definition order count false is all =
    let some = is.some in
    let same = placed_length definition.columns order in
    wide_same f g count (map (column_at definition.columns) order) (omega (arith, same, some)) (each_column f g definition.columns order all is.below)

data_same : (f g : Folder) (definition : PartDef) (order : List ℕ) (count : ℕ) → is_compact f ≡ is_compact g → IsOrderOf definition order → AgreeAt f g (data_names definition.columns (is_compact f))
    → data_reading f count (map (column_at definition.columns) order) ≡ data_reading g count (map (column_at definition.columns) order)
data_same f g definition order count kind is all =
    let columns = map (column_at definition.columns) order in
    data_is f count columns ∙ data_by_same f g definition order count (is_compact f) is all ∙ ap (λ b. data_by b g count columns) kind ∙ sym (data_is g count columns)

-- ---- the definition

abbrev rest_by : (ℕ → List Column → Result (List Row × List ℕ) Fault) → PartDef → Option (List ℕ) → List ℕ → Result Accepted Fault
rest_by read definition count order =
    (ok_or (file_fault count_name why.Missing) count >>= λ text. blame (file_fault count_name) (count_why (count_reading (length definition.columns) text)))
    >>= λ count. read count (map (column_at definition.columns) order) >>= λ stored. Ok (in_definition_order definition.columns order stored)

stored_is : (definition : PartDef) (folder : Folder) → stored_reading definition folder ≡ (order_by definition (file_at folder columns_name) >>= rest_by (data_reading folder) definition (file_at folder count_name))
unfolding stored_reading
stored_is definition folder = refl

stored_same : (f g : Folder) (definition : PartDef) → IsDefinition definition → is_compact f ≡ is_compact g → AgreeAt f g (own_names definition.columns (is_compact f)) → stored_reading definition f ≡ stored_reading definition g
stored_same f g definition is kind all =
    stored_is definition f
    ∙ ap (λ o. order_by definition o >>= rest_by (data_reading f) definition (file_at f count_name)) (file_same f g columns_name all.0)
    ∙ ap (λ o. order_by definition (file_at g columns_name) >>= rest_by (data_reading f) definition o) (file_same f g count_name all.1.0)
    ∙ steps_same (order_by definition (file_at g columns_name)) _ _ (λ order found.
    steps_same (ok_or (file_fault count_name why.Missing) (file_at g count_name) >>= λ text. blame (file_fault count_name) (count_why (count_reading (length definition.columns) text))) _ _ (λ count counted.
    ap (λ (r : Result (List Row × List ℕ) Fault). r >>= λ stored. let done : Result Accepted Fault = Ok (in_definition_order definition.columns order stored) in done)
    (data_same f g definition order count kind (folder_order definition (file_at g columns_name) order is found) all.1.1.1)))
    ∙ sym (stored_is definition g)

abbrev file_by : PartDef → Bool → List ℕ
file_by definition compact = if compact then compact_data_name else data_name (file_name (column_at definition.columns (slice_index_or definition.sort 0 0)).name)

abbrev sorted_by : PartDef → Bool → Accepted → Result Unit Fault
sorted_by definition compact accepted = none_found (first_fall definition.sort accepted.rows) (λ row. granule_fault (file_by definition compact) (granule_of accepted.granules row) why.Sorted)

-- the order of the rows, and the keys
abbrev checks_by : PartDef → Bool → Option (List ℕ) → Accepted → Result Accepted Fault
checks_by definition compact index accepted =
    cells_reading definition accepted >>= λ _. sorted_by definition compact accepted >>= λ _. (ok_or (file_fault index_name why.Missing) index >>= keys_reading 0 (index_keys definition accepted)) >>= λ _. Ok accepted

definition_is : (definition : PartDef) (folder : Folder) → definition_reading definition folder ≡ (stored_reading definition folder >>= checks_by definition (is_compact folder) (file_at folder index_name))
unfolding definition_reading
definition_is definition folder = refl

pub definition_same : (f g : Folder) (definition : PartDef) → IsDefinition definition → is_compact f ≡ is_compact g → AgreeAt f g (own_names definition.columns (is_compact f)) → definition_reading definition f ≡ definition_reading definition g
definition_same f g definition is kind all =
    definition_is definition f
    ∙ ap (λ (r : Result Accepted Fault). r >>= checks_by definition (is_compact f) (file_at f index_name)) (stored_same f g definition is kind all)
    ∙ ap (λ b. stored_reading definition g >>= checks_by definition b (file_at f index_name)) kind
    ∙ ap (λ o. stored_reading definition g >>= checks_by definition (is_compact g) o) (file_same f g index_name all.1.1.0)
    ∙ sym (definition_is definition g)
