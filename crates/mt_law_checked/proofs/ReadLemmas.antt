-- What is read of a definition's folder, the folder holds.
use Rattle.std.proofs.Common.{◌≡◌, ◌≢◌, ℕ, ◌≤◌, true, List, [], ◌∷◌, length, map, sym, ap, subst, ◌∙◌, arith}
use Rattle.std.specs.Prelude.{All, IsTrue, Ok, Some}
use Rattle.std.specs.List.{list_all}
use Rattle.std.proofs.lemmas.List.{length-map, get_or_default}
use Rattle.mt_types.specs.Profile.{is_profile}
use Rattle.mt_table.specs.declared.column.Column.{Column}
use Rattle.mt_table.specs.declared.definition.PartDef.{PartDef}
use Rattle.mt_table.specs.declared.limits.TheConstants.{MAX_ROWS}
use Rattle.mt_table.specs.Kept.{is_one_of}
use Rattle.mt_defs.specs.Folder.{Folder}
use Rattle.mt_defs.specs.Metadata.{HasDefaults, column_at, no_column}
use Rattle.mt_defs.specs.Part.{HoldsRows, HasColumns}
use Rattle.mt_defs.specs.Rows.{Row, RowFits, key_of}
use Rattle.mt_defs.proofs.ListedColumns.{listed, listed_few}
use Rattle.mt_definition.specs.declared.accepted.Accepted.{Accepted}
use Rattle.mt_definition.specs.DefinitionReading.{definition_reading}
use Rattle.mt_definition.specs.RowsReading.{whole_row}
use Rattle.mt_definition.proofs.DefinitionLaw.{part_rows}
use Rattle.mt_definition.proofs.StoredLemmas.{rows_long}
use Rattle.mt_definition.proofs.WholeRows.{rows_fit, rows_lack_none, rows_there}
use Rattle.mt_files.proofs.TextLemmas.{ListsAre}
use Rattle.mt_files.proofs.PlaceLemmas.{listed_profile}
use Rattle.mt_law_checked.specs.Readable.{IsReadable}
use Rattle.mt_law_checked.proofs.DataLemmas.{CanBeRead, CompactIsExact, WideIsExact, data_is_read}
use Rattle.mt_law_checked.proofs.FileLemmas.{CountsAreRead, HasCount, HasOrder, count_is_read, index_is_read, order_is_read}
use Rattle.mt_law_checked.proofs.PassedLemmas.{Passed, ReadsStored, passed_of, stored_of}

types_of : (definition : PartDef) → IsReadable definition → All (λ column. IsTrue (is_profile column.ty)) definition.columns
types_of definition readable k d inside = ap (λ (column : Column). is_profile column.ty) (get_or_default definition.columns k d no_column inside) ∙ readable.listed.types k inside

-- some column is listed, where one must be
some_listed : (must order : List ℕ) → 1 ≤ length must → list_all (is_one_of order) must ≡ true → 1 ≤ length order
some_listed [] order some has = absurd (omega (arith, some))
some_listed (place ∷ must) [] some has = cc
some_listed (place ∷ must) (i ∷ order) some has = omega arith

pub can_be_read : (definition : PartDef) (folder : Folder) (order : List ℕ) (count : ℕ) → IsReadable definition → HasOrder definition order folder → 1 ≤ count → count ≤ MAX_ROWS
    → CanBeRead folder count (map (column_at definition.columns) order)
can_be_read definition folder order count readable has some few =
    let is = listed definition.columns definition.must order has.lists.may in
    let size = length-map order (column_at definition.columns) in
    let some_columns = some_listed definition.must order readable.some is.has in
    let no_more = listed_few definition.columns definition.must order has.lists.may in
    let few_columns = readable.listed.few in
    record {
      types = listed_profile definition.columns order is.known (types_of definition readable);
      some = omega (arith, size, some_columns);
      few = omega (arith, size, no_more, few_columns);
      some_rows = some;
      few_rows = few;
    }

module _ (only : ListsAre) (counted : CountsAreRead) (wide_is : WideIsExact) (compact_is : CompactIsExact) (definition : PartDef) (folder : Folder) (readable : IsReadable definition) where
  -- what the files say of the accepted rows
  record Stored (accepted : Accepted) : Type 0 where
    order : List ℕ
    file_rows : List Row
    orders : HasOrder definition order folder
    counts : HasCount (length definition.columns) (length accepted.rows) folder
    fit : All (RowFits (map (column_at definition.columns) order)) file_rows
    columns : HasColumns (map (column_at definition.columns) order) file_rows accepted.granules folder
    whole : accepted.rows ≡ map (whole_row definition.columns order) file_rows

  stored_holds : (accepted : Accepted) → ReadsStored definition folder accepted → Stored accepted
  stored_holds accepted read =
      let orders = order_is_read definition folder read.order only read.orders in
      let counts = count_is_read definition folder read.count counted read.counts in
      let can = can_be_read definition folder read.order read.count readable orders counts.counts.some counts.counts.few_rows in
      let has = data_is_read wide_is compact_is folder read.count (map (column_at definition.columns) read.order) read.rows read.granules can read.reads in
      let rows_are : accepted.rows ≡ map (whole_row definition.columns read.order) read.rows = ap (λ (a : Accepted). a.rows) read.is in
      let granules_are : accepted.granules ≡ read.granules = ap (λ (a : Accepted). a.granules) read.is in
      let many : length accepted.rows ≡ read.count = ap (λ (rows : List Row). length rows) rows_are ∙ length-map read.rows (whole_row definition.columns read.order) ∙ has.many in
      record {
        order = read.order;
        file_rows = read.rows;
        orders = orders;
        counts = subst (λ n. HasCount (length definition.columns) n folder) (sym many) counts;
        fit = has.fit;
        columns = subst (λ (granules : List ℕ). HasColumns (map (column_at definition.columns) read.order) read.rows granules folder) (sym granules_are) has.layout;
        whole = rows_are;
      }

  some_rows : (accepted : Accepted) → 1 ≤ length accepted.rows → accepted.rows ≢ []
  some_rows accepted some none = let size : length accepted.rows ≡ 0 = ap (λ (rows : List Row). length rows) none in omega (arith, some, size)

  -- the folder holds the rows that are accepted
  held_of : (accepted : Accepted) → Passed definition folder accepted → Stored accepted → HoldsRows definition folder accepted.rows accepted.granules
  held_of accepted passed stored =
      let order = stored.order in
      let listed_columns : List Column = map (column_at definition.columns) order in
      let is = listed definition.columns definition.must order stored.orders.lists.may in
      let fit : All (RowFits definition.columns) accepted.rows = subst (All (RowFits definition.columns)) (sym stored.whole) (rows_fit definition.columns order stored.file_rows stored.fit) in
      let lacks : All (HasDefaults definition.columns order) accepted.rows = subst (All (HasDefaults definition.columns order)) (sym stored.whole) (rows_lack_none definition.columns order stored.file_rows) in
      let back : stored.file_rows ≡ map (key_of order) accepted.rows =
      rows_there definition.columns order stored.file_rows is.known is.once (rows_long definition.columns order stored.file_rows stored.fit) ∙ ap (map (key_of order)) (sym stored.whole) in
      record {
        part_rows = part_rows definition folder accepted (some_rows accepted stored.counts.counts.some) stored.counts.counts.few_rows fit passed.cells passed.rises;
        order = order;
        metadata = record {
          listed = stored.orders.lists.may;
          lists_columns = stored.orders.there ∙ ap Some stored.orders.lists.listed;
          counts_rows = stored.counts.there ∙ ap Some stored.counts.counts.decimal;
        };
        defaults = lacks;
        columns = subst (λ (rows : List Row). HasColumns listed_columns rows accepted.granules folder) back stored.columns;
        index = index_is_read definition folder accepted passed.index;
      }

  pub read_rows_are_held : (accepted : Accepted) → definition_reading definition folder ≡ Ok accepted → HoldsRows definition folder accepted.rows accepted.granules
  read_rows_are_held accepted e =
      let passed = passed_of definition folder accepted e in
      held_of accepted passed (stored_holds accepted (stored_of definition folder accepted passed.stored))
