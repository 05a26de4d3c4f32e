-- Files that are made of bytes: the marks of an index, and the primary index of rows that fit.
use Rattle.std.proofs.Common.{◌≡◌, ℕ, ◌+◌, ◌-◌, List, [], ◌++◌, length, take, drop, get_or, ap, sym, ◌∙◌, subst, arith, inl, inr}
use Rattle.std.specs.Prelude.{All}
use Rattle.std.specs.List.{flat_map}
use Rattle.std.specs.Int.{w64}
use Rattle.std.proofs.lemmas.Bool.{cases_lt}
use Rattle.std.proofs.lemmas.List.{get_or_past}
use Rattle.std.proofs.lemmas.List.Elements.{All-nil, All-append, All-take, All-drop, All-weaker}
use Rattle.mt_types.specs.Items.{item_bytes, text_at}
use Rattle.mt_types.specs.declared.ty.Ty.TheOpen.{Ty-F}
use Rattle.mt_types.specs.declared.ty.Ty.TheVariants.{Str, outs-Str}
use Rattle.mt_types.specs.declared.value.Value.{Value}
use Rattle.mt_types.specs.declared.value.Value.TheVariants.{Null, outs-Null}
use Rattle.mt_table.specs.declared.column.Column.{Column}
use Rattle.mt_table.specs.declared.definition.PartDef.{PartDef}
use Rattle.mt_defs.specs.declared.mark.Mark.{Mark}
use Rattle.mt_defs.specs.Granules.{granule_rows}
use Rattle.mt_defs.specs.Lists.{AreBytes}
use Rattle.mt_defs.specs.Marks.{mark_bytes, u64_bytes}
use Rattle.mt_defs.specs.Metadata.{column_at, no_column}
use Rattle.mt_defs.specs.PrimaryIndex.{index_rows, key_bytes, primary_index_of}
use Rattle.mt_defs.specs.Rows.{Row, RowFits, cell}
use Rattle.mt_defs.specs.SkipIndexes.{SkipMark, skip_mark_bytes}
use Rattle.mt_types.proofs.NumberLemmas.{item_at}
use Rattle.mt_defs.proofs.RowLemmas.{cell_fits, row_length}
use Rattle.mt_defs.proofs.ListLemmas.{flat_bytes}
use Rattle.mt_item.proofs.ItemBytes.{item_is_bytes, number_bytes, IsByte}
use Rattle.mt_law_written.proofs.ListLemmas.{All-granules, All-to_flat_map}

-- ---- lists of bytes

pub joined_bytes : (xs ys : List ℕ) → AreBytes xs → AreBytes ys → AreBytes (xs ++ ys)
joined_bytes = All-append IsByte

-- ---- the marks of an index

pub marks_are_bytes : (marks : List SkipMark) → AreBytes (flat_map skip_mark_bytes marks)
marks_are_bytes marks =
    flat_bytes skip_mark_bytes marks (λ k d inside.
    let one : SkipMark = get_or marks k d in
    joined_bytes (mark_bytes one.mark) (u64_bytes one.rows) (mark_is_bytes one.mark) (number_bytes w64 one.rows))
  where
    mark_is_bytes : (mark : Mark) → AreBytes (mark_bytes mark)
    mark_is_bytes mark = joined_bytes (u64_bytes mark.offset) (u64_bytes mark.inner) (number_bytes w64 mark.offset) (number_bytes w64 mark.inner)

-- ---- the primary index

null_item : item_bytes Str Null ≡ []
null_item = ap (λ (item : Value → List ℕ). item Null) (item_at Str Ty-F.Str outs-Str) ∙ ap text_at outs-Null

-- past its columns a row has NULL, which has no bytes
cell_is_bytes : (columns : List Column) (row : Row) (i : ℕ) → RowFits columns row → AreBytes (item_bytes (column_at columns i).ty (cell row i))
cell_is_bytes columns row i fits =
    elim (cases_lt i (length columns)) [
      | inl known ↦ item_is_bytes (column_at columns i).ty (cell row i) (cell_fits columns row i no_column fits known)
      | inr past ↦
          let long = row_length columns row fits in
          let none : column_at columns i ≡ no_column = get_or_past columns i no_column past in
          let null : cell row i ≡ Null = get_or_past row i Null (omega (arith, past, long)) in
          subst AreBytes (sym (ap (λ (column : Column). item_bytes column.ty (cell row i)) none ∙ ap (item_bytes Str) null ∙ null_item)) (All-nil IsByte)
    ]

key_is_bytes : (columns : List Column) (places : List ℕ) (row : Row) → RowFits columns row → AreBytes (key_bytes columns places row)
key_is_bytes columns places row fits = flat_bytes (λ i. item_bytes (column_at columns i).ty (cell row i)) places (λ k d inside. cell_is_bytes columns row (get_or places k d) fits)

index_rows_fit : (columns : List Column) (rows : List Row) (granules : List ℕ) → All (RowFits columns) rows → All (RowFits columns) (index_rows rows granules)
index_rows_fit columns rows granules fit =
    let Fits : Row → Type 0 = RowFits columns in
    let grouped : List (List Row) = granule_rows granules rows in
    let each : All (All Fits) grouped = All-granules Fits granules rows fit in
    All-append Fits (flat_map (take 1) grouped) (drop (length rows - 1) rows) (All-to_flat_map Fits (take 1) grouped (λ k d inside. All-take Fits 1 (get_or grouped k d) (each k d inside))) (All-drop Fits (length rows - 1) rows fit)

pub index_is_bytes : (definition : PartDef) (rows : List Row) (granules : List ℕ) → All (RowFits definition.columns) rows → AreBytes (primary_index_of definition rows granules)
index_is_bytes definition rows granules fit =
    let places : List ℕ = take definition.primary definition.sort in
    flat_bytes (key_bytes definition.columns places) (index_rows rows granules)
    (All-weaker (RowFits definition.columns) (λ row. AreBytes (key_bytes definition.columns places row)) (key_is_bytes definition.columns places) (index_rows rows granules) (index_rows_fit definition.columns rows granules fit))
