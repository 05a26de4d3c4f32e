-- What the rules of a table give the writer of skip indexes and partition files, and the marks of an index.
use Rattle.std.proofs.Common.{◌≡◌, ℕ, ◌<◌, true, List, [], ◌∷◌, ◌++◌, length, map, get_or, refl, ap, sym, ◌∙◌, subst}
use Rattle.std.specs.Prelude.{All, nat_le}
use Rattle.std.specs.List.{list_all, filter_map, flat_map, concat}
use Rattle.std.proofs.lemmas.Bool.{leb-true}
use Rattle.std.proofs.lemmas.List.{append_assoc, get_or_default}
use Rattle.std.proofs.lemmas.List.Elements.{All-weaker}
use Rattle.mt_facts.proofs.Lists.{each_passes}
use Rattle.mt_types.specs.declared.ty.Ty.{Ty, out-Ty}
use Rattle.mt_types.specs.declared.ty.Ty.TheOpen.{Ty-F}
use Rattle.mt_types.specs.declared.ty.Ty.TheVariants.{Date, outs-Date}
use Rattle.mt_types.proofs.Levels.{same_level}
use Rattle.mt_types.proofs.StepLemmas.{both_true}
use Rattle.mt_table.specs.declared.column.Column.{Column}
use Rattle.mt_table.specs.declared.definition.Table.{Table}
use Rattle.mt_table.specs.declared.partition.PartExpr.{PartExpr}
use Rattle.mt_table.specs.declared.partition.PartExpr.TheVariants.{Plain, Month}
use Rattle.mt_table.specs.declared.skip.Skip.{Skip}
use Rattle.mt_table.specs.ColumnTypes.{is_date_at, is_date_type, is_key_type, place_has}
use Rattle.mt_table.specs.declared.limits.TheConstants.{MAX_PARTITION, MAX_SKIPS}
use Rattle.mt_table.specs.Names.{places_differ}
use Rattle.mt_table.specs.Kept.{keeps_expression, keeps_skip, month_place, plain_place}
use Rattle.mt_types.specs.Words.{is_name}
use Rattle.mt_table.specs.Tables.{fields_of_table}
use Rattle.mt_table.proofs.KeptLemmas.{each_of}
use Rattle.mt_fault.specs.declared.file.FileBytes.{FileBytes}
use Rattle.mt_types.specs.declared.value.Value.{Value}
use Rattle.mt_types.specs.Fits.{fits_of}
use Rattle.mt_layout.specs.declared.layout.Layout.{Layout}
use Rattle.mt_skip.specs.Items.{AllFit}
use Rattle.mt_granules.specs.CellColumns.{HasValues}
use Rattle.mt_granules.proofs.CellLemmas.{column_fit, column_values_fit}
use Rattle.mt_defs.specs.declared.mark.Mark.{Mark}
use Rattle.mt_defs.specs.Lists.{offsets_from}
use Rattle.mt_defs.specs.Marks.{u64_bytes}
use Rattle.mt_defs.specs.Part.{marks_ending}
use Rattle.mt_defs.specs.Rows.{Row, RowFits, column_values}
use Rattle.mt_defs.specs.WrittenColumns.{file}
use Rattle.mt_defs.specs.WrittenGranules.{is_small, written_granules}
use Rattle.mt_defs.specs.Metadata.{column_at, no_column}
use Rattle.mt_defs.specs.SkipIndexes.{skip_data_name, skip_mark_bytes, skip_marks_name}
use Rattle.mt_defs.specs.WrittenFrames.{mark_at, written_frames}
use Rattle.mt_defs.specs.WrittenSkips.{skip_files, written_entries, written_skip_mark}
use Rattle.mt_meta.specs.PartitionKeys.{ArePartitionKeys, IsKeyExpression}
use Rattle.mt_build.specs.Definitions.{IsLayout}
use Rattle.mt_build.specs.SkipFiles.{IsSkip, passed_mark}
use Rattle.mt_meta.proofs.DefinitionLemmas.{has_column, key_scalar}

-- ---- skip indexes

skip_is : (columns : List Column) (skip : Skip) → keeps_skip columns skip ≡ true → IsSkip columns skip
skip_is columns skip keeps =
    let named = both_true (is_name skip.name) _ keeps in
    let typed = both_true (place_has is_key_type columns skip.column) _ named.1 in
    let counted = both_true (nat_le 1 skip.granularity) _ typed.1 in
    let has = has_column is_key_type columns skip.column typed.0 in
    record { known = has.known; scalar = key_scalar (column_at columns skip.column).ty has.passes; granularity = leb-true 1 skip.granularity counted.0 }

pub skips_are : (table : Table) → All (IsSkip table.columns) table.skips
skips_are table =
    let keeps = (each_of (fields_of_table table) table.rules).skips in
    let parts = both_true (nat_le (length table.skips) MAX_SKIPS) _ keeps in
    let each = both_true (list_all (keeps_skip table.columns) table.skips) _ parts.1 in
    All-weaker (λ skip. keeps_skip table.columns skip ≡ true) (IsSkip table.columns) (skip_is table.columns) table.skips (each_passes (keeps_skip table.columns) table.skips each.0)

-- so is each, where code reads it
pub skip_at : (table : Table) (slice : List Skip) (i : ℕ) (skip : Skip) → slice ≡ table.skips → i < length slice → skip ≡ get_or slice i skip → IsSkip table.columns skip
skip_at table slice i skip same inside is =
    subst (IsSkip table.columns) (sym is) (subst (All (IsSkip table.columns)) (sym same) (skips_are table) i skip inside)

-- the marks at some offsets
pub passed_marks : (offsets : List ℕ) → flat_map passed_mark (map mark_at offsets) ≡ flat_map (λ offset. skip_mark_bytes (written_skip_mark offset)) offsets
passed_marks [] = refl
passed_marks (offset ∷ offsets) = ap (λ bytes. passed_mark (mark_at offset) ++ bytes) (passed_marks offsets)

-- a mark behind others
pub mark_appended : (old offset inner new : List ℕ) (mark : Mark) → offset ≡ old ++ u64_bytes mark.offset → inner ≡ offset ++ u64_bytes mark.inner → new ≡ inner ++ u64_bytes 1 → new ≡ old ++ passed_mark mark
mark_appended old offset inner new mark first second third =
    let x = u64_bytes mark.offset in
    let y = u64_bytes mark.inner in
    let z = u64_bytes 1 in
    third ∙ ap (λ l. l ++ z) (second ∙ ap (λ l. l ++ y) first) ∙ append_assoc (old ++ x) y z ∙ append_assoc old x (y ++ z) ∙ ap (λ l. old ++ l) (sym (append_assoc x y z))

-- the rows have values of an index's column
pub has_values : (columns : List Column) (skip : Skip) (rows : List Row) → IsSkip columns skip → All (RowFits columns) rows → HasValues (column_at columns skip.column).ty skip.column rows
has_values columns skip rows is fit =
    column_values_fit columns rows skip.column (column_at columns skip.column) is.known (get_or_default columns skip.column no_column (column_at columns skip.column) is.known) fit

-- the index's column where code reads it
pub column_read : (columns slice : List Column) (place : ℕ) (d : Column) → slice ≡ columns → place < length columns → get_or slice place d ≡ column_at columns place
column_read columns slice place d same known = ap (λ (s : List Column). get_or s place d) same ∙ get_or_default columns place d no_column known

pub values_fit : (columns slice : List Column) (skip : Skip) (rows : List Row) (d : Column) (read values : List Value) → IsSkip columns skip → All (RowFits columns) rows → slice ≡ columns
    → read ≡ values → values ≡ column_values skip.column rows → AllFit (get_or slice skip.column d).ty read
values_fit columns slice skip rows d read values is fit same reads are =
    let ty = (column_at columns skip.column).ty in
    let all : AllFit ty (column_values skip.column rows) = each_passes (fits_of ty) (column_values skip.column rows) (column_fit ty skip.column rows (has_values columns skip rows is fit)) in
    let at : AllFit ty read = subst (AllFit ty) (sym (reads ∙ are)) all in
    subst (λ (c : Column). AllFit c.ty read) (sym (column_read columns slice skip.column d same is.known)) at

-- the files of an index, behind others
pub skip_appended : (table : Table) (rows : List Row) (skip : Skip) (layout : Layout) (old one two : List FileBytes) (entries : List (List ℕ)) (framed_bytes : List ℕ) (places : List Mark) (name other marks : List ℕ)
    → IsLayout table.settings table.columns rows layout → entries ≡ written_entries table skip rows layout.granules → framed_bytes ≡ concat (map written_frames entries) → places ≡ map mark_at (offsets_from 0 (map length (map written_frames entries)))
    → name ≡ skip_data_name skip → other ≡ skip_marks_name skip (marks_ending layout.compact) → marks ≡ flat_map passed_mark places
    → one ≡ old ++ file name framed_bytes ∷ [] → two ≡ one ++ file other marks ∷ [] → two ≡ old ++ skip_files table rows skip
skip_appended table rows skip layout old one two entries framed_bytes places name other marks laid entered framed placed named also marked first second =
    let written = written_entries table skip rows (written_granules table.settings table.columns rows) in
    let same : entries ≡ written = entered ∙ ap (written_entries table skip rows) laid.granules in
    let frames = map written_frames written in
    let data_is : framed_bytes ≡ concat frames = framed ∙ ap (λ es. concat (map written_frames es)) same in
    let places_are : places ≡ map mark_at (offsets_from 0 (map length frames)) = placed ∙ ap (λ es. map mark_at (offsets_from 0 (map length (map written_frames es)))) same in
    let marks_are : marks ≡ flat_map (λ offset. skip_mark_bytes (written_skip_mark offset)) (offsets_from 0 (map length frames)) = marked ∙ ap (flat_map passed_mark) places_are ∙ passed_marks (offsets_from 0 (map length frames)) in
    let other_is : other ≡ skip_marks_name skip (marks_ending (is_small table.settings table.columns rows)) = also ∙ ap (λ compact. skip_marks_name skip (marks_ending compact)) laid.compact in
    second ∙ ap (λ l. l ++ file other marks ∷ []) first ∙ append_assoc old (file name framed_bytes ∷ []) (file other marks ∷ [])
    ∙ ap (λ n. old ++ file n framed_bytes ∷ file other marks ∷ []) named ∙ ap (λ b. old ++ file (skip_data_name skip) b ∷ file other marks ∷ []) data_is
    ∙ ap (λ n. old ++ file (skip_data_name skip) (concat frames) ∷ file n marks ∷ []) other_is ∙ ap (λ b. old ++ file (skip_data_name skip) (concat frames) ∷ file (skip_marks_name skip (marks_ending (is_small table.settings table.columns rows))) b ∷ []) marks_are

-- ---- partition keys

date_at : (ty : Ty) (level : Ty-F Ty) → out-Ty ty ≡ level → is_date_at level ≡ true → ty ≡ Date
date_at ty Ty-F.Date is e = same_level ty Date (is ∙ sym outs-Date)
date_at ty _ is e = cc

expression_is : (columns : List Column) (expression : PartExpr) → keeps_expression columns expression ≡ true → IsKeyExpression columns expression
expression_is columns (Plain i) keeps =
    let has = has_column is_key_type columns i keeps in
    (has.known, key_scalar (column_at columns i).ty has.passes)
expression_is columns (Month i) keeps =
    let has = has_column is_date_type columns i keeps in
    (has.known, date_at (column_at columns i).ty (out-Ty (column_at columns i).ty) refl has.passes)

pub partition_keys : (table : Table) → ArePartitionKeys table.columns table.partition
partition_keys table =
    let keeps = (each_of (fields_of_table table) table.rules).partition in
    let few = both_true (nat_le (length table.partition) MAX_PARTITION) _ keeps in
    let plain = both_true (places_differ (filter_map plain_place table.partition)) _ few.1 in
    let months = both_true (places_differ (filter_map month_place table.partition)) (list_all (keeps_expression table.columns) table.partition) plain.1 in
    All-weaker (λ expression. keeps_expression table.columns expression ≡ true) (IsKeyExpression table.columns) (expression_is table.columns) table.partition (each_passes (keeps_expression table.columns) table.partition months.1)
