-- What the rules of a table say of its skip indexes and its partition key.
use Rattle.std.proofs.Common.{◌≡◌, true, List, length, refl, sym, ◌∙◌}
use Rattle.std.specs.Prelude.{nat_le}
use Rattle.std.specs.List.{list_all, filter_map}
use Rattle.std.proofs.lemmas.Bool.{leb-true}
use Rattle.std.proofs.lemmas.List.Elements.{All-weaker}
use Rattle.mt_facts.proofs.Lists.{each_passes}
use Rattle.mt_types.specs.declared.ty.Ty.{Ty, out-Ty}
use Rattle.mt_types.specs.declared.ty.Ty.TheOpen.{Ty-F}
use Rattle.mt_types.specs.declared.ty.Ty.TheVariants.{Date, outs-Date}
use Rattle.mt_types.proofs.Levels.{same_level}
use Rattle.mt_types.proofs.StepLemmas.{both_true}
use Rattle.mt_types.specs.Words.{is_name}
use Rattle.mt_table.specs.declared.column.Column.{Column}
use Rattle.mt_table.specs.declared.definition.Table.{Table}
use Rattle.mt_table.specs.declared.limits.TheConstants.{MAX_GRANULARITY, MAX_PARTITION, MAX_SKIPS}
use Rattle.mt_table.specs.declared.partition.PartExpr.{PartExpr}
use Rattle.mt_table.specs.declared.partition.PartExpr.TheVariants.{Plain, Month}
use Rattle.mt_table.specs.declared.skip.Skip.{Skip}
use Rattle.mt_table.specs.ColumnTypes.{is_date_at, is_date_type, is_key_type, place_has}
use Rattle.mt_table.specs.Kept.{keeps_expression, keeps_kind, keeps_skip, month_place, plain_place}
use Rattle.mt_table.specs.Names.{places_differ}
use Rattle.mt_table.specs.Tables.{fields_of_table}
use Rattle.mt_table.proofs.KeptLemmas.{each_of}
use Rattle.mt_defs.specs.Metadata.{column_at}
use Rattle.mt_meta.specs.PartitionKeys.{ArePartitionKeys, IsKeyExpression}
use Rattle.mt_meta.proofs.DefinitionLemmas.{has_column, key_scalar}
use Rattle.mt_files.specs.SkipRules.{HasSkips, IsSkip}

-- ---- skip indexes

skip_is : (columns : List Column) (skip : Skip) → keeps_skip columns skip ≡ true → IsSkip columns skip
skip_is columns skip keeps =
    let named = both_true (is_name skip.name) _ keeps in
    let typed = both_true (place_has is_key_type columns skip.column) _ named.1 in
    let counted = both_true (nat_le 1 skip.granularity) _ typed.1 in
    let small = both_true (nat_le skip.granularity MAX_GRANULARITY) (keeps_kind skip.kind) counted.1 in
    let has = has_column is_key_type columns skip.column typed.0 in
    record { known = has.known; scalar = key_scalar (column_at columns skip.column).ty has.passes; some = leb-true 1 skip.granularity counted.0; small = leb-true skip.granularity MAX_GRANULARITY small.0 }

pub skips_checked : (table : Table) → HasSkips table
skips_checked table =
    let keeps = (each_of (fields_of_table table) table.rules).skips in
    let parts = both_true (nat_le (length table.skips) MAX_SKIPS) _ keeps in
    let each = both_true (list_all (keeps_skip table.columns) table.skips) _ parts.1 in
    All-weaker (λ skip. keeps_skip table.columns skip ≡ true) (IsSkip table.columns) (skip_is table.columns) table.skips (each_passes (keeps_skip table.columns) table.skips each.0)

-- ---- partition keys

date_at : (ty : Ty) (level : Ty-F Ty) → out-Ty ty ≡ level → is_date_at level ≡ true → ty ≡ Date
date_at ty Ty-F.Date is e = same_level ty Date (is ∙ sym outs-Date)
date_at ty _ is e = cc

expression_is : (columns : List Column) (expression : PartExpr) → keeps_expression columns expression ≡ true → IsKeyExpression columns expression
expression_is columns (Plain i) keeps =
    let has = has_column is_key_type columns i keeps in
    (has.known, key_scalar (column_at columns i).ty has.passes)
expression_is columns (Month i) keeps =
    let has = has_column is_date_type columns i keeps in
    (has.known, date_at (column_at columns i).ty (out-Ty (column_at columns i).ty) refl has.passes)

pub partition_checked : (table : Table) → ArePartitionKeys table.columns table.partition
partition_checked table =
    let keeps = (each_of (fields_of_table table) table.rules).partition in
    let few = both_true (nat_le (length table.partition) MAX_PARTITION) _ keeps in
    let plain = both_true (places_differ (filter_map plain_place table.partition)) _ few.1 in
    let month = both_true (places_differ (filter_map month_place table.partition)) (list_all (keeps_expression table.columns) table.partition) plain.1 in
    All-weaker (λ expression. keeps_expression table.columns expression ≡ true) (IsKeyExpression table.columns) (expression_is table.columns) table.partition (each_passes (keeps_expression table.columns) table.partition month.1)
