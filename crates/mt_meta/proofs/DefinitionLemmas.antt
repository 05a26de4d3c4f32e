-- What the rules of a table say of its columns and keys: what its base part stores is a definition.
use Rattle.std.proofs.Common.{◌≡◌, ℕ, zero, suc, ◌<◌, Bool, true, List, [], ◌∷◌, length, map, refl, arith}
use Rattle.std.specs.Prelude.{All, IsTrue, nat_le, ◌&&◌}
use Rattle.std.specs.List.{list_all}
use Rattle.std.proofs.lemmas.Bool.{leb-true}
use Rattle.std.proofs.lemmas.List.{length-append}
use Rattle.std.proofs.lemmas.List.Elements.{All-weaker}
use Rattle.mt_facts.proofs.Lists.{each_passes}
use Rattle.mt_types.specs.declared.ty.Ty.{Ty, out-Ty}
use Rattle.mt_types.specs.declared.ty.Ty.TheOpen.{Ty-F}
use Rattle.mt_types.specs.Profile.{is_profile}
use Rattle.mt_types.proofs.StepLemmas.{both_true}
use Rattle.mt_item.specs.ItemTypes.{is_scalar, is_scalar_at}
use Rattle.mt_table.specs.declared.column.Column.{Column}
use Rattle.mt_table.specs.declared.definition.Table.{Table}
use Rattle.mt_table.specs.declared.limits.TheConstants.{MAX_COLUMNS, MAX_KEY}
use Rattle.mt_table.specs.ColumnTypes.{is_column_type, is_key_type, is_key_at, place_has}
use Rattle.mt_table.specs.Kept.{is_column, keeps_columns, keeps_key}
use Rattle.mt_table.specs.Stored.{expression_column}
use Rattle.mt_table.specs.Tables.{fields_of_table}
use Rattle.mt_table.proofs.KeptLemmas.{each_of, key_length, primary_within}
use Rattle.mt_defs.specs.Metadata.{column_at}
use Rattle.mt_defs.specs.Projections.{base_of}
use Rattle.mt_meta.specs.Definitions.{AreColumns, IsDefinition}
use Rattle.mt_meta.specs.Keys.{AreKeys}

-- ---- columns

column_profile : (column : Column) → is_column column ≡ true → IsTrue (is_profile column.ty)
column_profile column e = (both_true (is_profile column.ty) _ (both_true _ (is_column_type column.ty) e).1).0

pub columns_are : (columns : List Column) → keeps_columns columns ≡ true → AreColumns columns
columns_are columns keeps =
    let parts = both_true (nat_le 1 (length columns) && nat_le (length columns) MAX_COLUMNS) _ keeps in
    let counts = both_true (nat_le 1 (length columns)) (nat_le (length columns) MAX_COLUMNS) parts.0 in
    let each = both_true (list_all is_column columns) _ parts.1 in
    record {
      some = leb-true 1 (length columns) counts.0;
      few = leb-true (length columns) MAX_COLUMNS counts.1;
      profile = All-weaker (λ column. is_column column ≡ true) (λ column. IsTrue (is_profile column.ty)) column_profile columns (each_passes is_column columns each.0);
    }

-- ---- keys

-- a column that a place has
pub record HasColumn (test : Ty → Bool) (columns : List Column) (place : ℕ) : Type 0 where
  pub known : place < length columns
  pub passes : test (column_at columns place).ty ≡ true

pub has_column : (test : Ty → Bool) (columns : List Column) (place : ℕ) → place_has test columns place ≡ true → HasColumn test columns place
has_column test [] place e = cc
has_column test (column ∷ columns) zero e = record { known = omega arith; passes = e }
has_column test (column ∷ columns) (suc place) e =
    let more = has_column test columns place e in
    record { known = omega (arith, more.known); passes = more.passes }

scalar_at : (level : Ty-F Ty) → is_key_at level ≡ true → is_scalar_at level ≡ true
scalar_at (Ty-F.UInt width) e = refl
scalar_at (Ty-F.Int width) e = refl
scalar_at (Ty-F.FixedString size) e = refl
scalar_at Ty-F.Str e = refl
scalar_at Ty-F.Date e = refl
scalar_at Ty-F.Moment e = refl
scalar_at _ e = cc

-- a type of a key is a scalar
pub key_scalar : (ty : Ty) → is_key_type ty ≡ true → is_scalar ty ≡ true
key_scalar ty e = scalar_at (out-Ty ty) e

-- the columns of a key, by its places
pub key_columns : (columns : List Column) (places : List ℕ) → keeps_key columns places ≡ true → All (HasColumn is_key_type columns) places
key_columns columns places keeps =
    let parts = both_true (nat_le 1 (length places) && nat_le (length places) MAX_KEY) _ keeps in
    let types = both_true _ (list_all (place_has is_key_type columns) places) parts.1 in
    All-weaker (λ place. place_has is_key_type columns place ≡ true) (HasColumn is_key_type columns) (has_column is_key_type columns) places (each_passes (place_has is_key_type columns) places types.1)

pub keys_are : (columns : List Column) (places : List ℕ) → keeps_key columns places ≡ true → AreKeys columns places
keys_are columns places keeps =
    let each = key_columns columns places keeps in
    record {
      known = All-weaker (HasColumn is_key_type columns) (λ i. i < length columns) (λ i has. has.known) places each;
      scalar = All-weaker (HasColumn is_key_type columns) (λ i. is_scalar (column_at columns i).ty ≡ true) (λ i has. key_scalar (column_at columns i).ty has.passes) places each;
    }

-- ---- the base part

pub base_is : (table : Table) → IsDefinition (base_of table)
base_is table =
    let each = each_of (fields_of_table table) table.rules in
    let some = (key_length table.columns table.sort each.sort).0 in
    let long = length-append table.sort (map expression_column table.partition) in
    record {
      columns = columns_are table.columns each.columns;
      listed = omega (arith, some, long);
      keys = keys_are table.columns table.sort each.sort;
      sorted = some;
      primary = (primary_within table.sort table.primary each.primary).1;
    }
