-- The rules of a table, one by one.
use Rattle.std.proofs.Common.{◌≡◌, ℕ, ◌≤◌, arith, true, List, length}
use Rattle.std.proofs.lemmas.Bool.{leb-true}
use Rattle.std.specs.Prelude.{nat_le, ◌&&◌}
use Rattle.mt_types.proofs.StepLemmas.{both_true}
use Rattle.mt_types.specs.Words.{is_name}
use Rattle.mt_table.specs.declared.column.Column.{Column}
use Rattle.mt_table.specs.declared.limits.TheConstants.{MAX_KEY}
use Rattle.mt_table.specs.Fields.{Fields}
use Rattle.mt_table.specs.Kept.{keeps_columns, keeps_key, keeps_partition, keeps_primary, keeps_projections, keeps_rules, keeps_settings, keeps_skips}

-- the rules, one each
pub record Each (f : Fields) : Type 0 where
  pub name : is_name f.name ≡ true
  pub columns : keeps_columns f.columns ≡ true
  pub sort : keeps_key f.columns f.sort ≡ true
  pub primary : keeps_primary f.sort f.primary ≡ true
  pub partition : keeps_partition f.columns f.partition ≡ true
  pub skips : keeps_skips f.columns f.skips ≡ true
  pub projections : keeps_projections f.columns f.projections ≡ true
  pub settings : keeps_settings f.settings ≡ true

pub each_of : (f : Fields) → keeps_rules f ≡ true → Each f
each_of f rules =
    let one = both_true (is_name f.name) _ rules in
    let two = both_true (keeps_columns f.columns) _ one.1 in
    let three = both_true (keeps_key f.columns f.sort) _ two.1 in
    let four = both_true (keeps_primary f.sort f.primary) _ three.1 in
    let five = both_true (keeps_partition f.columns f.partition) _ four.1 in
    let six = both_true (keeps_skips f.columns f.skips) _ five.1 in
    let seven = both_true (keeps_projections f.columns f.projections) (keeps_settings f.settings) six.1 in
    record { name = one.0; columns = two.0; sort = three.0; primary = four.0; partition = five.0; skips = six.0; projections = seven.0; settings = seven.1 }

-- a key has from 1 to 16 columns
pub key_length : (columns : List Column) (places : List ℕ) → keeps_key columns places ≡ true → (1 ≤ length places) × (length places ≤ MAX_KEY)
key_length columns places keeps =
    let parts = both_true (nat_le 1 (length places) && nat_le (length places) MAX_KEY) _ keeps in
    let both = both_true (nat_le 1 (length places)) (nat_le (length places) MAX_KEY) parts.0 in
    (leb-true 1 (length places) both.0, leb-true (length places) MAX_KEY both.1)

-- the primary key has from 1 column to those of the sort key
pub primary_within : (sort : List ℕ) (primary : ℕ) → keeps_primary sort primary ≡ true → (1 ≤ primary) × (primary ≤ length sort)
primary_within sort primary keeps =
    let both = both_true (nat_le 1 primary) (nat_le primary (length sort)) keeps in
    (leb-true 1 primary both.0, leb-true primary (length sort) both.1)

-- the primary key has at most 16 columns
pub primary_small : (f : Fields) → keeps_rules f ≡ true → f.primary ≤ MAX_KEY
primary_small f rules =
    let each = each_of f rules in
    let primary = (primary_within f.sort f.primary each.primary).1 in
    let sort = (key_length f.columns f.sort each.sort).1 in
    omega (arith, primary, sort)
