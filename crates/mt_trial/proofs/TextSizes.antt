-- How long the texts beside a trial's data are: its columns, and the number of its rows.
use Rattle.std.proofs.Common.{◌≡◌, ℕ, ◌≤◌, arith, length, refl, lit≤}
use Rattle.std.specs.Prelude.{IsTrue}
use Rattle.std.specs.Fmt.{decimal, digits}
use Rattle.std.proofs.lemmas.Fmt.{length-decimal-le}
use Rattle.mt_types.specs.declared.ty.Agg.TheVariants.{Sum}
use Rattle.mt_types.specs.declared.ty.Ty.TheVariants.{UInt}
use Rattle.mt_types.specs.declared.ty.Width.TheVariants.{W32, W64}
use Rattle.mt_types.proofs.Levels.{name-CountState, name-Date, name-State, name-Str, name-UInt}
use Rattle.mt_table.specs.Kept.{keeps_rules}
use Rattle.mt_table.specs.Stored.{inner_of}
use Rattle.mt_table.specs.Tables.{table_with}
use Rattle.mt_defs.specs.Metadata.{columns_text}
use Rattle.mt_trial.specs.declared.rows.TheConstants.{MAX_TRIAL_ROWS}
use Rattle.mt_trial.specs.Tables.{trial_columns, trial_fields, trial_projection}

columns_size : length (columns_text trial_columns) ≡ 79
unfolding digits
columns_size = simp (name-Date, name-UInt W32, name-UInt W64, name-Str) refl

pub columns_short : length (columns_text trial_columns) ≤ 200
columns_short = omega (arith, columns_size)

group_columns_size : (rules : IsTrue (keeps_rules trial_fields)) → length (columns_text (inner_of (table_with trial_fields rules) trial_projection).columns) ≡ 123
unfolding digits
group_columns_size rules = simp (name-UInt W32, name-CountState, name-State Sum (UInt W64), name-UInt W64) refl

pub group_columns_short : (rules : IsTrue (keeps_rules trial_fields)) → length (columns_text (inner_of (table_with trial_fields rules) trial_projection).columns) ≤ 200
group_columns_short rules = omega (arith, group_columns_size rules)

pub count_short : (n : ℕ) → n ≤ MAX_TRIAL_ROWS → length (decimal n) ≤ 7
count_short n few = length-decimal-le 7 n (lit≤ tt) (omega (arith, few)) (omega (arith, few))
