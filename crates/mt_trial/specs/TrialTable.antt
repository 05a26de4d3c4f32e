-- The table of a trial: docs/CLI.md, "trial".
use Rattle.mt_table.specs.declared.definition.Table.{Table}
use Rattle.mt_table.specs.Tables.{table_with}
use Rattle.mt_trial.specs.KeptRules.{trial_keeps}
use Rattle.mt_trial.specs.Tables.{trial_fields}

-- the table of its fields
abbrev pub trial_table : Table
trial_table = table_with trial_fields trial_keeps
