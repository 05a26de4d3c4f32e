use Rattle.std.proofs.Common.{◌≡◌, ◌++◌, drop}
use Rattle.std.specs.Option.{option_to_list}
use Rattle.mt_table_rules.specs.SettingTexts.{values_named}
use Rattle.mt_table_rules.proofs.setting_texts.setting_in.Given as goal

abbrev pub invariant-loop-setting : goal.invariant-loop-setting
invariant-loop-setting l = option_to_list l.found ++ values_named l.name (drop l.setting-index l.settings) ≡ values_named l.name l.settings
