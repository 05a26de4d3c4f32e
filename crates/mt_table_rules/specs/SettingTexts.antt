-- The settings of a sentence: docs/LANGUAGE.md, "Table text".
use Rattle.std.specs.Prelude.{ℕ, ◌-◌, ◌^◌, ◌&&◌, nat_le, List, [], ◌∷◌, codes, Option, Some, None, if◌then◌else◌}
use Rattle.std.specs.List.{filter_map}
use Rattle.std.specs.Str.{bytes_eq}
use Rattle.mt_syntax.specs.declared.tree.SettingText.{SettingText}
use Rattle.mt_syntax.specs.declared.tree.SettingValue.{SettingValue}
use Rattle.mt_syntax.specs.declared.tree.SettingValue.TheVariants.{Number}
use Rattle.mt_table.specs.declared.limits.TheConstants.{DEFAULT_GRANULE_BYTES, DEFAULT_GRANULE_ROWS, DEFAULT_WIDE_BYTES, DEFAULT_WIDE_ROWS, MAX_GRANULE_BYTES, MAX_GRANULE_ROWS}
use Rattle.mt_table.specs.declared.settings.Settings.{Settings}
use Rattle.mt_table_rules.specs.Columns.{◌>>=◌}

-- the value of a setting of this name
abbrev pub value_if_named : List ℕ → SettingText → Option SettingValue
value_if_named name setting = if bytes_eq setting.name name then Some setting.value else None

-- the values of the settings of this name
abbrev pub values_named : List ℕ → List SettingText → List SettingValue
values_named name = filter_map (value_if_named name)

-- a number from one to another
abbrev pub number_in_range : (least most : ℕ) → SettingValue → Option ℕ
number_in_range least most (Number n) = if nat_le least n && nat_le n most then Some n else None
number_in_range least most _ = None

-- the one value, if it is a number from one to another, or the default where there is none
abbrev pub one_in : (least most default : ℕ) → List SettingValue → Option ℕ
one_in least most default [] = Some default
one_in least most default (value ∷ []) = number_in_range least most value
one_in least most default _ = None

-- a setting from one number to another, with a default where it isn't given
abbrev pub setting_in : (least most default : ℕ) → List ℕ → List SettingText → Option ℕ
setting_in least most default name settings = one_in least most default (values_named name settings)

-- the settings that a layout depends on; all others are passed over
unfoldable pub settings_of : List SettingText → Option Settings
settings_of settings = do
  rows ← setting_in 1 MAX_GRANULE_ROWS DEFAULT_GRANULE_ROWS (codes "index_granularity") settings
  bytes ← setting_in 1 MAX_GRANULE_BYTES DEFAULT_GRANULE_BYTES (codes "index_granularity_bytes") settings
  wide_bytes ← setting_in 0 (2 ^ 64 - 1) DEFAULT_WIDE_BYTES (codes "min_bytes_for_wide_part") settings
  wide_rows ← setting_in 0 (2 ^ 64 - 1) DEFAULT_WIDE_ROWS (codes "min_rows_for_wide_part") settings
  Some (record { granule_rows = rows; granule_bytes = bytes; wide_bytes = wide_bytes; wide_rows = wide_rows })
