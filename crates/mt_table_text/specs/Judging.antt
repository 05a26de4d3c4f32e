-- What is judged of a sentence, rule by rule in their order, and what is left to be judged from each rule on:
-- docs/LANGUAGE.md, "Table text".
use Rattle.std.specs.Prelude.{List, length, map, Result, Ok}
use Rattle.std.specs.List.{filter_map, list_all}
use Rattle.mt_types.specs.Steps.{◌>>=◌, ok_or, require}
use Rattle.mt_syntax.specs.declared.tree.TableText.{TableText}
use Rattle.mt_table.specs.declared.column.Column.{Column}
use Rattle.mt_table.specs.declared.settings.Settings.{Settings}
use Rattle.mt_table.specs.Fields.{Fields}
use Rattle.mt_table_names.specs.OwnNames.{has_own_names}
use Rattle.mt_table_names.specs.Places.{expression_of, projection_in, skip_of}
use Rattle.mt_table_names.specs.Present.{all_are_there}
use Rattle.mt_table_names.specs.Sentence.{column_element_names, places_in}
use Rattle.mt_table_rules.specs.Columns.{columns_of}
use Rattle.mt_table_rules.specs.Rules.{are_few, has_form, has_keys, is_index, is_partition, is_uncompressed, primary_names}
use Rattle.mt_table_rules.specs.SettingTexts.{settings_of}
use Rattle.mt_table_text.specs.declared.why.TableWhy.{TableWhy}
use Rattle.mt_table_text.specs.declared.why.TableWhy.TheVariants.{BadKey, BadPartition, BadProjection, BadSkip, Codec, NoSuchColumn, NotAType, Setting, TooMany, TwoNames}

-- the table of a sentence that keeps the rules
abbrev pub fields_of : List Column → Settings → TableText → Fields
fields_of columns settings text =
    let names = column_element_names text.elements in record {
      name = text.name;
      columns = columns;
      partition = map (expression_of names) text.partition;
      sort = places_in names text.order;
      primary = length (primary_names text);
      skips = filter_map (skip_of names) text.elements;
      projections = filter_map (projection_in names) text.elements;
      settings = settings;
    }

-- the table of a sentence, or the first rule that the sentence breaks
unfoldable pub fields_judged : TableText → Result Fields TableWhy
fields_judged text = do
  columns ← ok_or NotAType (columns_of text.elements)
  _ ← require (has_own_names text.elements) TwoNames
  _ ← require (all_are_there (column_element_names text.elements) text) NoSuchColumn
  _ ← require (has_keys columns text) BadKey
  _ ← require (is_partition columns text.partition) BadPartition
  _ ← require (list_all (is_index columns) text.elements) BadSkip
  _ ← require (list_all (has_form columns) text.elements) BadProjection
  _ ← require (list_all is_uncompressed text.elements) Codec
  settings ← ok_or Setting (settings_of text.settings)
  _ ← require (are_few text) TooMany
  Ok (fields_of columns settings text)

-- ---- from each rule on

-- what is left from the counts on
abbrev pub from_counts : List Column → Settings → TableText → Result Fields TableWhy
from_counts columns settings text = require (are_few text) TooMany >>= λ _. Ok (fields_of columns settings text)

-- what is left from the settings on
abbrev pub from_settings : List Column → TableText → Result Fields TableWhy
from_settings columns text = ok_or Setting (settings_of text.settings) >>= λ settings. from_counts columns settings text

-- what is left from the codecs on
abbrev pub from_codecs : List Column → TableText → Result Fields TableWhy
from_codecs columns text = require (list_all is_uncompressed text.elements) Codec >>= λ _. from_settings columns text

-- what is left from the projections on
abbrev pub from_forms : List Column → TableText → Result Fields TableWhy
from_forms columns text = require (list_all (has_form columns) text.elements) BadProjection >>= λ _. from_codecs columns text

-- what is left from the skip indexes on
abbrev pub from_indexes : List Column → TableText → Result Fields TableWhy
from_indexes columns text = require (list_all (is_index columns) text.elements) BadSkip >>= λ _. from_forms columns text

-- what is left from the partition key on
abbrev pub from_partition : List Column → TableText → Result Fields TableWhy
from_partition columns text = require (is_partition columns text.partition) BadPartition >>= λ _. from_indexes columns text

-- what is left from the keys on
abbrev pub from_keys : List Column → TableText → Result Fields TableWhy
from_keys columns text = require (has_keys columns text) BadKey >>= λ _. from_partition columns text

-- what is left from the named columns on
abbrev pub from_present : List Column → TableText → Result Fields TableWhy
from_present columns text = require (all_are_there (column_element_names text.elements) text) NoSuchColumn >>= λ _. from_keys columns text
