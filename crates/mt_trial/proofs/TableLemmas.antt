-- The trial's text is read as the trial's table.
use Rattle.std.proofs.Common.{◌≡◌, Bool, true, false, [], Some, refl, ap, sym, ◌∙◌, Result, Ok}
use Rattle.std.specs.Prelude.{IsTrue}
use Rattle.std.specs.List.{list_all}
use Rattle.std.proofs.Math.Bool.{Bool-set}
use Rattle.mt_types.specs.declared.ty.Ty.TheVariants.{outs-UInt, outs-Date}
use Rattle.mt_types.specs.declared.ty.Width.TheVariants.{W32, W64}
use Rattle.mt_types.specs.Steps.{◌>>=◌}
use Rattle.mt_types.proofs.StepLemmas.{ok_one}
use Rattle.mt_table_text.specs.declared.why.TableWhy.{TableWhy}
use Rattle.mt_table_text.specs.declared.why.TableWhy.TheVariants.{BadKey, BadPartition, BadProjection, BadSkip, Codec, NoSuchColumn, TooMany}
use Rattle.mt_table.specs.Fields.{Fields}
use Rattle.mt_table.specs.Kept.{keeps_rules}
use Rattle.mt_table_names.specs.Present.{all_are_there}
use Rattle.mt_table_rules.specs.Rules.{are_few, has_form, has_keys, is_index, is_partition, is_uncompressed}
use Rattle.mt_table_text.specs.Judging.{fields_judged, fields_of, from_codecs, from_forms, from_indexes, from_keys, from_partition, from_settings}
use Rattle.mt_table_names.specs.Sentence.{column_element_names}
use Rattle.mt_table_rules.specs.SettingTexts.{settings_of}
use Rattle.mt_table.specs.declared.definition.Table.{Table}
use Rattle.mt_table.specs.Tables.{table_with}
use Rattle.mt_table_text.specs.TextReading.{judged, judged_sentence, table_if, table_of_fields, table_reading}
use Rattle.mt_table_text.proofs.JudgeLemmas.{begun, kept, set}
use Rattle.mt_trial.specs.Tables.{trial_columns, trial_fields, trial_partition, trial_settings, trial_table_text}
use Rattle.mt_trial.specs.KeptRules.{trial_keeps}
use Rattle.mt_trial.specs.TrialTable.{trial_table}
use Rattle.mt_trial.proofs.SentenceLemmas.{columns_are, elements, sentence, sentence_is}

-- ---- the rules

keys_are : has_keys trial_columns sentence ≡ true
keys_are = simp (outs-UInt W32, outs-UInt W64)

partition_is : is_partition trial_columns sentence.partition ≡ true
partition_is = simp outs-Date

indexes_are : list_all (is_index trial_columns) elements ≡ true
indexes_are = simp (outs-UInt W64)

forms_are : list_all (has_form trial_columns) elements ≡ true
forms_are = simp (outs-UInt W32, outs-UInt W64)

settings_are : settings_of [] ≡ Some trial_settings
unfolding settings_of
settings_are = refl

fields_read : fields_judged sentence ≡ Ok trial_fields
fields_read =
    let present = begun sentence trial_columns (sym columns_are) refl in
    let keys = kept (all_are_there (column_element_names elements) sentence) NoSuchColumn (from_keys trial_columns sentence) (fields_judged sentence) present refl in
    let partition = kept (has_keys trial_columns sentence) BadKey (from_partition trial_columns sentence) (fields_judged sentence) keys keys_are in
    let indexes = kept (is_partition trial_columns sentence.partition) BadPartition (from_indexes trial_columns sentence) (fields_judged sentence) partition partition_is in
    let forms = kept (list_all (is_index trial_columns) elements) BadSkip (from_forms trial_columns sentence) (fields_judged sentence) indexes indexes_are in
    let codecs = kept (list_all (has_form trial_columns) elements) BadProjection (from_codecs trial_columns sentence) (fields_judged sentence) forms forms_are in
    let settings = kept (list_all is_uncompressed elements) Codec (from_settings trial_columns sentence) (fields_judged sentence) codecs refl in
    let counts = set sentence trial_columns trial_settings (fields_judged sentence) settings (sym settings_are) in
    kept (are_few sentence) TooMany (Ok (fields_of trial_columns trial_settings sentence)) (fields_judged sentence) counts refl

-- ---- its table

-- the table of fields that keep the rules, whichever proof says so
table_kept : (f : Fields) (b : Bool) (e : keeps_rules f ≡ b) (rules : IsTrue (keeps_rules f)) → table_if f b e ≡ Ok (table_with f rules)
table_kept f true e rules = ap (λ (r : IsTrue (keeps_rules f)). Ok (table_with f r)) (Bool-set (keeps_rules f) true e rules)
table_kept f false e rules = absurd (let never : true ≡ false = sym rules ∙ e in cc)

sentence_judged : judged sentence ≡ Ok trial_table
unfolding judged
sentence_judged = ap (λ (r : Result Fields TableWhy). r >>= table_of_fields) fields_read ∙ table_kept trial_fields (keeps_rules trial_fields) refl trial_keeps

-- the text is read, and says the trial's table
pub trial_table_read : table_reading trial_table_text ≡ Ok trial_table
unfolding table_reading
trial_table_read = ap judged_sentence sentence_is ∙ sentence_judged

-- ---- what is known of it

pub table_known : (table : Table) → table_reading trial_table_text ≡ Ok table → table ≡ trial_table
table_known table e = ok_one trial_table table (sym trial_table_read ∙ e)

pub columns_known : (table : Table) → table_reading trial_table_text ≡ Ok table → table.columns ≡ trial_columns
columns_known table e = ap (λ (t : Table). t.columns) (table_known table e)

pub partition_known : (table : Table) → table_reading trial_table_text ≡ Ok table → table.partition ≡ trial_partition
partition_known table e = ap (λ (t : Table). t.partition) (table_known table e)
