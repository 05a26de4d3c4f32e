-- A sentence that was judged keeps the rules of a table.
use Rattle.std.proofs.Common.{◌≡◌, ℕ, ◌≤◌, Bool, true, false, List, [], ◌∷◌, length, ap, sym, ◌∙◌, subst, refl, arith}
use Rattle.std.specs.Prelude.{◌&&◌, ◌-◌, ◌^◌, codes, if◌then◌else◌, nat_le, Option, Some, None, unwrap_or}
use Rattle.std.specs.List.{list_all, list_any}
use Rattle.std.proofs.lemmas.Bool.{le-leb}
use Rattle.std.proofs.lemmas.List.{length-map}
use Rattle.mt_types.proofs.StepLemmas.{both_of, both_true}
use Rattle.mt_types.specs.Words.{is_name}
use Rattle.mt_element_syntax.specs.declared.tree.Element.{Element}
use Rattle.mt_element_syntax.specs.declared.tree.Element.TheVariants as element
use Rattle.mt_syntax.specs.declared.tree.SettingText.{SettingText}
use Rattle.mt_syntax.specs.declared.tree.SettingValue.{SettingValue}
use Rattle.mt_syntax.specs.declared.tree.SettingValue.TheVariants.{Number, Text, Word}
use Rattle.mt_syntax.specs.declared.tree.TableText.{TableText}
use Rattle.mt_table.specs.declared.column.Column.{Column}
use Rattle.mt_table.specs.declared.limits.TheConstants.{DEFAULT_GRANULE_BYTES, DEFAULT_GRANULE_ROWS, DEFAULT_WIDE_BYTES, DEFAULT_WIDE_ROWS, MAX_COLUMNS, MAX_GRANULE_BYTES, MAX_GRANULE_ROWS, MAX_PARTITION, MAX_PROJECTIONS, MAX_SKIPS}
use Rattle.mt_table.specs.declared.settings.Settings.{Settings}
use Rattle.mt_element_syntax.specs.Formed.{has_one, has_one_given, is_formed_element}
use Rattle.mt_syntax.specs.Formed.{is_formed}
use Rattle.mt_element_syntax.specs.Trees.{is_column_element}
use Rattle.mt_table.specs.Kept.{keeps_rules, keeps_settings, names_of}
use Rattle.mt_table.specs.Names.{are_among, are_apart, begins, names_differ}
use Rattle.mt_table_rules.specs.Projections.{is_key}
use Rattle.mt_table_names.specs.Present.{all_are_there, element_is_there, expression_is_there}
use Rattle.mt_table_rules.specs.Rules.{are_few, has_form, has_keys, is_index, is_partition, is_short, is_small_projection, primary_names}
use Rattle.mt_table_text.specs.Judging.{fields_of}
use Rattle.mt_table_names.specs.OwnNames.{has_own_names}
use Rattle.mt_table_rules.specs.Columns.{◌>>=◌, columns_of}
use Rattle.mt_table_names.specs.Sentence.{column_element_names, index_names, names_or_none, places_in, projection_element_names}
use Rattle.mt_table_rules.specs.SettingTexts.{number_in_range, one_in, setting_in, settings_of, values_named}
use Rattle.mt_table_rules.proofs.ColumnLemmas.{read_names}
use Rattle.mt_table_text.proofs.ColumnsKept.{begins_within, columns_kept, key_kept}
use Rattle.mt_table_text.proofs.PartitionKept.{partition_kept, skips_kept}
use Rattle.mt_table_text.proofs.ProjectionsKept.{projections_kept}

-- ---- settings

number_within : (least most : ℕ) (value : SettingValue) (n : ℕ) → number_in_range least most value ≡ Some n → (nat_le least n && nat_le n most) ≡ true
number_within least most (Number m) n e = by_test (nat_le least m && nat_le m most) refl e
  where
    by_test : (b : Bool) → (nat_le least m && nat_le m most) ≡ b → (if b then Some m else None) ≡ Some n → (nat_le least n && nat_le n most) ≡ true
    by_test true is e = let same : m ≡ n = cc in ap (λ k. nat_le least k && nat_le k most) (sym same) ∙ is
    by_test false is e = cc
number_within least most Text n e = cc
number_within least most Word n e = cc

one_within : (least most default : ℕ) (values : List SettingValue) (n : ℕ) → (nat_le least default && nat_le default most) ≡ true → one_in least most default values ≡ Some n → (nat_le least n && nat_le n most) ≡ true
one_within least most default [] n fits e = let same : default ≡ n = cc in ap (λ k. nat_le least k && nat_le k most) (sym same) ∙ fits
one_within least most default (value ∷ []) n fits e = number_within least most value n e
one_within least most default (value ∷ other ∷ values) n fits e = cc

then_some : {A B : Type 0} (o : Option A) (f : A → Option B) (y : B) → (o >>= f) ≡ Some y → (x : A) × (o ≡ Some x) × (f x ≡ Some y)
then_some None f y e = cc
then_some (Some x) f y e = (x, refl, e)

settings_kept : (texts : List SettingText) (settings : Settings) → Some settings ≡ settings_of texts → keeps_settings settings ≡ true
unfolding settings_of
settings_kept texts settings e =
    let rows = then_some (setting_in 1 MAX_GRANULE_ROWS DEFAULT_GRANULE_ROWS (codes "index_granularity") texts) _ settings (sym e) in
    let bytes = then_some (setting_in 1 MAX_GRANULE_BYTES DEFAULT_GRANULE_BYTES (codes "index_granularity_bytes") texts) _ settings rows.2 in
    let wide_bytes = then_some (setting_in 0 (2 ^ 64 - 1) DEFAULT_WIDE_BYTES (codes "min_bytes_for_wide_part") texts) _ settings bytes.2 in
    let wide_rows = then_some (setting_in 0 (2 ^ 64 - 1) DEFAULT_WIDE_ROWS (codes "min_rows_for_wide_part") texts) _ settings wide_bytes.2 in
    let made : record { granule_rows = rows.0; granule_bytes = bytes.0; wide_bytes = wide_bytes.0; wide_rows = wide_rows.0 } ≡ settings = same_some _ _ wide_rows.2 in
    ap keeps_settings (sym made)
    ∙ both_of _ _ (one_within 1 MAX_GRANULE_ROWS DEFAULT_GRANULE_ROWS (values_named (codes "index_granularity") texts) rows.0 refl rows.1)
    (one_within 1 MAX_GRANULE_BYTES DEFAULT_GRANULE_BYTES (values_named (codes "index_granularity_bytes") texts) bytes.0 refl bytes.1)
  where
    same_some : (a b : Settings) → Some a ≡ Some b → a ≡ b
    same_some a b e = cc

-- ---- what a sentence has

has_column : (elements : List Element) → list_any is_column_element elements ≡ true → has_one (column_element_names elements) ≡ true
has_column [] any = cc
has_column (element.Column name ty codecs ∷ elements) any = le-leb 1 (length (name ∷ column_element_names elements)) (omega arith)
has_column (element.Index name column kind granularity ∷ elements) any = has_column elements any
has_column (element.Projection name items group order ∷ elements) any = has_column elements any

primary_named : (primary : Option (List (List ℕ))) (order : List (List ℕ)) → has_one_given primary ≡ true → has_one order ≡ true → has_one (unwrap_or primary order) ≡ true
primary_named None order given some = some
primary_named (Some names) order given some = given

-- ---- all of it

pub rules_are_kept : (text : TableText) (columns : List Column) (settings : Settings) → is_formed text ≡ true
    → Some columns ≡ columns_of text.elements → has_own_names text.elements ≡ true → all_are_there (column_element_names text.elements) text ≡ true
    → has_keys columns text ≡ true → is_partition columns text.partition ≡ true → list_all (is_index columns) text.elements ≡ true → list_all (has_form columns) text.elements ≡ true
    → Some settings ≡ settings_of text.settings → are_few text ≡ true → keeps_rules (fields_of columns settings text) ≡ true
rules_are_kept text columns settings formed read own there keys partition indexes forms setting few =
    let names : List (List ℕ) = column_element_names text.elements in
    let are : names ≡ names_of columns = read_names text.elements columns read in
    let f_name = both_true (is_name text.name) _ formed in
    let f_elements = both_true (list_all is_formed_element text.elements) _ f_name.1 in
    let f_columns = both_true (list_any is_column_element text.elements) _ f_elements.1 in
    let f_keys = both_true (has_one_given text.primary) (has_one text.order) f_columns.1 in
    let o = both_true (names_differ names && names_differ (index_names text.elements)) _ own in
    let o_two = both_true (names_differ names) (names_differ (index_names text.elements)) o.0 in
    let o_rest = both_true (names_differ (projection_element_names text.elements)) (are_apart names (index_names text.elements)) o.1 in
    let t = both_true (list_all (element_is_there names) text.elements) _ there in
    let t_partition = both_true (list_all (expression_is_there names) text.partition) _ t.1 in
    let t_keys = both_true (are_among names (names_or_none text.primary)) (are_among names text.order) t_partition.1 in
    let k = both_true (is_key columns text.order) (begins (primary_names text) text.order) keys in
    let c = both_true (nat_le (length names) MAX_COLUMNS) _ few in
    let c_skips = both_true (nat_le (length (index_names text.elements)) MAX_SKIPS) _ c.1 in
    let c_projections = both_true (nat_le (length (projection_element_names text.elements)) MAX_PROJECTIONS) _ c_skips.1 in
    let c_small = both_true (list_all is_small_projection text.elements) _ c_projections.1 in
    let c_keys = both_true (is_short text.order) (nat_le (length text.partition) MAX_PARTITION) c_small.1 in
    let as_many : length text.order ≡ length (places_in names text.order) = sym (length-map text.order _) in
    let within : length (primary_names text) ≤ length (places_in names text.order) = subst (λ n. length (primary_names text) ≤ n) as_many (begins_within (primary_names text) text.order k.1) in
    both_of _ _ f_name.0
    (both_of _ _ (columns_kept text.elements columns read are f_elements.0 (has_column text.elements f_columns.0) c.0 o_two.0)
    (both_of _ _ (key_kept columns names text.order are k.0 t_keys.1 f_keys.1 c_keys.0)
    (both_of _ _ (both_of _ _ (primary_named text.primary text.order f_keys.0 f_keys.1) (le-leb _ _ within))
    (both_of _ _ (partition_kept columns names text.partition are partition t_partition.0 c_keys.1)
    (both_of _ _ (skips_kept columns names text.elements are f_elements.0 indexes c_skips.0 o_two.1 o_rest.1)
    (both_of _ _ (projections_kept columns names text.elements are f_elements.0 t.0 forms c_small.0 c_projections.0 o_rest.0) (settings_kept text.settings settings setting)))))))
