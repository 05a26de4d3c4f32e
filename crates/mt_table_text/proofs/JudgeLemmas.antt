-- The rules in order, from each of them on.
use Rattle.std.proofs.Common.{◌≡◌, ℕ, Bool, true, false, List, ap, sym, ◌∙◌, subst}
use Rattle.std.specs.Prelude.{Option, Some, None, Result, Ok, Err}
use Rattle.std.specs.List.{list_all}
use Rattle.mt_types.specs.Steps.{◌>>=◌, ok_or, require}
use Rattle.mt_types.proofs.StepLemmas.{ok_one, ok_then, required}
use Rattle.mt_syntax.specs.Formed.{is_formed}
use Rattle.mt_element_syntax.specs.declared.tree.Element.{Element}
use Rattle.mt_syntax.specs.declared.tree.TableText.{TableText}
use Rattle.mt_table.specs.declared.column.Column.{Column}
use Rattle.mt_table.specs.declared.partition.PartExpr.{PartExpr}
use Rattle.mt_table.specs.declared.projection.Projection.{Projection}
use Rattle.mt_table_names.specs.declared.names.Names.{Names}
use Rattle.mt_table_names.specs.declared.sentence.ElementNames.{ElementNames}
use Rattle.mt_table.specs.declared.settings.Settings.{Settings}
use Rattle.mt_table.specs.declared.skip.Skip.{Skip}
use Rattle.mt_table_text.specs.declared.why.TableWhy.{TableWhy}
use Rattle.mt_table_text.specs.declared.why.TableWhy.TheVariants.{BadKey, BadPartition, BadProjection, BadSkip, Codec, NoSuchColumn, NotAType, Setting, TooMany, TwoNames}
use Rattle.mt_table.specs.Fields.{Fields, fields}
use Rattle.mt_table.specs.Kept.{keeps_rules}
use Rattle.mt_table_names.specs.Present.{all_are_there}
use Rattle.mt_table_rules.specs.Rules.{are_few, has_form, has_keys, is_index, is_partition, is_uncompressed}
use Rattle.mt_table_names.specs.OwnNames.{are_own, has_own_names}
use Rattle.mt_table_text.specs.Judging.{fields_judged, fields_of, from_codecs, from_counts, from_forms, from_indexes, from_keys, from_partition, from_present, from_settings}
use Rattle.mt_table_names.specs.NameSets.{AreListed, listed}
use Rattle.mt_table_names.specs.Sentence.{column_element_names, index_names, projection_element_names}
use Rattle.mt_table_rules.specs.Columns.{columns_of}
use Rattle.mt_table_names.specs.SentenceNames.{AreOfElements}
use Rattle.mt_table_rules.specs.SettingTexts.{settings_of}
use Rattle.mt_table_text.proofs.KeepingLemmas.{rules_are_kept}

-- ---- one rule is kept or broken

-- a rule that is kept leaves the others
pub kept : {A : Type 0} (b : Bool) (why : TableWhy) (next judging : Result A TableWhy) → judging ≡ (require b why >>= λ _. next) → b ≡ true → judging ≡ next
kept b why next judging is e = is ∙ ap (λ (t : Bool). require t why >>= λ _. next) e

-- a rule that is broken ends it
pub broken : {A : Type 0} (b : Bool) (why : TableWhy) (next judging : Result A TableWhy) → judging ≡ (require b why >>= λ _. next) → b ≡ false → judging ≡ Err why
broken b why next judging is e = is ∙ ap (λ (t : Bool). require t why >>= λ _. next) e

-- ---- the first two rules

pub owned : (names : ElementNames) (elements : List Element) (b : Bool) → AreOfElements names elements → are_own names.columns names.indexes names.projections ≡ b → has_own_names elements ≡ b
owned names elements b are own =
    ap (λ columns. are_own columns (index_names elements) (projection_element_names elements)) (sym are.columns)
    ∙ ap (λ indexes. are_own names.columns indexes (projection_element_names elements)) (sym are.indexes)
    ∙ ap (are_own names.columns names.indexes) (sym are.projections) ∙ own

-- the set of the columns' names, where all names are as they should be
pub set_found : (names : ElementNames) (elements : List Element) (set : Names) → AreOfElements names elements
    → (are_own names.columns names.indexes names.projections ≡ true) × AreListed set names.columns → (listed set ≡ column_element_names elements) × (has_own_names elements ≡ true)
set_found names elements set are found = (found.1.are ∙ are.columns, owned names elements true are found.0)

-- the types are types, and the names differ
pub begun : (text : TableText) (columns : List Column) → Some columns ≡ columns_of text.elements → has_own_names text.elements ≡ true → fields_judged text ≡ from_present columns text
unfolding fields_judged
begun text columns read own =
    ap (λ (found : Option (List Column)). ok_or NotAType found >>= λ columns. require (has_own_names text.elements) TwoNames >>= λ _. from_present columns text) (sym read)
    ∙ ap (λ b. require b TwoNames >>= λ _. from_present columns text) own

pub no_types : (text : TableText) → None ≡ columns_of text.elements → fields_judged text ≡ Err NotAType
unfolding fields_judged
no_types text read = ap (λ (found : Option (List Column)). ok_or NotAType found >>= λ columns. require (has_own_names text.elements) TwoNames >>= λ _. from_present columns text) (sym read)

pub two_names : (text : TableText) (columns : List Column) → Some columns ≡ columns_of text.elements → has_own_names text.elements ≡ false → fields_judged text ≡ Err TwoNames
unfolding fields_judged
two_names text columns read own =
    ap (λ (found : Option (List Column)). ok_or NotAType found >>= λ columns. require (has_own_names text.elements) TwoNames >>= λ _. from_present columns text) (sym read)
    ∙ ap (λ b. require b TwoNames >>= λ _. from_present columns text) own

-- ---- the last two

pub no_setting : (text : TableText) (columns : List Column) (judging : Result Fields TableWhy) → judging ≡ from_settings columns text → None ≡ settings_of text.settings → judging ≡ Err Setting
no_setting text columns judging is none = is ∙ ap (λ (found : Option Settings). ok_or Setting found >>= λ settings. from_counts columns settings text) (sym none)

pub set : (text : TableText) (columns : List Column) (settings : Settings) (judging : Result Fields TableWhy) → judging ≡ from_settings columns text → Some settings ≡ settings_of text.settings → judging ≡ from_counts columns settings text
set text columns settings judging is some = is ∙ ap (λ (found : Option Settings). ok_or Setting found >>= λ settings. from_counts columns settings text) (sym some)

-- ---- the table

-- fields that are the same one by one
pub same_fields : (name name' : List ℕ) (columns : List Column) (partition partition' : List PartExpr) (sort sort' : List ℕ) (primary primary' : ℕ) (skips skips' : List Skip) (projections projections' : List Projection) (settings : Settings)
    → name ≡ name' → partition ≡ partition' → sort ≡ sort' → primary ≡ primary' → skips ≡ skips' → projections ≡ projections'
    → fields name columns partition sort primary skips projections settings ≡ fields name' columns partition' sort' primary' skips' projections' settings
same_fields name name' columns partition partition' sort sort' primary primary' skips skips' projections projections' settings a b c d e f =
    ap (λ x. fields x columns partition sort primary skips projections settings) a
    ∙ ap (λ x. fields name' columns x sort primary skips projections settings) b
    ∙ ap (λ x. fields name' columns partition' x primary skips projections settings) c
    ∙ ap (λ x. fields name' columns partition' sort' x skips projections settings) d
    ∙ ap (λ x. fields name' columns partition' sort' primary' x projections settings) e
    ∙ ap (λ x. fields name' columns partition' sort' primary' skips' x settings) f

-- ---- what is judged

there_is : {A E : Type 0} (why : E) (found : Option A) (x : A) → ok_or why found ≡ Ok x → Some x ≡ found
there_is why None x e = cc
there_is why (Some y) x e = let same : x ≡ y = cc in ap Some same

-- the fields of a sentence that breaks no rule keep the rules of tables
pub judged_keeps : (text : TableText) (f : Fields) → is_formed text ≡ true → fields_judged text ≡ Ok f → keeps_rules f ≡ true
unfolding fields_judged
judged_keeps text f formed e =
    ok_then (ok_or NotAType (columns_of text.elements)) (λ columns. require (has_own_names text.elements) TwoNames >>= λ _. from_present columns text) f e
    (λ columns read e. required (has_own_names text.elements) TwoNames (λ _. from_present columns text) f e
    (λ own e. required (all_are_there (column_element_names text.elements) text) NoSuchColumn (λ _. from_keys columns text) f e
    (λ there e. required (has_keys columns text) BadKey (λ _. from_partition columns text) f e
    (λ keys e. required (is_partition columns text.partition) BadPartition (λ _. from_indexes columns text) f e
    (λ partition e. required (list_all (is_index columns) text.elements) BadSkip (λ _. from_forms columns text) f e
    (λ indexes e. required (list_all (has_form columns) text.elements) BadProjection (λ _. from_codecs columns text) f e
    (λ forms e. required (list_all is_uncompressed text.elements) Codec (λ _. from_settings columns text) f e
    (λ plain e. ok_then (ok_or Setting (settings_of text.settings)) (λ settings. from_counts columns settings text) f e
    (λ settings given e. required (are_few text) TooMany (λ _. Ok (fields_of columns settings text)) f e
    (λ few e. subst (λ fields. keeps_rules fields ≡ true) (sym (ok_one _ _ e))
    (rules_are_kept text columns settings formed (there_is NotAType (columns_of text.elements) columns read) own there keys partition indexes forms
    (there_is Setting (settings_of text.settings) settings given) few)))))))))))
