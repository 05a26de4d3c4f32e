-- The sentence of the trial's text, and the columns that it gives.
use Rattle.std.proofs.Common.{◌≡◌, ℕ, false, if◌then◌else◌, List, [], ◌∷◌, Some, None, refl, ap, ◌∙◌}
use Rattle.std.specs.Prelude.{codes, option_and_then}
use Rattle.mt_types.specs.declared.ty.Ty.{Ty, out-Ty}
use Rattle.mt_types.specs.declared.ty.Ty.TheOpen.{Ty-F}
use Rattle.mt_types.specs.declared.ty.Ty.TheVariants.{UInt, Str, Date, outs-UInt, outs-Str, outs-Date}
use Rattle.mt_types.specs.declared.ty.Agg.TheVariants as agg
use Rattle.mt_types.specs.declared.ty.Width.TheVariants.{W32, W64}
use Rattle.mt_types.specs.NameReading.{type_named}
use Rattle.mt_tokens.specs.Lexis.{token_at}
use Rattle.mt_element_syntax.specs.declared.tree.Element.{Element}
use Rattle.mt_element_syntax.specs.declared.tree.Element.TheVariants as element
use Rattle.mt_element_syntax.specs.declared.tree.IndexKind.TheVariants.{Minmax}
use Rattle.mt_phrases.specs.declared.selection.Selected.TheVariants.{Items}
use Rattle.mt_phrases.specs.declared.selection.Selection.TheVariants as item
use Rattle.mt_syntax.specs.declared.tree.PartitionText.TheVariants.{Month}
use Rattle.mt_syntax.specs.declared.tree.TableText.{TableText}
use Rattle.mt_element_syntax.specs.declared.tree.TypeText.{TypeText}
use Rattle.mt_phrases.specs.Readers.{more}
use Rattle.mt_tokens.specs.Numbers.{number_of}
use Rattle.std.proofs.lemmas.List.{append-nil}
use Rattle.mt_table.specs.ColumnTypes.{is_state_at}
use Rattle.mt_syntax.specs.Reading.{sentence_at, expression_at, clause_at, more_clauses, engine_at, body_at, rest_at}
use Rattle.mt_element_syntax.specs.Reading.{type_at, column_element_at, index_at, projection_element_at, element_at}
use Rattle.mt_phrases.specs.Selections.{item_at}
use Rattle.mt_table_rules.specs.Columns.{columns_of}
use Rattle.mt_table_rules.specs.TypeTexts.{column_type_of, column_type_if}
use Rattle.mt_table_text.specs.TextReading.{tokens_of, tokens_from}
use Rattle.mt_table_rules.proofs.TypeTextLemmas.{type_text_is}
use Rattle.mt_trial.specs.Tables.{trial_columns, trial_table_text}

-- ---- the sentence

-- a type without arguments
abbrev word : List ℕ → TypeText
word name = record { word = name; args = [] }

-- its elements
abbrev pub elements : List Element
elements =
    element.Column (codes "d") (word (codes "Date")) None
    ∷ element.Column (codes "k") (word (codes "UInt32")) None
    ∷ element.Column (codes "v") (word (codes "UInt64")) None
    ∷ element.Column (codes "s") (word (codes "String")) None
    ∷ element.Index (codes "iv") (codes "v") Minmax 2
    ∷ element.Projection (codes "pk") (Items (item.Column (codes "k") ∷ item.Count ∷ item.Of agg.Sum (codes "v") ∷ [])) (Some (codes "k" ∷ [])) None
    ∷ []

-- all of it
abbrev pub sentence : TableText
sentence = record {
  name = codes "trial";
  elements = elements;
  partition = Month (codes "d") ∷ [];
  primary = None;
  order = codes "k" ∷ codes "v" ∷ [];
  settings = [];
}

pub sentence_is : option_and_then sentence_at (tokens_of trial_table_text) ≡ Some sentence
unfolding trial_table_text tokens_from token_at number_of more sentence_at type_at column_element_at index_at item_at projection_element_at element_at expression_at clause_at more_clauses engine_at body_at rest_at
sentence_is = refl

-- ---- its columns

type_is : (name : List ℕ) → column_type_of (word name) ≡ column_type_if (type_named name)
type_is name = ap (λ text. column_type_if (type_named text)) (type_text_is (word name) ∙ append-nil name)

-- a type that is no state
no_state : (ty : Ty) (level : Ty-F Ty) → out-Ty ty ≡ level → is_state_at level ≡ false → column_type_if (Some ty) ≡ Some ty
no_state ty level is none = ap (λ b. if b then None else Some ty) (ap is_state_at is ∙ none)

date_is : column_type_of (word (codes "Date")) ≡ Some Date
date_is = type_is (codes "Date") ∙ no_state Date _ outs-Date refl

u32_is : column_type_of (word (codes "UInt32")) ≡ Some (UInt W32)
u32_is = type_is (codes "UInt32") ∙ no_state (UInt W32) _ (outs-UInt W32) refl

u64_is : column_type_of (word (codes "UInt64")) ≡ Some (UInt W64)
u64_is = type_is (codes "UInt64") ∙ no_state (UInt W64) _ (outs-UInt W64) refl

text_is : column_type_of (word (codes "String")) ≡ Some Str
text_is = type_is (codes "String") ∙ no_state Str _ outs-Str refl

pub columns_are : columns_of elements ≡ Some trial_columns
columns_are = simp (date_is, u32_is, u64_is, text_is)
