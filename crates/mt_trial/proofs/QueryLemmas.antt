-- What the three queries of a trial ask of its table.
use Rattle.std.proofs.Common.{◌≡◌, ℕ, lit≤, Bool, List, [], ◌∷◌, Option, Some, None, refl, ◌∙◌, Ok}
use Rattle.std.specs.Prelude.{pos, codes, option_and_then}
use Rattle.mt_types.specs.declared.ty.Agg.TheVariants as agg
use Rattle.mt_types.specs.declared.ty.Ty.TheVariants.{UInt, outs-UInt}
use Rattle.mt_types.specs.declared.ty.Width.TheVariants.{W32, W64}
use Rattle.mt_types.specs.declared.value.Value.TheVariants.{Num}
use Rattle.mt_tokens.specs.Lexis.{token_at}
use Rattle.mt_tokens.specs.Numbers.{number_of}
use Rattle.mt_phrases.specs.declared.selection.Selected.TheVariants.{Items}
use Rattle.mt_phrases.specs.declared.selection.Selection.TheVariants as item
use Rattle.mt_phrases.specs.Readers.{more}
use Rattle.mt_table_text.specs.TextReading.{tokens_from, tokens_of}
use Rattle.mt_cond_syntax.specs.declared.op.Op.{Op}
use Rattle.mt_cond_syntax.specs.declared.op.Op.TheVariants.{Lt, Ge}
use Rattle.mt_cond_syntax.specs.declared.tree.CondText.{CondText}
use Rattle.mt_cond_syntax.specs.declared.tree.CondText.TheFolds.{fold_out-CondText}
use Rattle.mt_cond_syntax.specs.declared.tree.CondText.TheVariants.{Cmp, outs-Cmp}
use Rattle.mt_cond_syntax.specs.declared.tree.Literal.{Literal}
use Rattle.mt_cond_syntax.specs.declared.tree.Literal.TheVariants as literal
use Rattle.mt_query_syntax.specs.declared.tree.QueryText.{QueryText}
use Rattle.mt_cond_syntax.specs.Joins.{joins}
use Rattle.mt_tokens.specs.Numbers.{wide_number_of}
use Rattle.mt_cond_syntax.specs.Reading.{atom_at, unit_at}
use Rattle.mt_phrases.specs.Selections.{item_at}
use Rattle.mt_query_syntax.specs.Reading.{query_sentence_at}
use Rattle.mt_query.specs.declared.cond.Cond.{Cond}
use Rattle.mt_query.specs.Columns.{is_there}
use Rattle.mt_query.specs.Conditions.{cond_of, cond_step, comparison_on, given_cond, is_present, present_step}
use Rattle.mt_query.specs.Literals.{literal_value_of}
use Rattle.mt_query.specs.Queries.{Asks}
use Rattle.mt_query.specs.Rules.{judged_query, judged_items}
use Rattle.mt_trial.specs.Queries.{great_query, great_text, groups_query, groups_text, totals_query, totals_text}
use Rattle.mt_trial.specs.Tables.{trial_columns}
use Rattle.mt_trial.specs.TrialTable.{trial_table}
use Rattle.mt_trial.proofs.AskedLemmas.{asked}

-- ---- the sentences

abbrev totals_sentence : QueryText
totals_sentence = record { items = Items (item.Count ∷ item.Of agg.Sum (codes "v") ∷ item.Of agg.Min (codes "v") ∷ item.Of agg.Max (codes "v") ∷ []); cond = None; group = []; limit = None }

totals_read : option_and_then query_sentence_at (tokens_of totals_text) ≡ Some totals_sentence
unfolding totals_text tokens_from token_at number_of more item_at query_sentence_at
totals_read = refl

-- a number below 2^127
abbrev number : ℕ → Literal
number n = literal.Number (Some n)

abbrev groups_cond : CondText
groups_cond = Cmp (codes "k") Lt (number 30)

abbrev groups_sentence : QueryText
groups_sentence = record { items = Items (item.Column (codes "k") ∷ item.Count ∷ item.Of agg.Sum (codes "v") ∷ []); cond = Some groups_cond; group = codes "k" ∷ []; limit = Some 3 }

groups_read : option_and_then query_sentence_at (tokens_of groups_text) ≡ Some groups_sentence
unfolding groups_text tokens_from token_at number_of more item_at query_sentence_at unit_at atom_at joins wide_number_of
groups_read = refl

abbrev great_cond : CondText
great_cond = Cmp (codes "v") Ge (number 900)

abbrev great_sentence : QueryText
great_sentence = record { items = Items (item.Column (codes "k") ∷ item.Column (codes "v") ∷ []); cond = Some great_cond; group = []; limit = Some 2 }

great_read : option_and_then query_sentence_at (tokens_of great_text) ≡ Some great_sentence
unfolding great_text tokens_from token_at number_of more item_at query_sentence_at unit_at atom_at joins wide_number_of
great_read = refl

-- ---- their conditions

u32_value : literal_value_of (UInt W32) (number 30) ≡ Some (Num (pos 30))
u32_value = simp (outs-UInt W32)

u64_value : literal_value_of (UInt W64) (number 900) ≡ Some (Num (pos 900))
u64_value = simp (outs-UInt W64)

-- a comparison is one level
comparison_is : (name : List ℕ) (op : Op) (given : Literal) → cond_of trial_columns (Cmp name op given) ≡ comparison_on trial_columns name op given
comparison_is name op given = fold_out-CondText (Option Cond) (cond_step trial_columns) (Cmp name op given) ∙ simp (outs-Cmp name op given)

comparison_present : (name : List ℕ) (op : Op) (given : Literal) → is_present trial_columns (Cmp name op given) ≡ is_there trial_columns name
comparison_present name op given = fold_out-CondText Bool (present_step trial_columns) (Cmp name op given) ∙ simp (outs-Cmp name op given)

groups_cond_is : given_cond trial_columns (Some groups_cond) ≡ Some groups_query.cond
groups_cond_is = simp (comparison_is, u32_value)

great_cond_is : given_cond trial_columns (Some great_cond) ≡ Some great_query.cond
great_cond_is = simp (comparison_is, u64_value)

-- ---- the rules

totals_judged : judged_query trial_columns totals_sentence ≡ Ok totals_query
unfolding judged_query judged_items
totals_judged = simp (outs-UInt W64)

groups_judged : judged_query trial_columns groups_sentence ≡ Ok groups_query
unfolding judged_query judged_items
groups_judged = simp (comparison_present, groups_cond_is, outs-UInt W64)

great_judged : judged_query trial_columns great_sentence ≡ Ok great_query
unfolding judged_query judged_items
great_judged = simp (comparison_present, great_cond_is)

-- ---- what is asked

pub totals_asked : Asks totals_text trial_table (Ok totals_query)
unfolding totals_text
totals_asked = asked totals_text totals_sentence totals_query (lit≤ tt) totals_read totals_judged

pub groups_asked : Asks groups_text trial_table (Ok groups_query)
unfolding groups_text
groups_asked = asked groups_text groups_sentence groups_query (lit≤ tt) groups_read groups_judged

pub great_asked : Asks great_text trial_table (Ok great_query)
unfolding great_text
great_asked = asked great_text great_sentence great_query (lit≤ tt) great_read great_judged
