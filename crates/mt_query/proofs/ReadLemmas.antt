-- What reading a query text gives.
use Rattle.std.proofs.Common.{◌≡◌, ◌⊎◌, ◌≤◌, inl, inr, ℕ, List, length, ap, sym, ◌∙◌, subst, arith}
use Rattle.std.specs.Prelude.{Result, Err}
use Rattle.mt_table.specs.declared.definition.Table.{Table}
use Rattle.mt_query_syntax.specs.declared.tree.QueryText.{QueryText}
use Rattle.mt_query_syntax.specs.Grammar.{IsQueryText}
use Rattle.mt_query_syntax.proofs.QueryLaws.{one_query}
use Rattle.mt_query.specs.declared.limits.TheConstants.{MAX_QUERY_TEXT}
use Rattle.mt_query.specs.declared.query.Query.{Query}
use Rattle.mt_query.specs.declared.why.QueryError.{QueryError}
use Rattle.mt_query.specs.declared.why.QueryError.TheVariants as error
use Rattle.mt_query.specs.declared.why.QueryWhy.{QueryWhy}
use Rattle.mt_query.specs.declared.why.QueryWhy.TheVariants.{Syntax}
use Rattle.mt_query.specs.Queries.{Asks, AsksBySentence, GivesQuery, IsNoSentence}
use Rattle.mt_query.specs.Rules.{judged_query}

by_answer : (r : Result Query QueryError) (answer other : Result Query QueryWhy) → other ≡ answer → GivesQuery r other → GivesQuery r answer
by_answer r answer other same gives = subst (GivesQuery r) same gives

module _ (text : List ℕ) (table : Table) where
  -- ---- it is a sentence

  module _ (sentence : QueryText) (r : Result Query QueryError) (short : length text ≤ MAX_QUERY_TEXT) (is : IsQueryText text sentence) where
    pub sentence_is_only : GivesQuery r (judged_query table.columns sentence) → (answer : Result Query QueryWhy) → Asks text table answer → GivesQuery r answer
    sentence_is_only gives answer (inl asks) = let long = asks.0 in absurd (omega (arith, long, short))
    sentence_is_only gives answer (inr (le, inl (other, is_other, asks))) =
        by_answer r answer (judged_query table.columns sentence) (ap (judged_query table.columns) (one_query text sentence other is is_other) ∙ asks) gives
    sentence_is_only gives answer (inr (le, inr asks)) = absurd (asks.0 sentence is)

  -- ---- it is none

  module _ (short : length text ≤ MAX_QUERY_TEXT) (none : IsNoSentence text) where
    pub none_is_bad : (why : QueryWhy) → (let r : Result Query QueryError = Err (error.Bad Syntax) in r) ≡ Err (error.Bad why) → Asks text table (Err why)
    none_is_bad why e = let same : why ≡ Syntax = cc in inr (short, inr (none, ap Err same))

    pub none_is_only : (answer : Result Query QueryWhy) → Asks text table answer → answer ≡ Err Syntax
    none_is_only answer (inl asks) = let long = asks.0 in absurd (omega (arith, long, short))
    none_is_only answer (inr (le, inl (sentence, is, asks))) = absurd (none sentence is)
    none_is_only answer (inr (le, inr asks)) = asks.1

-- ---- one answer

-- of a text that is not too long
one_of_short : (text : List ℕ) (table : Table) (a b : Result Query QueryWhy) → AsksBySentence text table a ⊎ (IsNoSentence text × (a ≡ Err Syntax)) → AsksBySentence text table b ⊎ (IsNoSentence text × (b ≡ Err Syntax)) → a ≡ b
one_of_short text table a b (inl h) (inl k) = sym h.2 ∙ ap (judged_query table.columns) (one_query text h.0 k.0 h.1 k.1) ∙ k.2
one_of_short text table a b (inl h) (inr k) = absurd (k.0 h.0 h.1)
one_of_short text table a b (inr h) (inl k) = absurd (h.0 k.0 k.1)
one_of_short text table a b (inr h) (inr k) = h.1 ∙ sym k.1

pub one_thing : (text : List ℕ) (table : Table) (a b : Result Query QueryWhy) → Asks text table a → Asks text table b → a ≡ b
one_thing text table a b (inl h) (inl k) = h.1 ∙ sym k.1
one_thing text table a b (inl h) (inr k) = let long = h.0 in let short = k.0 in absurd (omega (arith, long, short))
one_thing text table a b (inr h) (inl k) = let short = h.0 in let long = k.0 in absurd (omega (arith, long, short))
one_thing text table a b (inr h) (inr k) = one_of_short text table a b h.1 k.1
