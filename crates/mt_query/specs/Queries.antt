-- What a text asks of a table: docs/LANGUAGE.md, "Queries".
use Rattle.std.specs.Prelude.{◌≡◌, ◌≤◌, ◌<◌, ◌⊎◌, ℕ, List, length, Result, Ok, Err}
use Rattle.mt_table.specs.declared.definition.Table.{Table}
use Rattle.mt_query_syntax.specs.declared.tree.QueryText.{QueryText}
use Rattle.mt_query_syntax.specs.Grammar.{IsQueryText}
use Rattle.mt_query.specs.declared.limits.TheConstants.{MAX_QUERY_TEXT}
use Rattle.mt_query.specs.declared.query.Query.{Query}
use Rattle.mt_query.specs.declared.why.QueryError.{QueryError}
use Rattle.mt_query.specs.declared.why.QueryError.TheVariants as error
use Rattle.mt_query.specs.declared.why.QueryWhy.{QueryWhy}
use Rattle.mt_query.specs.declared.why.QueryWhy.TheVariants.{Syntax, TooMany}
use Rattle.mt_query.specs.Rules.{judged_query}

-- the text is a sentence, whose query or first broken rule this is
abbrev pub AsksBySentence : List ℕ → Table → Result Query QueryWhy → Type 0
AsksBySentence text table answer =
    (sentence : QueryText) × IsQueryText text sentence × (judged_query table.columns sentence ≡ answer)

-- the text is no sentence
abbrev pub IsNoSentence : List ℕ → Type 0
IsNoSentence text = (sentence : QueryText) → IsQueryText text sentence → ⊥

-- What a text asks of a table: the query of its sentence, or the first rule that it breaks. TooMany is broken where it is
-- too long, and then Syntax where it is no sentence.
abbrev pub Asks : List ℕ → Table → Result Query QueryWhy → Type 0
Asks text table answer =
    ((MAX_QUERY_TEXT < length text) × (answer ≡ Err TooMany))
    ⊎ ((length text ≤ MAX_QUERY_TEXT)
    × (AsksBySentence text table answer ⊎ (IsNoSentence text × (answer ≡ Err Syntax))))

-- a call's result is this query, or this rule is broken, out of memory aside
abbrev pub GivesQuery : Result Query QueryError → Result Query QueryWhy → Type 0
GivesQuery (Ok query) answer = answer ≡ Ok query
GivesQuery (Err (error.Bad why)) answer = answer ≡ Err why
GivesQuery (Err error.NoMemory) answer = Unit {0}
