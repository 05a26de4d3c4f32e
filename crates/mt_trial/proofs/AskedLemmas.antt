-- A text that is read asks the trial's table what its sentence does.
use Rattle.std.proofs.Common.{◌≡◌, ℕ, ◌≤◌, inr, inl, List, length, Some, Ok}
use Rattle.std.specs.Prelude.{option_and_then}
use Rattle.mt_types.proofs.OptionLemmas.{then_is}
use Rattle.mt_tokens.specs.Lexis.{skip_blanks}
use Rattle.mt_table_text.specs.TextReading.{tokens_of}
use Rattle.mt_table_text.proofs.TextReadingLemmas.{sound}
use Rattle.mt_query_syntax.specs.declared.tree.QueryText.{QueryText}
use Rattle.mt_query_syntax.specs.Grammar.{IsQueryText}
use Rattle.mt_query_syntax.specs.Reading.{query_sentence_at}
use Rattle.mt_query_syntax.proofs.QueryLaws.{query_sound}
use Rattle.mt_query.specs.declared.limits.TheConstants.{MAX_QUERY_TEXT}
use Rattle.mt_query.specs.declared.query.Query.{Query}
use Rattle.mt_query.specs.Queries.{Asks}
use Rattle.mt_query.specs.Rules.{judged_query}
use Rattle.mt_trial.specs.Tables.{trial_columns}
use Rattle.mt_trial.specs.TrialTable.{trial_table}

-- a text whose tokens are read as a sentence is this sentence
sentence_sound : (text : List ℕ) (sentence : QueryText) → option_and_then query_sentence_at (tokens_of text) ≡ Some sentence → IsQueryText text sentence
sentence_sound text sentence e =
    let read = then_is query_sentence_at (tokens_of text) sentence e in
    (read.0, sound (length (skip_blanks text)) (skip_blanks text) read.0 read.1, query_sound read.0 sentence read.2)

-- a text asks what its sentence is judged to ask
pub asked : (text : List ℕ) (sentence : QueryText) (query : Query) → length text ≤ MAX_QUERY_TEXT → option_and_then query_sentence_at (tokens_of text) ≡ Some sentence → judged_query trial_columns sentence ≡ Ok query → Asks text trial_table (Ok query)
asked text sentence query short read asks = inr (short, inl (sentence, sentence_sound text sentence read, asks))
