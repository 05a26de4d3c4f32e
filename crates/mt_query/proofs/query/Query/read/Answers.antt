use Rattle.std.proofs.Common.{subst}
use Rattle.std.specs.Prelude.{Err}
use Rattle.mt_phrases.specs.Answers.{GivesSentence}
use Rattle.mt_query.specs.Queries.{GivesQuery}
use Rattle.mt_query.specs.Rules.{judged_query}
use Rattle.mt_query.proofs.ReadLemmas.{none_is_bad, none_is_only, sentence_is_only}
use Rattle.mt_query.proofs.NamedLemmas.{query_is_within}
use Rattle.mt_query.proofs.SuitsLemmas.{query_suits}
use Rattle.mt_query.proofs.query.Query.read.Goals as goal

pub returns-in-Ok-clause-only : goal.returns-in-Ok-clause-only
returns-in-Ok-clause-only c =
    sentence_is_only c.args.text.now c.args.table.now c.in-Ok.sentence c.judge.result c.if-text-gt-MAX_QUERY_TEXT.false c.in-Ok.ensures.found
    (subst (λ columns. GivesQuery c.judge.result (judged_query columns c.in-Ok.sentence)) c.of.ensures c.judge.ensures)

pub returns-in-Err-Bad-clause-bad : goal.returns-in-Err-Bad-clause-bad
returns-in-Err-Bad-clause-bad c =
    none_is_bad c.args.text.now c.args.table.now c.if-text-gt-MAX_QUERY_TEXT.false
    (λ sentence is. subst (λ error. GivesSentence (Err error) sentence) c.in-Err-Bad.field-0-is (c.in-Err-Bad.ensures.only sentence is))

pub returns-in-Err-Bad-clause-only : goal.returns-in-Err-Bad-clause-only
returns-in-Err-Bad-clause-only c =
    none_is_only c.args.text.now c.args.table.now c.if-text-gt-MAX_QUERY_TEXT.false
    (λ sentence is. subst (λ error. GivesSentence (Err error) sentence) c.in-Err-Bad.field-0-is (c.in-Err-Bad.ensures.only sentence is))

pub returns-in-Ok-clause-within : goal.returns-in-Ok-clause-within
returns-in-Ok-clause-within c =
    query_is_within c.args.table.now.columns c.in-Ok.sentence c.judge.result (subst (λ columns. GivesQuery c.judge.result (judged_query columns c.in-Ok.sentence)) c.of.ensures c.judge.ensures)

pub returns-in-Ok-clause-suits : goal.returns-in-Ok-clause-suits
returns-in-Ok-clause-suits c =
    query_suits c.args.table.now.columns c.in-Ok.sentence c.judge.result (subst (λ columns. GivesQuery c.judge.result (judged_query columns c.in-Ok.sentence)) c.of.ensures c.judge.ensures)
