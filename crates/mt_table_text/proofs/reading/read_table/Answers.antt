use Rattle.std.proofs.Common.{subst}
use Rattle.std.specs.Prelude.{Err}
use Rattle.mt_phrases.specs.Answers.{GivesSentence}
use Rattle.mt_syntax.proofs.FormedLemmas.{text_is_formed}
use Rattle.mt_table_text.specs.TextReading.{table_reading}
use Rattle.mt_table_text.proofs.TextReadingLemmas.{reading_defines}
use Rattle.mt_table_text.proofs.ReadLemmas.{bad, bad_syntax, found, only, only_syntax}
use Rattle.mt_table_text.proofs.reading.read_table.Goals as goal

pub judge-requires : goal.judge-requires
judge-requires c = text_is_formed c.args.text.now c.in-Ok.sentence c.in-Ok.ensures.found

pub returns-in-Ok-clause-found : goal.returns-in-Ok-clause-found
returns-in-Ok-clause-found c = found c.args.text.now c.in-Ok.sentence c.judge.result c.in-Ok.ensures.found c.judge.ensures

pub returns-in-Ok-clause-bad : goal.returns-in-Ok-clause-bad
returns-in-Ok-clause-bad c = bad c.args.text.now c.in-Ok.sentence c.judge.result c.in-Ok.ensures.found c.judge.ensures

pub returns-in-Ok-clause-only : goal.returns-in-Ok-clause-only
returns-in-Ok-clause-only c = only c.args.text.now c.in-Ok.sentence c.judge.result c.in-Ok.ensures.found c.judge.ensures

pub returns-in-Err-Bad-clause-bad : goal.returns-in-Err-Bad-clause-bad
returns-in-Err-Bad-clause-bad c = bad_syntax c.args.text.now (λ sentence is. subst (λ error. GivesSentence (Err error) sentence) c.in-Err-Bad.field-0-is (c.in-Err-Bad.ensures.only sentence is))

pub returns-in-Err-Bad-clause-only : goal.returns-in-Err-Bad-clause-only
returns-in-Err-Bad-clause-only c = only_syntax c.args.text.now (λ sentence is. subst (λ error. GivesSentence (Err error) sentence) c.in-Err-Bad.field-0-is (c.in-Err-Bad.ensures.only sentence is))

pub returns-in-Ok-clause-reads : goal.returns-in-Ok-clause-reads
returns-in-Ok-clause-reads c =
    only c.args.text.now c.in-Ok.sentence c.judge.result c.in-Ok.ensures.found c.judge.ensures (table_reading c.args.text.now) (reading_defines c.args.text.now)

pub returns-in-Err-Bad-clause-reads : goal.returns-in-Err-Bad-clause-reads
returns-in-Err-Bad-clause-reads c =
    only_syntax c.args.text.now (λ sentence is. subst (λ error. GivesSentence (Err error) sentence) c.in-Err-Bad.field-0-is (c.in-Err-Bad.ensures.only sentence is)) (table_reading c.args.text.now) (reading_defines c.args.text.now)
