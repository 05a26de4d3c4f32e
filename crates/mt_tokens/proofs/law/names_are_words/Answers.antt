use Rattle.mt_tokens.specs.Lexis.{skip_blanks}
use Rattle.mt_tokens.proofs.NameLemmas.{tokens_name_words}
use Rattle.mt_tokens.proofs.law.names_are_words.Goals as goal

pub returns : goal.returns
returns c = λ text tokens h. tokens_name_words (skip_blanks text) tokens h
