-- Words are neither digits nor texts.
use Rattle.std.proofs.Common.{refl}
use Rattle.mt_tokens.specs.Tokens.{Word, Quoted, Text, Digits, OfSign}
use Rattle.mt_phrases.specs.Terminals.{is_number, is_text}
use Rattle.mt_phrases.proofs.TokenTests.{Lacks}
use Rattle.mt_element_syntax.specs.Terminals.{word_of}

pub word_no_number : Lacks word_of is_number
word_no_number (Word w) tree e = refl
word_no_number (Quoted w) tree e = refl
word_no_number (Text w) tree e = refl
word_no_number (Digits w) tree e = absurd cc
word_no_number (OfSign s) tree e = refl

pub word_no_text : Lacks word_of is_text
word_no_text (Word w) tree e = refl
word_no_text (Quoted w) tree e = refl
word_no_text (Text w) tree e = absurd cc
word_no_text (Digits w) tree e = refl
word_no_text (OfSign s) tree e = refl
