-- The function that reads a table text gives what the text defines.
use Rattle.std.proofs.Common.{◌≡◌, inl, inr, ℕ, zero, suc, ◌≤◌, arith, List, [], ◌∷◌, length, ap, sym, ◌∙◌, subst, refl}
use Rattle.std.specs.Prelude.{true, Option, Some, None, option_and_then, option_map, Result, Ok, Err}
use Rattle.std.proofs.lemmas.Option.{same_Some}
use Rattle.mt_types.specs.Steps.{◌>>=◌}
use Rattle.mt_types.proofs.OptionLemmas.{then_is}
use Rattle.mt_tokens.specs.Lexis.{AreTokens, IsTokens, skip_blanks, token_at}
use Rattle.mt_tokens.specs.Tokens.{Tok}
use Rattle.mt_tokens.proofs.TokenRuns.{shorter}
use Rattle.mt_syntax.specs.declared.tree.TableText.{TableText}
use Rattle.mt_syntax.specs.Grammar.{IsTableText}
use Rattle.mt_syntax.specs.Reading.{sentence_at}
use Rattle.mt_syntax.proofs.SentenceLaws.{sentence_complete, sentence_sound}
use Rattle.mt_syntax.proofs.FormedLemmas.{text_is_formed}
use Rattle.mt_table.specs.Fields.{Fields}
use Rattle.mt_table.specs.Kept.{keeps_rules}
use Rattle.mt_table_text.specs.declared.why.TableWhy.{TableWhy}
use Rattle.mt_table_text.specs.Judging.{fields_judged}
use Rattle.mt_table_text.specs.Tables.{Defines, fields_answered}
use Rattle.mt_table_text.specs.TextReading.{judged, judged_sentence, table_of_fields, table_reading, token_onto, tokens_from, tokens_of}
use Rattle.mt_table_text.proofs.JudgeLemmas.{judged_keeps}
use Rattle.mt_table_text.proofs.ReadLemmas.{table_kept}

mapped_is : {A B : Type 0} (f : A → B) (o : Option A) (y : B) → option_map f o ≡ Some y → (x : A) × (o ≡ Some x) × (f x ≡ y)
mapped_is f None y e = cc
mapped_is f (Some x) y e = let same : f x ≡ y = cc in (x, refl, same)

-- ---- tokens

pub sound : (most : ℕ) (text : List ℕ) (tokens : List Tok) → tokens_from most text ≡ Some tokens → AreTokens text tokens
unfolding tokens_from
sound most [] tokens e = let none : [] ≡ tokens = cc in subst (AreTokens []) none refl
sound zero (byte ∷ text) tokens e = cc
sound (suc most) (byte ∷ text) tokens e =
    let first = then_is (λ x. token_onto x.0 (tokens_from most (skip_blanks x.1))) (token_at (byte ∷ text)) tokens e in
    let others = mapped_is (λ rest. first.0.0 ∷ rest) (tokens_from most (skip_blanks first.0.1)) tokens first.2 in
    subst (AreTokens (byte ∷ text)) others.2 (first.0.1, first.1, sound most (skip_blanks first.0.1) others.0 others.1)

no_token : (token : Tok) (rest : List ℕ) → token_at [] ≡ Some (token, rest) → ⊥
unfolding token_at
no_token token rest e = cc

complete : (tokens : List Tok) (most : ℕ) (text : List ℕ) → length text ≤ most → AreTokens text tokens → tokens_from most text ≡ Some tokens
unfolding tokens_from
complete [] most text fits are = ap (tokens_from most) are
complete (token ∷ tokens) most [] fits (rest, read, others) = absurd (no_token token rest read)
complete (token ∷ tokens) zero (byte ∷ text) fits (rest, read, others) = absurd (omega (arith, fits))
complete (token ∷ tokens) (suc most) (byte ∷ text) fits (rest, read, others) =
    let fewer = shorter (byte ∷ text) token rest read in
    ap (λ (o : Option (Tok × List ℕ)). option_and_then (λ x. token_onto x.0 (tokens_from most (skip_blanks x.1))) o) read
    ∙ ap (token_onto token) (complete tokens most (skip_blanks rest) (omega (arith, fits, fewer)) others)

tokens_are : (text : List ℕ) (tokens : List Tok) → IsTokens text tokens → tokens_of text ≡ Some tokens
tokens_are text tokens are = complete tokens (length (skip_blanks text)) (skip_blanks text) (omega arith) are

-- ---- the sentence and the table

-- what is judged of fields that keep the rules is their table
answered : (judging : Result Fields TableWhy) → ((f : Fields) → judging ≡ Ok f → keeps_rules f ≡ true) → judging ≡ fields_answered (judging >>= table_of_fields)
answered (Ok f) keeps = sym (ap fields_answered (table_kept f (keeps f refl)))
answered (Err why) keeps = refl

judged_answers : (text : List ℕ) (sentence : TableText) → IsTableText text sentence → fields_judged sentence ≡ fields_answered (judged sentence)
unfolding judged
judged_answers text sentence is = answered (fields_judged sentence) (λ f e. judged_keeps sentence f (text_is_formed text sentence is) e)

by_sentence : (text : List ℕ) (tokens : List Tok) (sentence : Option TableText) → IsTokens text tokens → ((others : List Tok) → IsTokens text others → others ≡ tokens) → sentence_at tokens ≡ sentence → Defines text (judged_sentence sentence)
by_sentence text tokens None are one e = inr (none, refl)
  where
    none : (sentence : TableText) → IsTableText text sentence → ⊥
    none sentence (others, are_others, is) =
        let found : sentence_at tokens ≡ Some sentence = ap sentence_at (sym (one others are_others)) ∙ sentence_complete others sentence is in
        let never : None ≡ Some sentence = sym e ∙ found in cc
by_sentence text tokens (Some sentence) are one e =
    let is : IsTableText text sentence = (tokens, are, sentence_sound tokens sentence e) in inl (sentence, is, judged_answers text sentence is)

by_tokens : (text : List ℕ) (tokens : Option (List Tok)) → tokens_of text ≡ tokens → Defines text (judged_sentence (option_and_then sentence_at tokens))
by_tokens text None e = inr (none, refl)
  where
    none : (sentence : TableText) → IsTableText text sentence → ⊥
    none sentence (tokens, are, is) = let never : None ≡ Some tokens = sym e ∙ tokens_are text tokens are in cc
by_tokens text (Some tokens) e =
    by_sentence text tokens (sentence_at tokens) (sound (length (skip_blanks text)) (skip_blanks text) tokens e) (λ others are. same_Some others tokens (sym (tokens_are text others are) ∙ e)) refl

-- the reading of a text is what it defines
pub reading_defines : (text : List ℕ) → Defines text (table_reading text)
unfolding table_reading
reading_defines text = by_tokens text (tokens_of text) refl
