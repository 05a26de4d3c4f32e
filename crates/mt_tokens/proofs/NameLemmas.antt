-- A name is a word.
use Rattle.std.proofs.Common.{◌≡◌, ℕ, List, [], ◌∷◌, ◌++◌, length, Option, Some, None, subst, inl, inr}
use Rattle.std.specs.Prelude.{nat_le}
use Rattle.std.specs.List.{All}
use Rattle.std.proofs.lemmas.Bool.{cases_Bool, and_from}
use Rattle.std.proofs.lemmas.List.Elements.{All-nil, All-cons}
use Rattle.mt_types.specs.declared.limits.TheConstants.{MAX_NAME}
use Rattle.mt_tokens.specs.Tokens.{Tok, Word, Quoted, Text, Digits, OfSign}
use Rattle.mt_types.specs.Words.{is_word_text}
use Rattle.mt_tokens.specs.Words.{NamesWord}
use Rattle.mt_tokens.specs.Lexis.{skip_blanks, AreTokens}
use Rattle.mt_tokens.specs.Writing.{IsWritten}
use Rattle.mt_tokens.proofs.ReadTokens.{IsRead, token_is_read}

pub written_names_word : (token : Tok) (bytes : List ℕ) → IsWritten token bytes → NamesWord token
written_names_word (Word word) bytes is name e =
    elim (cases_Bool (nat_le (length word) MAX_NAME)) [
      | inl short ↦
          let one : (let o : Option (List ℕ) = Some word in o) ≡ Some name = rw short at e in
          let same : word ≡ name = cc in
          rw (← same) (and_from (is_word_text word) (nat_le (length word) MAX_NAME) is.0 short)
      | inr long ↦ absurd (let one : (let o : Option (List ℕ) = None in o) ≡ Some name = rw long at e in cc)
    ]
written_names_word (Quoted word) bytes is name e = let same : word ≡ name = cc in rw (← same) is.0
written_names_word (Text text) bytes is name e = absurd cc
written_names_word (Digits digits) bytes is name e = absurd cc
written_names_word (OfSign sign) bytes is name e = absurd cc

pub tokens_name_words : (text : List ℕ) (tokens : List Tok) → AreTokens text tokens → All NamesWord tokens
tokens_name_words text [] h = All-nil NamesWord
tokens_name_words text (token ∷ others) h =
    let P : Option (Tok × List ℕ) → Type 0 = λ o. IsRead text o in
    let r : (bytes : List ℕ) × (IsWritten token bytes) × (text ≡ bytes ++ h.0) = subst P h.1 (token_is_read text) in
    All-cons NamesWord token others (written_names_word token r.0 r.1) (tokens_name_words (skip_blanks h.0) others h.2)
