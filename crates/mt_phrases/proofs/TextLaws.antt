-- Texts whose tokens are a sentence: what is read is one, and each is read, so that a text is one at most.
use Rattle.std.proofs.Common.{◌≡◌, ℕ, List, [], ◌∷◌, Option, Some, Result, Ok, Err, refl, sym, ap, subst, ◌∙◌}
use Rattle.std.specs.Prelude.{IfOk}
use Rattle.mt_types.proofs.OptionLemmas.{some_is}
use Rattle.mt_tokens.specs.Tokens.{Tok}
use Rattle.mt_tokens.specs.Lexis.{token_at, skip_blanks, AreTokens, IsTokens}
use Rattle.mt_tokens.proofs.TokenRuns.{no_token_of_none}
use Rattle.mt_phrases.specs.declared.error.SyntaxError.{SyntaxError}
use Rattle.mt_phrases.specs.declared.error.SyntaxError.TheVariants as error
use Rattle.mt_phrases.specs.Answers.{GivesPhrase, GivesSentence}
use Rattle.mt_phrases.specs.Readers.{whole_tree}

pub whole_is : {A : Type 0} (read tree : A) (tokens : List Tok) → whole_tree read tokens ≡ Some tree → (tokens ≡ []) × (read ≡ tree)
whole_is read tree [] e = (refl, some_is read tree e)
whole_is read tree (token ∷ tokens) e = absurd cc

-- what is taken off the front is one token
taken : (o : Option (Tok × List ℕ)) (a b : Tok) (p q : List ℕ) → o ≡ Some (a, p) → o ≡ Some (b, q) → (a ≡ b) × (p ≡ q)
taken o a b p q e f =
    let same : (let x : Tok × List ℕ = (a, p) in x) ≡ (b, q) = some_is (a, p) (b, q) (sym e ∙ f) in
    (ap (λ (x : Tok × List ℕ). x.0) same, ap (λ (x : Tok × List ℕ). x.1) same)

tokens_are_one : (text : List ℕ) (a b : List Tok) → AreTokens text a → AreTokens text b → a ≡ b
tokens_are_one text [] [] h k = refl
tokens_are_one text [] (u ∷ us) h k = absurd (no_token_of_none text u k.0 h k.1)
tokens_are_one text (t ∷ ts) [] h k = absurd (no_token_of_none text t h.0 k h.1)
tokens_are_one text (t ∷ ts) (u ∷ us) h k =
    let same = taken (token_at text) t u h.0 k.0 h.1 k.1 in
    let others = tokens_are_one (skip_blanks k.0) ts us (subst (λ (rest : List ℕ). AreTokens (skip_blanks rest) ts) same.1 h.2) k.2 in
    ap (λ (token : Tok). token ∷ ts) same.0 ∙ ap (λ (tokens : List Tok). u ∷ tokens) others

-- a grammar of sentences, and what reads them
module _ {A : Type 0} (Sentence : List Tok → A → Type 0) (sentence_at : List Tok → Option A)
    (sound : (tokens : List Tok) (tree : A) → sentence_at tokens ≡ Some tree → Sentence tokens tree)
    (complete : (tokens : List Tok) (tree : A) → Sentence tokens tree → sentence_at tokens ≡ Some tree) where
  -- the text is this sentence
  abbrev IsText : (text : List ℕ) → A → Type 0
  IsText text tree = (tokens : List Tok) × IsTokens text tokens × Sentence tokens tree

  pub sentence_is_found : (text : List ℕ) (tokens : List Tok) (result : Result A SyntaxError) → IsTokens text tokens → GivesPhrase (λ (x : A). x) result (sentence_at tokens) → IfOk result (λ sentence. IsText text sentence)
  sentence_is_found text tokens (Ok sentence) are e = (tokens, are, sound tokens sentence e)
  sentence_is_found text tokens (Err error) are e = tt

  given : (tokens : List Tok) (result : Result A SyntaxError) (sentence : A) → sentence_at tokens ≡ Some sentence → GivesPhrase (λ (x : A). x) result (sentence_at tokens) → GivesSentence result sentence
  given tokens (Ok read) sentence is e = some_is read sentence (sym e ∙ is)
  given tokens (Err error.Bad) sentence is e = let k = sym e ∙ is in absurd cc
  given tokens (Err error.NoMemory) sentence is e = tt

  pub sentence_is_only : (text : List ℕ) (tokens : List Tok) (result : Result A SyntaxError) → ((others : List Tok) → IsTokens text others → others ≡ tokens) → GivesPhrase (λ (x : A). x) result (sentence_at tokens)
      → (sentence : A) → IsText text sentence → GivesSentence result sentence
  sentence_is_only text tokens result only e sentence h =
      let same = only h.0 h.1 in
      given tokens result sentence (complete tokens sentence (subst (λ (us : List Tok). Sentence us sentence) same h.2)) e

  pub one_sentence : (text : List ℕ) (a b : A) → IsText text a → IsText text b → a ≡ b
  one_sentence text a b h k =
      let same = tokens_are_one (skip_blanks text) h.0 k.0 h.1 k.1 in
      let first = complete k.0 a (subst (λ (tokens : List Tok). Sentence tokens a) same h.2) in
      some_is a b (sym first ∙ complete k.0 b k.2)
