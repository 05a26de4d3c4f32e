-- Phrases with a keyword between them, grouped to the left, and what reads them.
use Rattle.std.specs.Prelude.{ℕ, zero, suc, List, [], ◌∷◌, length, Some, Bool, option_and_then}
use Rattle.mt_tokens.specs.Tokens.{Tok}
use Rattle.mt_tokens.specs.Splits.{after_if}
use Rattle.mt_phrases.specs.Phrases.{Phrase, ◌▹◌, ◌&◌, Many, Made}
use Rattle.mt_phrases.specs.Readers.{Reader, choose}

-- one tree of several, the left ones first
abbrev pub grouped : {A : Type 0} → (join : A → A → A) → A → List A → A
grouped join first [] = first
grouped join first (next ∷ others) = grouped join (join first next) others

-- P {word P}, grouped to the left
abbrev pub Joined : {A : Type 0} → (word : Tok → Bool) → (join : A → A → A) → Phrase A → Phrase A
Joined word join P = Made (λ x. grouped join x.0 x.1) (P & Many (word ▹ P))

-- as many behind the word as there are and at most so many, joined to what was found
unfoldable pub joins : {A : Type 0} → (word : Tok → Bool) → (join : A → A → A) → Reader A → (count : ℕ) → (found : A) → Reader A
joins word join p zero found tokens = Some (found, tokens)
joins word join p (suc count) found tokens =
    choose (after_if word tokens)
    (λ after. option_and_then (λ x. joins word join p count (join found x.0) x.1) (p after))
    (Some (found, tokens))

-- one, and as many behind the word as there are
abbrev pub joined : {A : Type 0} → (word : Tok → Bool) → (join : A → A → A) → Reader A → Reader A
joined word join p tokens = option_and_then (λ x. joins word join p (length x.1) x.0 x.1) (p tokens)
