-- The forms that a grammar is made of. A phrase relates tokens to the tree of what they begin with
-- and to the tokens that follow that.
use Rattle.std.specs.Prelude.{◌≡◌, ◌⊎◌, ℕ, List, [], ◌∷◌, Option, Some, None, Bool, true, false}
use Rattle.mt_tokens.specs.declared.sign.Sign.TheVariants.{Open, Close, Comma}
use Rattle.mt_tokens.specs.Tokens.{Tok}
use Rattle.mt_tokens.specs.Words.{is_sign}
use Rattle.mt_phrases.specs.Terminals.{number_in_token, text_in_token}

infixr 60 ◌▹◌
infixl 50 ◌◃◌
infixl 45 ◌◂◌
infixr 40 ◌&◌
infixr 30 ◌∣◌
-- the tokens begin with what has this tree, and the rest follows it
abbrev pub Phrase : Type 0 → Type 1
Phrase A = (tokens : List Tok) → (tree : A) → (rest : List Tok) → Type 0

-- one token, which has the tree
abbrev pub One : {A : Type 0} → (tree_of : Tok → Option A) → Phrase A
One tree_of [] tree rest = ⊥
One tree_of (token ∷ tokens) tree rest = (tree_of token ≡ Some tree) × (tokens ≡ rest)

-- a token that passes, then the phrase
abbrev pub ◌▹◌ : {A : Type 0} → (test : Tok → Bool) → Phrase A → Phrase A
(test ▹ P) [] tree rest = ⊥
(test ▹ P) (token ∷ tokens) tree rest = (test token ≡ true) × P tokens tree rest

-- the phrase, then a token that passes
abbrev pub ◌◃◌ : {A : Type 0} → Phrase A → (test : Tok → Bool) → Phrase A
(P ◃ test) tokens tree rest =
    (token : Tok) × P tokens tree (token ∷ rest) × (test token ≡ true)

-- one phrase, then another
abbrev pub ◌&◌ : {A B : Type 0} → Phrase A → Phrase B → Phrase (A × B)
(P & Q) tokens tree rest = (middle : List Tok) × P tokens tree.0 middle × Q middle tree.1 rest

-- one phrase or another
abbrev pub ◌∣◌ : {A : Type 0} → Phrase A → Phrase A → Phrase A
(P ∣ Q) tokens tree rest = P tokens tree rest ⊎ Q tokens tree rest

-- the phrase or nothing
abbrev pub Maybe : {A : Type 0} → Phrase A → Phrase (Option A)
Maybe P tokens None rest = tokens ≡ rest
Maybe P tokens (Some tree) rest = P tokens tree rest

-- the phrase any number of times
abbrev pub Many : {A : Type 0} → Phrase A → Phrase (List A)
Many P tokens [] rest = tokens ≡ rest
Many P tokens (tree ∷ trees) rest =
    (middle : List Tok) × P tokens tree middle × Many P middle trees rest

-- a tree made of the phrase's
abbrev pub Made : {A B : Type 0} → (make : A → B) → Phrase A → Phrase B
Made {A = A} make P tokens tree rest = (of : A) × (tree ≡ make of) × P tokens of rest

-- a tree made of the phrase's, where there is one
abbrev pub Kept : {A B : Type 0} → (make : A → Option B) → Phrase A → Phrase B
Kept {A = A} make P tokens tree rest = (of : A) × (make of ≡ Some tree) × P tokens of rest

-- a token for each test, in order
abbrev pub OneEach : List (Tok → Bool) → (tokens rest : List Tok) → Type 0
OneEach [] tokens rest = tokens ≡ rest
OneEach (test ∷ tests) [] rest = ⊥
OneEach (test ∷ tests) (token ∷ tokens) rest = (test token ≡ true) × OneEach tests tokens rest

-- a token for each test, or none; then the phrase
abbrev pub Perhaps : {A : Type 0} → List (Tok → Bool) → Phrase A → Phrase A
Perhaps tests P tokens tree rest =
    (middle : List Tok) × ((tokens ≡ middle) ⊎ OneEach tests tokens middle) × P middle tree rest

-- the first token passes
abbrev pub first_is : (test : Tok → Bool) → List Tok → Bool
first_is test [] = false
first_is test (token ∷ tokens) = test token

-- the second token passes
abbrev pub second_is : (test : Tok → Bool) → List Tok → Bool
second_is test [] = false
second_is test (token ∷ tokens) = first_is test tokens

-- the phrase, which doesn't begin with such a token
abbrev pub NotWith : {A : Type 0} → (test : Tok → Bool) → Phrase A → Phrase A
NotWith test P tokens tree rest = (first_is test tokens ≡ false) × P tokens tree rest

-- nothing
abbrev pub Nothing : Phrase (Unit {0})
Nothing tokens tree rest = tokens ≡ rest

-- a phrase, then one without a tree
abbrev pub ◌◂◌ : {A : Type 0} → Phrase A → Phrase (Unit {0}) → Phrase A
(P ◂ Q) tokens tree rest = (middle : List Tok) × P tokens tree middle × Q middle tt rest

-- a list with one element more at its front
abbrev pub list_of : {A : Type 0} → A × List A → List A
list_of x = x.0 ∷ x.1

-- a list of one element
abbrev pub singleton : {A : Type 0} → A → List A
singleton x = x ∷ []

-- P {, P}
abbrev pub Chain : {A : Type 0} → Phrase A → Phrase (List A)
Chain P = Made list_of (P & Many (is_sign Comma ▹ P))

-- ( P )
abbrev pub InParens : {A : Type 0} → Phrase A → Phrase A
InParens P = is_sign Open ▹ (P ◃ is_sign Close)

-- a number below 2^64
abbrev pub IsNumber : Phrase ℕ
IsNumber = One number_in_token

-- a text in quotes, by the bytes that it stands for
abbrev pub IsText : Phrase (List ℕ)
IsText = One text_in_token
