-- Readers, one for each form of phrase. They look at a token, or at the one behind it, and never go back.
use Rattle.std.specs.Prelude.{ℕ, zero, suc, List, [], ◌∷◌, ◌++◌, length, Option, Some, None, option_map, option_and_then, Bool, if◌then◌else◌}
use Rattle.mt_tokens.specs.Tokens.{Tok}
use Rattle.mt_tokens.specs.Splits.{after_if}
use Rattle.mt_tokens.specs.declared.sign.Sign.TheVariants.{Open, Close, Comma}
use Rattle.mt_tokens.specs.Words.{is_sign}
use Rattle.mt_phrases.specs.Terminals.{number_in_token, text_in_token}

-- the tree at the front, and what follows it
abbrev pub Reader : Type 0 → Type 0
Reader A = List Tok → Option (A × List Tok)

-- by what there is, or else
abbrev pub choose : {A B : Type 0} → Option A → (A → B) → B → B
choose None some none = none
choose (Some x) some none = some x

-- one token, which has a tree
abbrev pub one : {A : Type 0} → (tree_of : Tok → Option A) → Reader A
one tree_of [] = None
one tree_of (token ∷ tokens) = option_map (λ tree. (tree, tokens)) (tree_of token)

-- a token that passes, then what is read
abbrev pub after : {A : Type 0} → (test : Tok → Bool) → Reader A → Reader A
after test p tokens = option_and_then p (after_if test tokens)

-- what is read, then a token that passes
abbrev pub before : {A : Type 0} → Reader A → (test : Tok → Bool) → Reader A
before p test tokens =
    option_and_then (λ x. option_map (λ rest. (x.0, rest)) (after_if test x.1)) (p tokens)

-- one after the other
abbrev pub both : {A B : Type 0} → Reader A → Reader B → Reader (A × B)
both p q tokens =
    option_and_then (λ x. option_map (λ y. ((x.0, y.0), y.1)) (q x.1)) (p tokens)

-- with a tree made of the one that is read
abbrev pub with_tree : {A B : Type 0} → (make : A → B) → Reader A → Reader B
with_tree make p tokens = option_map (λ x. (make x.0, x.1)) (p tokens)

-- the same, where there is one
abbrev pub with_tree_if : {A B : Type 0} → (make : A → Option B) → Reader A → Reader B
with_tree_if make p tokens =
    option_and_then (λ x. option_map (λ tree. (tree, x.1)) (make x.0)) (p tokens)

-- by the first token
abbrev pub either : {A : Type 0} → (test : Tok → Bool) → Reader A → Reader A → Reader A
either test p q tokens = choose (after_if test tokens) p (q tokens)

-- by what the tokens begin with
abbrev pub either_if : {A : Type 0} → (begins : List Tok → Bool) → Reader A → Reader A → Reader A
either_if begins p q tokens = if begins tokens then p tokens else q tokens

-- what is read behind a token that passes, or nothing
abbrev pub maybe : {A : Type 0} → (test : Tok → Bool) → Reader A → Reader (Option A)
maybe test p tokens =
    choose (after_if test tokens) (λ after. option_map (λ x. (Some x.0, x.1)) (p after)) (Some (None, tokens))

-- what follows a token for each test
abbrev pub one_each : List (Tok → Bool) → List Tok → Option (List Tok)
one_each [] tokens = Some tokens
one_each (test ∷ tests) tokens = option_and_then (one_each tests) (after_if test tokens)

-- the same, or all tokens where the first one doesn't pass
abbrev pub skip : (test : Tok → Bool) → List (Tok → Bool) → List Tok → Option (List Tok)
skip test tests tokens = choose (after_if test tokens) (one_each tests) (Some tokens)

-- the same by what the tokens begin with
abbrev pub skip_if : (begins : List Tok → Bool) → List (Tok → Bool) → List Tok → Option (List Tok)
skip_if begins tests tokens = if begins tokens then one_each tests tokens else Some tokens

-- what is read, behind tokens that pass or none
abbrev pub perhaps : {A : Type 0} → (test : Tok → Bool) → List (Tok → Bool) → Reader A → Reader A
perhaps test tests p tokens = option_and_then p (skip test tests tokens)

-- the same by what the tokens begin with
abbrev pub perhaps_if : {A : Type 0} → (begins : List Tok → Bool) → List (Tok → Bool) → Reader A → Reader A
perhaps_if begins tests p tokens = option_and_then p (skip_if begins tests tokens)

-- items behind commas, as many as there are and at most so many, behind those that were found
unfoldable pub more : {A : Type 0} → Reader A → (count : ℕ) → (found : List A) → Reader (List A)
more p zero found tokens = Some (found, tokens)
more p (suc count) found tokens =
    choose (after_if (is_sign Comma) tokens)
    (λ after. option_and_then (λ x. more p count (found ++ x.0 ∷ []) x.1) (p after))
    (Some (found, tokens))

-- items with commas between them
abbrev pub chain : {A : Type 0} → Reader A → Reader (List A)
chain p tokens = option_and_then (λ x. more p (length x.1) (x.0 ∷ []) x.1) (p tokens)

-- behind an opening parenthesis
abbrev pub to_close : {A : Type 0} → Reader A → Reader A
to_close p = before p (is_sign Close)

-- in parentheses
abbrev pub in_parens : {A : Type 0} → Reader A → Reader A
in_parens p = after (is_sign Open) (to_close p)

-- a number
abbrev pub number_at : Reader ℕ
number_at = one number_in_token

-- a text, by the bytes that it stands for
abbrev pub text_token_at : Reader (List ℕ)
text_token_at = one text_in_token

-- the tree, where no token is left
abbrev pub whole_tree : {A : Type 0} → A → List Tok → Option A
whole_tree tree [] = Some tree
whole_tree tree (token ∷ tokens) = None
