-- What is selected: what is read is that, and each is read.
use Rattle.std.proofs.Common.{◌≡◌, ℕ, true, false, List, [], ◌∷◌, Option, refl, inl, inr}
use Rattle.std.specs.Prelude.{codes}
use Rattle.mt_tokens.specs.declared.sign.Sign.{Sign}
use Rattle.mt_tokens.specs.declared.sign.Sign.TheVariants.{Open, Close, Comma, Star}
use Rattle.mt_tokens.specs.Tokens.{Tok}
use Rattle.mt_tokens.specs.Words.{is_keyword, is_sign}
use Rattle.mt_phrases.specs.declared.selection.Selection.{Selection}
use Rattle.mt_phrases.specs.declared.selection.Selection.TheVariants as item
use Rattle.mt_phrases.specs.declared.selection.Selected.{Selected}
use Rattle.mt_phrases.specs.declared.selection.Selected.TheVariants.{All, Items}
use Rattle.mt_phrases.specs.Phrases.{One, ◌▹◌, ◌◃◌, ◌∣◌, first_is, second_is}
use Rattle.mt_phrases.specs.Selections.{IsCount, IsAggregate, IsItem, IsSelected, count_at, aggregate_at, call_at, item_at, selects_at}
use Rattle.mt_phrases.specs.Terminals.{tree_if, agg_of}
use Rattle.mt_phrases.proofs.ListLaws.{chain_law, parens_law}
use Rattle.mt_phrases.proofs.PhraseLaws.{IsRead, Any, Not, narrowed, one_law, after_law, then_law, made_law, either_if_law}
use Rattle.mt_phrases.proofs.TokenTests.{Lacks, key_no_sign, signs_apart, given_is, agg_no_count, agg_no_sign, one_begins, after_begins, after_is, second_of}

-- ( follows neither a name nor an item
abbrev pub NoOpen : List Tok → Type 0
NoOpen rest = Not (is_sign Open) rest

-- nothing follows that items may go on with
abbrev pub EndsItems : List Tok → Type 0
EndsItems rest = Not (is_sign Comma) rest × NoOpen rest

count_law : IsRead IsCount count_at Any
count_law = after_law (is_keyword (codes "count")) (after_law (is_sign Open) (one_law (tree_if (is_sign Close) item.Count)))

star_begins : (tokens : List Tok) (tree : Selected) (rest : List Tok) → One (tree_if (is_sign Star) All) tokens tree rest → first_is (is_sign Star) tokens ≡ true
star_begins [] tree rest h = absurd h
star_begins (token ∷ tokens) tree rest h = given_is (is_sign Star) All token tree h.0

-- names as a token is one, which no sign is
module _ (name_in : Tok → Option (List ℕ)) (no_sign : (sign : Sign) → Lacks name_in (is_sign sign)) where
  aggregate_law : IsRead (IsAggregate name_in) (aggregate_at name_in) Any
  aggregate_law = made_law (λ x. item.Of x.0 x.1) (then_law (one_law agg_of) (parens_law (one_law name_in) (λ token rest e. tt)))

  call_law : IsRead (IsCount ∣ IsAggregate name_in) (call_at name_in) Any
  call_law =
      either_if_law (first_is (is_keyword (codes "count"))) count_law aggregate_law
      (λ tokens tree rest h. after_is (is_keyword (codes "count")) (is_sign Open ▹ One (tree_if (is_sign Close) item.Count)) tokens tree rest h)
      (λ tokens tree rest h s. one_begins agg_of (is_keyword (codes "count")) agg_no_count tokens h.0.0 h.2.0 h.2.1)

  call_opens : (tokens : List Tok) (tree : Selection) (rest : List Tok) → (IsCount ∣ IsAggregate name_in) tokens tree rest → second_is (is_sign Open) tokens ≡ true
  call_opens [] tree rest (inl h) = absurd h
  call_opens (token ∷ tokens) tree rest (inl h) = after_is (is_sign Open) (One (tree_if (is_sign Close) item.Count)) tokens tree rest h.1
  call_opens tokens tree rest (inr h) =
      second_of agg_of (is_sign Open) true tokens h.2.0 h.0.0 h.2.1 (after_is (is_sign Open) (One name_in ◃ is_sign Close) h.2.0 h.0.1 rest h.2.2)

  item_law : IsRead (IsItem name_in) (item_at name_in) NoOpen
  unfolding item_at
  item_law =
      either_if_law (second_is (is_sign Open)) (narrowed NoOpen call_law (λ rest s. tt)) (narrowed NoOpen (made_law item.Column (one_law name_in)) (λ rest s. tt))
      call_opens (λ tokens tree rest h s. second_of name_in (is_sign Open) false tokens rest h.0 h.2 s)

  item_no_star : (tokens : List Tok) (tree : Selection) (rest : List Tok) → IsItem name_in tokens tree rest → Not (is_sign Star) tokens
  item_no_star tokens tree rest (inl (inl h)) = after_begins (is_keyword (codes "count")) (is_sign Star) (is_sign Open ▹ One (tree_if (is_sign Close) item.Count)) (key_no_sign (codes "count") Star) tokens tree rest h
  item_no_star tokens tree rest (inl (inr h)) = one_begins agg_of (is_sign Star) (agg_no_sign Star) tokens h.0.0 h.2.0 h.2.1
  item_no_star tokens tree rest (inr h) = one_begins name_in (is_sign Star) (no_sign Star) tokens h.0 rest h.2

  pub selects_law : IsRead (IsSelected name_in) (selects_at name_in) EndsItems
  selects_law =
      either_if_law (first_is (is_sign Star)) (narrowed EndsItems (one_law (tree_if (is_sign Star) All)) (λ rest s. tt))
      (made_law Items (chain_law EndsItems item_law (λ token rest e. signs_apart Comma Open refl token e) (λ rest s. s)))
      star_begins
      (λ tokens tree rest h s. item_no_star tokens h.2.0.0 h.2.2.0 h.2.2.1)
