-- What holds of the tree of a phrase, wherever its tokens are written ones.
use Rattle.std.proofs.Common.{◌≡◌, ◌⊎◌, inl, inr, ℕ, Bool, List, [], ◌∷◌, sym, subst}
use Rattle.std.specs.Prelude.{Option, Some, None}
use Rattle.mt_tokens.specs.Lexis.{AreTokens, skip_blanks}
use Rattle.mt_tokens.specs.Tokens.{Tok}
use Rattle.mt_tokens.specs.Writing.{IsWritten}
use Rattle.mt_tokens.proofs.LongestTokens.{read_is_longest}
use Rattle.mt_tokens.specs.Words.{is_sign}
use Rattle.mt_tokens.specs.declared.sign.Sign.TheVariants.{Open, Close, Comma}
use Rattle.mt_phrases.specs.Phrases.{Phrase, One, ◌▹◌, ◌◃◌, ◌◂◌, ◌&◌, ◌∣◌, Maybe, Many, Made, Kept, OneEach, Perhaps, NotWith, Nothing, Chain, InParens, list_of}

-- a token that stands for some bytes
abbrev pub Good : Tok → Type 0
Good token = (bytes : List ℕ) × IsWritten token bytes

-- so do all
abbrev pub AllGood : List Tok → Type 0
AllGood [] = Unit {0}
AllGood (token ∷ tokens) = Good token × AllGood tokens

-- the tokens of a text are such
pub all_good : (text : List ℕ) (tokens : List Tok) → AreTokens text tokens → AllGood tokens
all_good text [] are = tt
all_good text (token ∷ tokens) (rest, read, others) =
    let longest = read_is_longest text token rest read in
    ((longest.bytes, longest.is_written), all_good (skip_blanks rest) tokens others)

-- the tree of a phrase of such tokens is so, and the tokens behind it are such
abbrev pub Holds : {A : Type 0} → Phrase A → (A → Type 0) → Type 0
Holds {A} P T = (tokens : List Tok) (tree : A) (rest : List Tok) → P tokens tree rest → AllGood tokens → T tree × AllGood rest

-- says nothing
abbrev pub Any : {A : Type 0} → A → Type 0
Any x = Unit {0}

pub one_holds : {A : Type 0} (tree_of : Tok → Option A) (T : A → Type 0) → ((token : Tok) (x : A) → Good token → tree_of token ≡ Some x → T x) → Holds (One tree_of) T
one_holds tree_of T h [] tree rest p good = absurd p
one_holds tree_of T h (token ∷ tokens) tree rest p good = (h token tree good.0 p.0, subst AllGood p.1 good.1)

pub after_holds : {A : Type 0} (test : Tok → Bool) (P : Phrase A) (T : A → Type 0) → Holds P T → Holds (test ▹ P) T
after_holds test P T h [] tree rest p good = absurd p
after_holds test P T h (token ∷ tokens) tree rest p good = h tokens tree rest p.1 good.1

pub before_holds : {A : Type 0} (test : Tok → Bool) (P : Phrase A) (T : A → Type 0) → Holds P T → Holds (P ◃ test) T
before_holds test P T h tokens tree rest p good = let both = h tokens tree (p.0 ∷ rest) p.1 good in (both.0, both.1.1)

pub both_hold : {A B : Type 0} (P : Phrase A) (Q : Phrase B) (S : A → Type 0) (T : B → Type 0) → Holds P S → Holds Q T → Holds (P & Q) (λ x. S x.0 × T x.1)
both_hold P Q S T h k tokens tree rest p good =
    let one = h tokens tree.0 p.0 p.1 good in
    let two = k p.0 tree.1 rest p.2 one.1 in
    ((one.0, two.0), two.1)

pub either_holds : {A : Type 0} (P Q : Phrase A) (T : A → Type 0) → Holds P T → Holds Q T → Holds (P ∣ Q) T
either_holds P Q T h k tokens tree rest (inl p) good = h tokens tree rest p good
either_holds P Q T h k tokens tree rest (inr q) good = k tokens tree rest q good

-- where it is given
abbrev pub Given : {A : Type 0} → (A → Type 0) → Option A → Type 0
Given T None = Unit {0}
Given T (Some x) = T x

pub maybe_holds : {A : Type 0} (P : Phrase A) (T : A → Type 0) → Holds P T → Holds (Maybe P) (Given T)
maybe_holds P T h tokens None rest p good = (tt, subst AllGood p good)
maybe_holds P T h tokens (Some tree) rest p good = h tokens tree rest p good

-- of each
abbrev pub Each : {A : Type 0} → (A → Type 0) → List A → Type 0
Each T [] = Unit {0}
Each T (x ∷ xs) = T x × Each T xs

pub many_hold : {A : Type 0} (P : Phrase A) (T : A → Type 0) → Holds P T → Holds (Many P) (Each T)
many_hold P T h tokens [] rest p good = (tt, subst AllGood p good)
many_hold P T h tokens (tree ∷ trees) rest p good =
    let one = h tokens tree p.0 p.1 good in
    let others = many_hold P T h p.0 trees rest p.2 one.1 in
    ((one.0, others.0), others.1)

pub made_holds : {A B : Type 0} (make : A → B) (P : Phrase A) (S : A → Type 0) (T : B → Type 0) → ((x : A) → S x → T (make x)) → Holds P S → Holds (Made make P) T
made_holds make P S T f h tokens tree rest p good =
    let one = h tokens p.0 rest p.2 good in
    (subst T (sym p.1) (f p.0 one.0), one.1)

pub kept_holds : {A B : Type 0} (make : A → Option B) (P : Phrase A) (S : A → Type 0) (T : B → Type 0) → ((x : A) (y : B) → make x ≡ Some y → S x → T y) → Holds P S → Holds (Kept make P) T
kept_holds make P S T f h tokens tree rest p good =
    let one = h tokens p.0 rest p.2 good in
    (f p.0 tree p.1 one.0, one.1)

after_each : (tests : List (Tok → Bool)) (tokens rest : List Tok) → OneEach tests tokens rest → AllGood tokens → AllGood rest
after_each [] tokens rest p good = subst AllGood p good
after_each (test ∷ tests) [] rest p good = absurd p
after_each (test ∷ tests) (token ∷ tokens) rest p good = after_each tests tokens rest p.1 good.1

pub perhaps_holds : {A : Type 0} (tests : List (Tok → Bool)) (P : Phrase A) (T : A → Type 0) → Holds P T → Holds (Perhaps tests P) T
perhaps_holds {A} tests P T h tokens tree rest (middle, skips, p) good = by_case skips
  where
    by_case : (tokens ≡ middle) ⊎ OneEach tests tokens middle → T tree × AllGood rest
    by_case (inl same) = h middle tree rest p (subst AllGood same good)
    by_case (inr each) = h middle tree rest p (after_each tests tokens middle each good)

pub not_with_holds : {A : Type 0} (test : Tok → Bool) (P : Phrase A) (T : A → Type 0) → Holds P T → Holds (NotWith test P) T
not_with_holds test P T h tokens tree rest p good = h tokens tree rest p.1 good

pub nothing_holds : Holds Nothing Any
nothing_holds tokens tree rest p good = (tt, subst AllGood p good)

pub then_holds : {A : Type 0} (P : Phrase A) (Q : Phrase (Unit {0})) (T : A → Type 0) → Holds P T → Holds Q Any → Holds (P ◂ Q) T
then_holds P Q T h k tokens tree rest p good =
    let one = h tokens tree p.0 p.1 good in
    (one.0, (k p.0 tt rest p.2 one.1).1)

pub any_holds : {A : Type 0} (P : Phrase A) (T : A → Type 0) → Holds P T → Holds P Any
any_holds P T h tokens tree rest p good = (tt, (h tokens tree rest p good).1)

-- of each, and there is one
abbrev pub EachOfSome : {A : Type 0} → (A → Type 0) → List A → Type 0
EachOfSome T [] = ⊥
EachOfSome T (x ∷ xs) = T x × Each T xs

pub chain_holds : {A : Type 0} (P : Phrase A) (T : A → Type 0) → Holds P T → Holds (Chain P) (EachOfSome T)
chain_holds P T h =
    made_holds list_of (P & Many (is_sign Comma ▹ P)) (λ x. T x.0 × Each T x.1) (EachOfSome T) (λ x holds. holds)
    (both_hold P (Many (is_sign Comma ▹ P)) T (Each T) h (many_hold (is_sign Comma ▹ P) T (after_holds (is_sign Comma) P T h)))

pub in_parens_holds : {A : Type 0} (P : Phrase A) (T : A → Type 0) → Holds P T → Holds (InParens P) T
in_parens_holds P T h = after_holds (is_sign Open) (P ◃ is_sign Close) T (before_holds (is_sign Close) P T h)

-- ---- of any tree

pub any_one : {A : Type 0} (tree_of : Tok → Option A) → Holds (One tree_of) Any
any_one tree_of = one_holds tree_of Any (λ token x good e. tt)

pub any_in_chain : {A : Type 0} (P : Phrase A) → Holds P Any → Holds (Chain P) Any
any_in_chain P h = any_holds (Chain P) (EachOfSome Any) (chain_holds P Any h)

pub any_made : {A B : Type 0} (make : A → B) (P : Phrase A) → Holds P Any → Holds (Made make P) Any
any_made make P h = made_holds make P Any Any (λ x any. tt) h

pub any_both : {A B : Type 0} (P : Phrase A) (Q : Phrase B) → Holds P Any → Holds Q Any → Holds (P & Q) Any
any_both P Q h k = any_holds (P & Q) (λ x. Any x.0 × Any x.1) (both_hold P Q Any Any h k)

pub any_maybe : {A : Type 0} (P : Phrase A) → Holds P Any → Holds (Maybe P) Any
any_maybe P h = any_holds (Maybe P) (Given Any) (maybe_holds P Any h)

pub any_parens : {A : Type 0} (P : Phrase A) → Holds P Any → Holds (InParens P) Any
any_parens P h = in_parens_holds P Any h
