-- Loops over numbered things, as columns and substreams.
use Rattle.std.proofs.Common.{◌≡◌, ℕ, ◌+◌, ◌<◌, ◌≤◌, List, [], ◌∷◌, ◌++◌, length, map, take, get_or, ap, sym, ◌∙◌, arith, zero-add}
use Rattle.std.specs.List.{flat_map, enumerate_from}
use Rattle.std.proofs.lemmas.List.{take_more, take_all, flat_map_more, map-append}
use Rattle.std.proofs.lemmas.List.FromFn.{length-enumerate_from, get_or-enumerate_from}

-- one thing more is numbered
pub take_numbered : {X : Type 0} (xs : List X) (i : ℕ) (x : X) → i < length xs → x ≡ get_or xs i x → take (i + 1) (enumerate_from 0 xs) ≡ take i (enumerate_from 0 xs) ++ (i, x) ∷ []
take_numbered xs i x h is =
    let numbered = enumerate_from 0 xs in
    let few : length numbered ≡ length xs = length-enumerate_from 0 xs in
    let here : get_or numbered i (0, x) ≡ (i, x) = get_or-enumerate_from 0 xs i (0, x) h ∙ ap (λ n. (n, get_or xs i x)) (zero-add i) ∙ ap (λ y. (i, y)) (sym is) in
    take_more numbered i (0, x) (omega arith) ∙ ap (λ y. take i numbered ++ y ∷ []) here

pub numbered_step : {X Y : Type 0} (f : ℕ × X → List Y) (before now new : List Y) (xs : List X) (i : ℕ) (x : X) → i < length xs → x ≡ get_or xs i x
    → now ≡ before ++ flat_map f (take i (enumerate_from 0 xs)) → new ≡ now ++ f (i, x) → new ≡ before ++ flat_map f (take (i + 1) (enumerate_from 0 xs))
numbered_step f before now new xs i x h is ahead push =
    push ∙ ap (λ l. l ++ f (i, x)) ahead ∙ flat_map_more f before (take i (enumerate_from 0 xs)) (i, x)
    ∙ ap (λ l. before ++ flat_map f l) (sym (take_numbered xs i x h is))

pub numbered_end : {X Y : Type 0} (f : ℕ × X → List Y) (before now : List Y) (xs : List X) (i : ℕ) → length xs ≤ i → now ≡ before ++ flat_map f (take i (enumerate_from 0 xs)) → now ≡ before ++ flat_map f (enumerate_from 0 xs)
numbered_end f before now xs i h ahead =
    let few : length (enumerate_from 0 xs) ≡ length xs = length-enumerate_from 0 xs in
    ahead ∙ ap (λ l. before ++ flat_map f l) (take_all i (enumerate_from 0 xs) (omega arith))

-- the same of one result each
pub numbered_map_step : {X Y : Type 0} (f : ℕ × X → Y) (xs : List X) (i : ℕ) (x : X) → i < length xs → x ≡ get_or xs i x
    → map f (take (i + 1) (enumerate_from 0 xs)) ≡ map f (take i (enumerate_from 0 xs)) ++ f (i, x) ∷ []
numbered_map_step f xs i x h is = ap (λ l. map f l) (take_numbered xs i x h is) ∙ map-append f (take i (enumerate_from 0 xs)) ((i, x) ∷ [])

pub numbered_map_end : {X Y : Type 0} (f : ℕ × X → Y) (xs : List X) (i : ℕ) → length xs ≤ i → map f (take i (enumerate_from 0 xs)) ≡ map f (enumerate_from 0 xs)
numbered_map_end f xs i h =
    let few : length (enumerate_from 0 xs) ≡ length xs = length-enumerate_from 0 xs in
    ap (λ l. map f l) (take_all i (enumerate_from 0 xs) (omega arith))
