-- Orders of columns.
use Rattle.std.proofs.Common.{◌≡◌, ℕ, zero, suc, ◌+◌, ◌<◌, ◌≤◌, List, [], ◌∷◌, ◌++◌, length, map, take, drop, refl, ap, sym, ◌∙◌, get_or, arith}
use Rattle.std.specs.Prelude.{slice_set}
use Rattle.mt_defs.specs.Rows.{Row}
use Rattle.std.specs.List.{range_with_len}
use Rattle.mt_files.proofs.LoopLemmas.{drop_drop}
use Rattle.std.proofs.lemmas.List.{take_all, take_more, take_more_set, map-append}
use Rattle.std.proofs.lemmas.List.FromFn.{length-range_with_len}

pub range_push : (a n : ℕ) → range_with_len a (suc n) ≡ range_with_len a n ++ (a + n) ∷ []
range_push a zero = ap (λ k. k ∷ []) (omega arith)
range_push a (suc n) = ap (λ l. a ∷ l) (range_push (a + 1) n ∙ ap (λ k. range_with_len (a + 1) n ++ k ∷ []) (omega arith))

pub in_place_more : (order : List ℕ) (i : ℕ) → i < length order → get_or order i 0 ≡ i → take i order ≡ range_with_len 0 i → take (i + 1) order ≡ range_with_len 0 (i + 1)
in_place_more order i inside same ahead =
    take_more order i 0 inside ∙ ap (λ l. l ++ get_or order i 0 ∷ []) ahead ∙ ap (λ k. range_with_len 0 i ++ k ∷ []) (same ∙ (let e : i ≡ 0 + i = omega arith in e)) ∙ sym (range_push 0 i)
    ∙ ap (range_with_len 0) (let e : suc i ≡ i + 1 = omega arith in e)

-- all columns are at their places
pub all_in_place : {X : Type 0} (order : List ℕ) (columns : List X) (i : ℕ) → take i order ≡ range_with_len 0 i → length order ≤ i → length order ≡ length columns → order ≡ range_with_len 0 (length columns)
all_in_place order columns i ahead over same =
    let all : order ≡ range_with_len 0 i = sym (take_all i order over) ∙ ahead in
    let count : i ≡ length columns = let size : length order ≡ i = ap length all ∙ length-range_with_len 0 i in omega (arith, size, same) in
    all ∙ ap (range_with_len 0) count

-- ---- rows moved one by one

get_drop : {X : Type 0} (xs : List X) (i : ℕ) (d : X) → get_or (drop i xs) 0 d ≡ get_or xs i d
get_drop [] zero d = refl
get_drop [] (suc i) d = refl
get_drop (x ∷ xs) zero d = refl
get_drop (x ∷ xs) (suc i) d = get_drop xs i d

-- an element that is still where it was
pub still_there : {X : Type 0} (xs moved : List X) (i : ℕ) (x d : X) → drop i moved ≡ drop i xs → x ≡ get_or moved i d → x ≡ get_or xs i d
still_there xs moved i x d left at = at ∙ sym (get_drop moved i d) ∙ ap (λ l. get_or l 0 d) left ∙ get_drop xs i d

take_set : {X : Type 0} (xs : List X) (i : ℕ) (x : X) → take i (slice_set xs i x) ≡ take i xs
take_set [] zero x = refl
take_set [] (suc i) x = refl
take_set (y ∷ xs) zero x = refl
take_set (y ∷ xs) (suc i) x = ap (λ l. y ∷ l) (take_set xs i x)

drop_set : {X : Type 0} (xs : List X) (i : ℕ) (x : X) → drop (suc i) (slice_set xs i x) ≡ drop (suc i) xs
drop_set [] i x = refl
drop_set (y ∷ xs) zero x = refl
drop_set (y ∷ xs) (suc i) x = drop_set xs i x

pub length_set : {X : Type 0} (xs : List X) (i : ℕ) (x : X) → length (slice_set xs i x) ≡ length xs
length_set [] i x = refl
length_set (y ∷ xs) zero x = refl
length_set (y ∷ xs) (suc i) x = ap suc (length_set xs i x)

drop_next : {X : Type 0} (xs ys : List X) (i : ℕ) → drop i xs ≡ drop i ys → drop (i + 1) xs ≡ drop (i + 1) ys
drop_next xs ys i left = sym (drop_drop i 1 xs) ∙ ap (drop 1) left ∙ drop_drop i 1 ys

-- where the loop stands
pub record Moves (f : Row → Row) (rows moved : List Row) (i : ℕ) : Type 0 where
  pub done : take i moved ≡ map f (take i rows)
  pub left : drop i moved ≡ drop i rows
  pub long : length moved ≡ length rows

pub moves_on : (f : Row → Row) (rows moved : List Row) (i : ℕ) (row new empty d : Row) → take i moved ≡ map f (take i rows) → drop i moved ≡ drop i rows → length moved ≡ length rows → i < length moved → row ≡ get_or moved i d → new ≡ f row
    → Moves f rows (slice_set (slice_set moved i empty) i new) (i + 1)
moves_on f rows moved i row new empty d done left long inside at made =
    let first = slice_set moved i empty in
    let short : i < length first = omega (arith, inside, length_set moved i empty) in
    let there : i < length rows = omega (arith, inside, long) in
    let here : row ≡ get_or rows i d = still_there rows moved i row d left at in
    let next : suc i ≡ i + 1 = omega arith in
    record {
      done = take_more_set first i new short ∙ ap (λ (l : List Row). l ++ new ∷ []) (take_set moved i empty ∙ done) ∙ ap (λ (r : Row). map f (take i rows) ++ r ∷ []) (made ∙ ap f here)
          ∙ sym (map-append f (take i rows) (get_or rows i d ∷ [])) ∙ ap (map f) (sym (take_more rows i d there));
      left = ap (λ k. drop k (slice_set first i new)) (sym next) ∙ drop_set first i new ∙ drop_set moved i empty ∙ ap (λ k. drop k moved) next ∙ drop_next moved rows i left;
      long = length_set first i new ∙ length_set moved i empty ∙ long;
    }
