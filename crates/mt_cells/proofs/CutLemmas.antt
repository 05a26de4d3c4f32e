-- Lists cut into pieces.
use Rattle.std.proofs.Common.{◌≡◌, ℕ, zero, suc, ◌+◌, ◌-◌, ◌<◌, ◌≤◌, List, [], ◌∷◌, ◌++◌, length, get_or, take, drop, refl, ap, ap₂, sym, ◌∙◌, arith, length-drop, length-append, take-add, length-take-le}
use Rattle.std.specs.Prelude.{sum}
use Rattle.std.specs.List.{flat_map}
use Rattle.std.proofs.lemmas.List.Sums.{sum_by_more, sum_by-take-le, sum_by-append}
use Rattle.std.proofs.lemmas.List.{take_more, get_or-drop, append_assoc, flat_map_more, drop-drop, drop-take, take-take, take-append-le, drop-append-le, nil_from_length, take_all}
use Rattle.std.specs.List.{All}
use Rattle.std.proofs.lemmas.List.{map_push, get_or-map, length-map, map-append, take-map, drop-map}
use Rattle.std.proofs.lemmas.List.Elements.{All-head, All-tail}
use Rattle.std.proofs.Common.{map}
use Rattle.mt_facts.proofs.Numbers.{sum_cons}
use Rattle.mt_types.specs.declared.value.Value.{Value}
use Rattle.mt_types.specs.declared.value.AggState.{AggState}
use Rattle.mt_types.specs.declared.value.Value.TheVariants.{Text, State, Null}
use Rattle.mt_cells.specs.Pieces.{cut}

pub length-cut : {X : Type 0} (sizes : List ℕ) (xs : List X) → length (cut sizes xs) ≡ length sizes
unfolding cut
length-cut [] xs = refl
length-cut (size ∷ sizes) xs = ap suc (length-cut sizes (drop size xs))

pub cut_none : {X : Type 0} (xs : List X) → cut [] xs ≡ []
unfolding cut
cut_none xs = refl

-- more pieces behind
pub cut-append : {X : Type 0} (sizes more : List ℕ) (xs ys : List X) → length xs ≡ sum sizes → cut (sizes ++ more) (xs ++ ys) ≡ cut sizes xs ++ cut more ys
unfolding cut
cut-append [] more xs ys h = ap (λ zs. cut more (zs ++ ys)) (nil_from_length xs h)
cut-append (size ∷ sizes) more xs ys h =
    let first = sum_cons size sizes in
    let long : size ≤ length xs = omega (arith, h, first) in
    let left : length (drop size xs) ≡ sum sizes = omega (arith, h, first, length-drop size xs) in
    ap₂ ◌∷◌ (take-append-le size xs ys long) (ap (cut (sizes ++ more)) (drop-append-le size xs ys long) ∙ cut-append sizes more (drop size xs) ys left)

-- a piece
pub cut_at : {X : Type 0} (sizes : List ℕ) (xs : List X) (i : ℕ) (d : List X) → i < length sizes → get_or (cut sizes xs) i d ≡ take (get_or sizes i 0) (drop (sum (take i sizes)) xs)
unfolding cut
cut_at [] xs i d h = absurd (omega arith)
cut_at (size ∷ sizes) xs zero d h = refl
cut_at (size ∷ sizes) xs (suc i) d h =
    let first = sum_cons size (take i sizes) in
    cut_at sizes (drop size xs) i d (omega arith) ∙ ap (take (get_or sizes i 0)) (drop-drop (sum (take i sizes)) size xs ∙ ap (λ (n : ℕ). drop n xs) (sym first))

-- one piece
pub cut_one : {X : Type 0} (size : ℕ) (xs : List X) → length xs ≡ size → cut (size ∷ []) xs ≡ xs ∷ []
unfolding cut
cut_one size xs h = ap (λ x. x ∷ []) (take_all size xs (omega (arith, h)))

-- ---- ranges of pieces

-- the pieces from one on, and the first so many
cut-drop : {X : Type 0} (n : ℕ) (sizes : List ℕ) (xs : List X) → drop n (cut sizes xs) ≡ cut (drop n sizes) (drop (sum (take n sizes)) xs)
unfolding cut
cut-drop zero sizes xs = refl
cut-drop (suc n) [] xs = refl
cut-drop (suc n) (size ∷ sizes) xs =
    cut-drop n sizes (drop size xs) ∙ ap (cut (drop n sizes)) (drop-drop (sum (take n sizes)) size xs ∙ ap (λ (k : ℕ). drop k xs) (sym (sum_cons size (take n sizes))))

cut-take : {X : Type 0} (n k : ℕ) (sizes : List ℕ) (xs : List X) → k ≡ sum (take n sizes) → take n (cut sizes xs) ≡ cut (take n sizes) (take k xs)
unfolding cut
cut-take zero k sizes xs e = refl
cut-take (suc n) k [] xs e = refl
cut-take (suc n) k (size ∷ sizes) xs e =
    let first = sum_cons size (take n sizes) in
    let left : k - size ≡ sum (take n sizes) = omega (arith, e, first) in
    let within : size ≤ k = omega (arith, e, first) in
    let back : size + (k - size) ≡ k = omega (arith, within) in
    let rest : drop size (take k xs) ≡ take (k - size) (drop size xs) = ap (λ (m : ℕ). drop size (take m xs)) (sym back) ∙ drop-take size (k - size) xs in
    ap₂ ◌∷◌ (sym (take-take size k xs within)) (cut-take n (k - size) sizes (drop size xs) left ∙ ap (cut (take n sizes)) (sym rest))

-- the sum of a range of sizes
pub range_sum : (sizes : List ℕ) (from to : ℕ) → from ≤ to → sum (take to sizes) ≡ sum (take from sizes) + sum (take (to - from) (drop from sizes))
range_sum sizes from to order =
    let back : from + (to - from) ≡ to = omega (arith, order) in
    ap (λ (n : ℕ). sum (take n sizes)) (sym back) ∙ ap (λ (ns : List ℕ). sum ns) (take-add from (to - from) sizes) ∙ sum_by-append (λ n. n) (take from sizes) (take (to - from) (drop from sizes))

-- a range of the pieces
pub cut_range : {X : Type 0} (sizes : List ℕ) (xs : List X) (from to start end : ℕ) → from ≤ to → start ≡ sum (take from sizes) → end ≡ sum (take to sizes)
    → take (to - from) (drop from (cut sizes xs)) ≡ cut (take (to - from) (drop from sizes)) (take (end - start) (drop start xs))
cut_range sizes xs from to start end order s e =
    let long : end - start ≡ sum (take (to - from) (drop from sizes)) = omega (arith, s, e, range_sum sizes from to order) in
    ap (take (to - from)) (cut-drop from sizes xs ∙ ap (λ (k : ℕ). cut (drop from sizes) (drop k xs)) (sym s)) ∙ cut-take (to - from) (end - start) (drop from sizes) (drop start xs) long

-- ---- pieces as they are seen

module _ {X : Type 0} (sizes : List ℕ) (xs : List X) (pieces : List (List X)) (long : length xs ≡ sum sizes) (is : cut sizes xs ≡ pieces) where
  pub as_many : length sizes ≡ length pieces
  as_many = sym (length-cut sizes xs) ∙ ap (λ ps. length ps) is

  pub next_start : (i : ℕ) → i < length pieces → sum (take (i + 1) sizes) ≡ sum (take i sizes) + get_or sizes i 0
  next_start i h = sum_by_more (λ n. n) sizes i 0 (omega (arith, h, as_many))

  pub start_within : (i : ℕ) → sum (take i sizes) ≤ length xs
  start_within i = omega (arith, long, sum_by-take-le (λ n. n) sizes i)

  pub piece_at : (i start end : ℕ) (d out : List X) → i < length pieces → start ≡ sum (take i sizes) → end ≡ sum (take (i + 1) sizes) → out ≡ take (end - start) (drop start xs) → out ≡ get_or pieces i d
  piece_at i start end d out h s e o =
      let size : end - start ≡ get_or sizes i 0 = omega (arith, s, e, next_start i h) in
      o ∙ ap (λ (n : ℕ). take n (drop start xs)) size ∙ ap (λ (n : ℕ). take (get_or sizes i 0) (drop n xs)) s
      ∙ sym (cut_at sizes xs i d (omega (arith, h, as_many))) ∙ ap (λ ps. get_or ps i d) is

  pub piece_pushed : (sizes' : List ℕ) (xs' x : List X) → sizes' ≡ sizes ++ length x ∷ [] → xs' ≡ xs ++ x → cut sizes' xs' ≡ pieces ++ x ∷ []
  piece_pushed sizes' xs' x s e =
      ap₂ (λ (ns : List ℕ) (ys : List X). cut ns ys) s e ∙ cut-append sizes (length x ∷ []) xs x long ∙ ap₂ ◌++◌ is (cut_one (length x) x refl)

-- a range of other pieces behind
pub pieces_more : {X : Type 0} (sizes sizes' more : List ℕ) (xs xs' ys : List X) (pieces others : List (List X)) (from to start end : ℕ) → length xs ≡ sum sizes → cut sizes xs ≡ pieces → length ys ≡ sum more → cut more ys ≡ others
    → from ≤ to → start ≡ sum (take from more) → end ≡ sum (take to more) → sizes' ≡ sizes ++ take (to - from) (drop from more) → xs' ≡ xs ++ take (end - start) (drop start ys)
    → (length xs' ≡ sum sizes') × (cut sizes' xs' ≡ pieces ++ take (to - from) (drop from others))
pieces_more {X} sizes sizes' more xs xs' ys pieces others from to start end long is long' is' order s e made made' =
    let range = take (to - from) (drop from more) in
    let out = take (end - start) (drop start ys) in
    let sums = range_sum more from to order in
    let within : end - start ≤ length (drop start ys) = omega (arith, e, s, long', sum_by-take-le (λ n. n) more to, length-drop start ys) in
    let size : length out ≡ sum range = omega (arith, length-take-le (end - start) (drop start ys) within, s, e, sums) in (
      ap (λ zs. length zs) made' ∙ length-append xs out ∙ ap₂ ◌+◌ long size ∙ sym (ap (λ (ns : List ℕ). sum ns) made ∙ sum_by-append (λ n. n) sizes range),
      ap₂ (λ (ns : List ℕ) (zs : List X). cut ns zs) made made' ∙ cut-append sizes range xs out long
          ∙ ap₂ ◌++◌ is (sym (cut_range more ys from to start end order s e) ∙ ap (λ ps. take (to - from) (drop from ps)) is'),
    )

-- ---- a list, element by element from an index on

pub one_more : {X : Type 0} (from i : ℕ) (xs : List X) (d : X) → from ≤ i → i < length xs → take (i + 1 - from) (drop from xs) ≡ take (i - from) (drop from xs) ++ get_or xs i d ∷ []
one_more from i xs d order there =
    let next : i + 1 - from ≡ (i - from) + 1 = omega (arith, order) in
    let left : i - from < length (drop from xs) = omega (arith, order, there, length-drop from xs) in
    let back : from + (i - from) ≡ i = omega (arith, order) in
    ap (λ (n : ℕ). take n (drop from xs)) next ∙ take_more (drop from xs) (i - from) d left
    ∙ ap (λ x. take (i - from) (drop from xs) ++ x ∷ []) (get_or-drop from xs (i - from) d ∙ ap (λ (n : ℕ). get_or xs n d) back)

pub appended_more : {X : Type 0} (from i : ℕ) (xs old now new : List X) (x d : X) → from ≤ i → i < length xs → now ≡ old ++ take (i - from) (drop from xs) → new ≡ now ++ x ∷ [] → x ≡ get_or xs i d
    → new ≡ old ++ take (i + 1 - from) (drop from xs)
appended_more from i xs old now new x d order there was step is =
    step ∙ ap (λ ys. ys ++ x ∷ []) was ∙ append_assoc old (take (i - from) (drop from xs)) (x ∷ [])
    ∙ ap (λ y. old ++ (take (i - from) (drop from xs) ++ y ∷ [])) is ∙ ap (λ ys. old ++ ys) (sym (one_more from i xs d order there))

pub put_more : {X A : Type 0} (f : X → List A) (from i : ℕ) (xs : List X) (old now new : List A) (x d : X) → from ≤ i → i < length xs → now ≡ old ++ flat_map f (take (i - from) (drop from xs)) → new ≡ now ++ f x → x ≡ get_or xs i d
    → new ≡ old ++ flat_map f (take (i + 1 - from) (drop from xs))
put_more f from i xs old now new x d order there was step is =
    step ∙ ap (λ ys. ys ++ f x) was ∙ flat_map_more f old (take (i - from) (drop from xs)) x
    ∙ ap (λ y. old ++ flat_map f (take (i - from) (drop from xs) ++ y ∷ [])) is ∙ ap (λ ys. old ++ flat_map f ys) (sym (one_more from i xs d order there))

-- texts gathered are gathered values
pub texts_gathered : (texts : List (List ℕ)) (order : List ℕ) → All (λ i. i < length (map (λ (text : List ℕ). Text text) texts)) order
    → map (λ (text : List ℕ). Text text) (map (λ i. get_or texts i []) order) ≡ map (λ i. get_or (map (λ (text : List ℕ). Text text) texts) i Null) order
texts_gathered texts [] all = refl
texts_gathered texts (i ∷ order) all =
    let values : List Value = map (λ (text : List ℕ). Text text) texts in
    let here : i < length values = All-head (λ i. i < length values) i order all in
    let there : i < length texts = omega (arith, here, length-map texts (λ (text : List ℕ). Text text)) in
    ap₂ ◌∷◌ (sym (get_or-map (λ (text : List ℕ). Text text) texts i [] Null there)) (texts_gathered texts order (All-tail (λ i. i < length values) i order all))

pub texts_appended : (old new more : List (List ℕ)) (from to : ℕ) → new ≡ old ++ take (to - from) (drop from more)
    → map (λ (text : List ℕ). Text text) new ≡ map (λ (text : List ℕ). Text text) old ++ take (to - from) (drop from (map (λ (text : List ℕ). Text text) more))
texts_appended old new more from to e =
    let T : List ℕ → Value = λ (text : List ℕ). Text text in
    ap (map T) e ∙ map-append T old (take (to - from) (drop from more))
    ∙ ap (λ (vs : List Value). map T old ++ vs) (sym (ap (take (to - from)) (drop-map T from more) ∙ take-map T (to - from) (drop from more)))

-- states are those of their values
pub states_gathered : (states gathered : List AggState) (order : List ℕ) (i : ℕ) (s : AggState) → i < length order → get_or order i 0 < length states → s ≡ get_or states (get_or order i 0) s
    → map (λ (t : AggState). State t) gathered ≡ map (λ j. get_or (map (λ (t : AggState). State t) states) j Null) (take i order)
    → map (λ (t : AggState). State t) (gathered ++ s ∷ []) ≡ map (λ j. get_or (map (λ (t : AggState). State t) states) j Null) (take (i + 1) order)
states_gathered states gathered order i s h there is was =
    let values : List Value = map (λ (t : AggState). State t) states in
    let j = get_or order i 0 in
    map_push (λ (t : AggState). State t) gathered s
    ∙ ap₂ (λ (vs : List Value) (v : Value). vs ++ v ∷ []) was (ap (λ (t : AggState). State t) is ∙ sym (get_or-map (λ (t : AggState). State t) states j s Null there))
    ∙ sym (map_push (λ j. get_or values j Null) (take i order) j)
    ∙ ap (map (λ j. get_or values j Null)) (sym (take_more order i 0 h))

pub states_appended : (old new more : List AggState) (from to : ℕ) → new ≡ old ++ take (to - from) (drop from more)
    → map (λ (t : AggState). State t) new ≡ map (λ (t : AggState). State t) old ++ take (to - from) (drop from (map (λ (t : AggState). State t) more))
states_appended old new more from to e =
    let S : AggState → Value = λ (t : AggState). State t in
    ap (map S) e ∙ map-append S old (take (to - from) (drop from more))
    ∙ ap (λ (vs : List Value). map S old ++ vs) (sym (ap (take (to - from)) (drop-map S from more) ∙ take-map S (to - from) (drop from more)))
