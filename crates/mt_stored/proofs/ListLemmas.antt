-- Lists that are filtered, mapped and tested.
use Rattle.std.proofs.Common.{◌≡◌, Bool, true, false, cond, ◌&&◌, ◌||◌, List, [], ◌∷◌, ◌++◌, map, refl, ap, ◌∙◌}
use Rattle.std.specs.Prelude.{filter}
use Rattle.std.specs.List.{list_all, list_any}
use Rattle.std.proofs.lemmas.Bool.{and_parts}

pub or_assoc : (a b c : Bool) → ((a || b) || c) ≡ (a || (b || c))
or_assoc true b c = refl
or_assoc false b c = refl

pub or_swap : (a b c : Bool) → (a || (b || c)) ≡ (b || (a || c))
or_swap true true c = refl
or_swap true false c = refl
or_swap false true c = refl
or_swap false false c = refl

-- ---- tests that agree

filter_at : {X : Type 0} (b c : Bool) (x : X) (xs ys : List X) → b ≡ c → xs ≡ ys → cond b (x ∷ xs) xs ≡ cond c (x ∷ ys) ys
filter_at true true x xs ys e same = ap (λ l. x ∷ l) same
filter_at false false x xs ys e same = same
filter_at true false x xs ys e same = cc
filter_at false true x xs ys e same = cc

pub filter_same : {X : Type 0} (p q : X → Bool) (xs : List X) → ((x : X) → p x ≡ q x) → filter p xs ≡ filter q xs
filter_same p q [] same = refl
filter_same p q (x ∷ xs) same = filter_at (p x) (q x) x (filter p xs) (filter q xs) (same x) (filter_same p q xs same)

pub any_same : {X : Type 0} (p q : X → Bool) (xs : List X) → ((x : X) → p x ≡ q x) → list_any p xs ≡ list_any q xs
any_same p q [] same = refl
any_same p q (x ∷ xs) same = ap (λ b. b || list_any p xs) (same x) ∙ ap (λ b. q x || b) (any_same p q xs same)

-- ---- one test after another

twice_at : {X : Type 0} (q : X → Bool) (b : Bool) (x : X) (xs ys : List X) → filter q xs ≡ ys → filter q (cond b (x ∷ xs) xs) ≡ cond (b && q x) (x ∷ ys) ys
twice_at q true x xs ys is = ap (λ l. cond (q x) (x ∷ l) l) is
twice_at q false x xs ys is = is

pub filter_twice : {X : Type 0} (p q : X → Bool) (xs : List X) → filter q (filter p xs) ≡ filter (λ x. p x && q x) xs
filter_twice p q [] = refl
filter_twice p q (x ∷ xs) = twice_at q (p x) x (filter p xs) (filter (λ x. p x && q x) xs) (filter_twice p q xs)

any_twice_at : {X : Type 0} (q : X → Bool) (b : Bool) (x : X) (xs : List X) (any : Bool) → list_any q xs ≡ any → list_any q (cond b (x ∷ xs) xs) ≡ ((b && q x) || any)
any_twice_at q true x xs any is = ap (λ b. q x || b) is
any_twice_at q false x xs any is = is

pub any_twice : {X : Type 0} (p q : X → Bool) (xs : List X) → list_any q (filter p xs) ≡ list_any (λ x. p x && q x) xs
any_twice p q [] = refl
any_twice p q (x ∷ xs) = any_twice_at q (p x) x (filter p xs) (list_any (λ x. p x && q x) xs) (any_twice p q xs)

-- ---- tests of what a map gives

mapped_at : {X Y : Type 0} (f : X → Y) (b : Bool) (x : X) (xs : List X) (ys : List Y) → ys ≡ map f xs → cond b (f x ∷ ys) ys ≡ map f (cond b (x ∷ xs) xs)
mapped_at f true x xs ys is = ap (λ l. f x ∷ l) is
mapped_at f false x xs ys is = is

pub filter_mapped : {X Y : Type 0} (q : Y → Bool) (f : X → Y) (xs : List X) → filter q (map f xs) ≡ map f (filter (λ x. q (f x)) xs)
filter_mapped q f [] = refl
filter_mapped q f (x ∷ xs) = mapped_at f (q (f x)) x (filter (λ x. q (f x)) xs) (filter q (map f xs)) (filter_mapped q f xs)

-- ---- functions that agree

pub map_same : {X Y : Type 0} (f g : X → Y) (xs : List X) → ((x : X) → f x ≡ g x) → map f xs ≡ map g xs
map_same f g [] same = refl
map_same f g (x ∷ xs) same = ap (λ y. y ∷ map f xs) (same x) ∙ ap (λ ys. g x ∷ ys) (map_same f g xs same)

pub map_passing : {X Y : Type 0} (p : X → Bool) (f g : X → Y) (xs : List X) → list_all p xs ≡ true → ((x : X) → p x ≡ true → f x ≡ g x) → map f xs ≡ map g xs
map_passing p f g [] all same = refl
map_passing p f g (x ∷ xs) all same =
    let parts = and_parts (p x) (list_all p xs) all in
    ap (λ y. y ∷ map f xs) (same x parts.0) ∙ ap (λ ys. g x ∷ ys) (map_passing p f g xs parts.1 same)

-- ---- elements in whose place stand others of which the same is seen

seen_at : {X Y : Type 0} (h : X → Y) (b c : Bool) (x y : X) (xs ys : List X) → b ≡ c → h x ≡ h y → map h xs ≡ map h ys → map h (cond b (x ∷ xs) xs) ≡ map h (cond c (y ∷ ys) ys)
seen_at h true true x y xs ys e same rest = ap (λ z. z ∷ map h xs) same ∙ ap (λ zs. h y ∷ zs) rest
seen_at h false false x y xs ys e same rest = rest
seen_at h true false x y xs ys e same rest = cc
seen_at h false true x y xs ys e same rest = cc

module _ {X Y : Type 0} (p : X → Bool) (h : X → Y) (g : X → X) (tested : (x : X) → p (g x) ≡ p x) (shown : (x : X) → h (g x) ≡ h x) where
  all_seen : (xs : List X) → map h (filter p (map g xs)) ≡ map h (filter p xs)
  all_seen [] = refl
  all_seen (x ∷ xs) = seen_at h (p (g x)) (p x) (g x) x (filter p (map g xs)) (filter p xs) (tested x) (shown x) (all_seen xs)

  pub seen_after : (before xs : List X) → map h (filter p (before ++ map g xs)) ≡ map h (filter p (before ++ xs))
  seen_after [] xs = all_seen xs
  seen_after (b ∷ before) xs = seen_at h (p b) (p b) b b (filter p (before ++ map g xs)) (filter p (before ++ xs)) refl refl (seen_after before xs)

module _ {X : Type 0} (p : X → Bool) (g : X → X) (tested : (x : X) → p (g x) ≡ p x) where
  all_tested : (xs : List X) → list_any p (map g xs) ≡ list_any p xs
  all_tested [] = refl
  all_tested (x ∷ xs) = ap (λ b. b || list_any p (map g xs)) (tested x) ∙ ap (λ b. p x || b) (all_tested xs)

  pub tested_after : (before xs : List X) → list_any p (before ++ map g xs) ≡ list_any p (before ++ xs)
  tested_after [] xs = all_tested xs
  tested_after (b ∷ before) xs = ap (λ c. p b || c) (tested_after before xs)
