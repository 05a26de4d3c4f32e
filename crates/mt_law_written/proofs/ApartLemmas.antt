-- Files of different names, where lists of files are put together.
use Rattle.std.proofs.Common.{◌≡◌, ◌≢◌, ℕ, ◌+◌, true, false, List, [], ◌∷◌, ◌++◌, map, get_or, ap, sym, ◌∙◌}
use Rattle.std.specs.Prelude.{All}
use Rattle.std.specs.List.{flat_map, enumerate_from}
use Rattle.std.proofs.lemmas.List.Elements.{All-nil, All-cons, All-head, All-tail, All-weaker}
use Rattle.mt_fault.specs.declared.file.FileBytes.{FileBytes}
use Rattle.mt_law_written.proofs.LookupLemmas.{Apart, AreApart, other_name}
use Rattle.mt_law_written.proofs.ListLemmas.{All-to_flat_map, All-mapped, All-of_map}

-- ---- each element and each later one

abbrev pub EachLater : {X : Type 0} → (X → X → Type 0) → List X → Type 0
EachLater R [] = Unit {0}
EachLater R (x ∷ xs) = All (R x) xs × EachLater R xs

-- no element stands twice
abbrev pub Differ : {X : Type 0} → List X → Type 0
Differ = EachLater (λ x y. x ≢ y)

pub later_weaker : {X : Type 0} (R S : X → X → Type 0) → ((x y : X) → R x y → S x y) → (xs : List X) → EachLater R xs → EachLater S xs
later_weaker R S f [] each = tt
later_weaker R S f (x ∷ xs) each = (All-weaker (R x) (S x) (f x) xs each.0, later_weaker R S f xs each.1)

pub later_mapped : {X Y : Type 0} (R : Y → Y → Type 0) (f : X → Y) (xs : List X) → EachLater (λ x y. R (f x) (f y)) xs → EachLater R (map f xs)
later_mapped R f [] each = tt
later_mapped R f (x ∷ xs) each = (All-mapped (R (f x)) f xs each.0, later_mapped R f xs each.1)

pub later_unmapped : {X Y : Type 0} (R : Y → Y → Type 0) (f : X → Y) (xs : List X) → EachLater R (map f xs) → EachLater (λ x y. R (f x) (f y)) xs
later_unmapped R f [] each = tt
later_unmapped R f (x ∷ xs) each = (All-of_map (R (f x)) f xs each.0, later_unmapped R f xs each.1)

pub All-numbered : {X : Type 0} (P : X → Type 0) (n : ℕ) (xs : List X) → All P xs → All (λ p. P p.1) (enumerate_from n xs)
All-numbered P n [] all = All-nil _
All-numbered P n (x ∷ xs) all = All-cons (λ p. P p.1) (n, x) (enumerate_from (n + 1) xs) (All-head P x xs all) (All-numbered P (n + 1) xs (All-tail P x xs all))

pub later_numbered : {X : Type 0} (R : X → X → Type 0) (n : ℕ) (xs : List X) → EachLater R xs → EachLater (λ p q. R p.1 q.1) (enumerate_from n xs)
later_numbered R n [] each = tt
later_numbered R n (x ∷ xs) each = (All-numbered (R x) (n + 1) xs each.0, later_numbered R (n + 1) xs each.1)

-- ---- files

-- no file of these has the name
abbrev pub Unnamed : List ℕ → List FileBytes → Type 0
Unnamed name = All (λ file. name ≢ file.name)

-- no file of the ones is named as one of the others
abbrev pub Across : List FileBytes → List FileBytes → Type 0
Across some others = All (λ file. Unnamed file.name others) some

apart_of : (file : FileBytes) (files : List FileBytes) → Unnamed file.name files → Apart file files
apart_of file [] none = tt
apart_of file (other ∷ files) none =
    let P : FileBytes → Type 0 = λ g. file.name ≢ g.name in
    (other_name file.name other.name (All-head P other files none), apart_of file files (All-tail P other files none))

pub apart_each : (files : List FileBytes) → EachLater (λ f g. f.name ≢ g.name) files → AreApart files
apart_each [] each = tt
apart_each (file ∷ files) each = (apart_of file files each.0, apart_each files each.1)

join_apart : (file : FileBytes) (some others : List FileBytes) → Apart file some → Unnamed file.name others → Apart file (some ++ others)
join_apart file [] others apart none = apart_of file others none
join_apart file (next ∷ some) others apart none = (apart.0, join_apart file some others apart.1 none)

pub apart_appended : (some others : List FileBytes) → AreApart some → AreApart others → Across some others → AreApart (some ++ others)
apart_appended [] others one two across = two
apart_appended (file ∷ some) others one two across =
    let P : FileBytes → Type 0 = λ f. Unnamed f.name others in
    (join_apart file some others one.0 (All-head P file some across), apart_appended some others one.1 two (All-tail P file some across))

pub across_flat : {X : Type 0} (f : X → List FileBytes) (files : List FileBytes) (xs : List X) → All (λ x. Across files (f x)) xs → Across files (flat_map f xs)
across_flat f files xs all k d inside = All-to_flat_map (λ file. (get_or files k d).name ≢ file.name) f xs (λ j e within. all j e within k d inside)

-- the files of different things
pub apart_flat : {X : Type 0} (f : X → List FileBytes) (xs : List X) → All (λ x. AreApart (f x)) xs → EachLater (λ x y. Across (f x) (f y)) xs → AreApart (flat_map f xs)
apart_flat f [] each later = tt
apart_flat f (x ∷ xs) each later =
    apart_appended (f x) (flat_map f xs) (All-head (λ x. AreApart (f x)) x xs each) (apart_flat f xs (All-tail (λ x. AreApart (f x)) x xs each) later.1) (across_flat f (f x) xs later.0)

-- ---- names told apart by what is read of them

-- what is read of each name is the same
abbrev pub Labelled : {L : Type 0} → (List ℕ → L) → L → List FileBytes → Type 0
Labelled label value = All (λ file. label file.name ≡ value)

pub across_labels : {L : Type 0} (label : List ℕ → L) (a b : L) (some others : List FileBytes) → a ≢ b → Labelled label a some → Labelled label b others → Across some others
across_labels label a b some others differ one two =
    All-weaker (λ f. label f.name ≡ a) (λ f. Unnamed f.name others) (λ f is_a.
    All-weaker (λ g. label g.name ≡ b) (λ g. f.name ≢ g.name) (λ g is_b same. differ (sym is_a ∙ ap label same ∙ is_b)) others two) some one

pub no : false ≢ true
no e = cc

pub yes : true ≢ false
yes e = cc
