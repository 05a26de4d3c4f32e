-- Sums of sizes, and products of widths and counts.
use Rattle.std.proofs.Common.{◌≡◌, ℕ, ◌+◌, ◌*◌, ◌≤◌, List, [], ◌∷◌, length, take, drop, ap, sym, ◌∙◌, arith, length-append}
use Rattle.std.specs.Prelude.{All}
use Rattle.std.specs.List.{flat_map, sum_by}
use Rattle.std.proofs.Math.Nat.{mul-add, mul_comm}
use Rattle.std.proofs.lemmas.List.{take-append-drop}
use Rattle.std.proofs.lemmas.List.Concat.{length-flat_map}
use Rattle.std.proofs.lemmas.List.Elements.{All-cons, All-head, All-nil, All-tail}
use Rattle.std.proofs.lemmas.List.Sums.{sum_by-cons, sum_by-le}

-- runs of bytes, each of at most so many
pub runs_size : {X : Type 0} (f : X → List ℕ) (width : ℕ) (xs : List X) → All (λ x. length (f x) ≤ width) xs → length (flat_map f xs) ≤ width * length xs
runs_size f width xs each =
    let size : length (flat_map f xs) ≡ sum_by (λ x. length (f x)) xs = length-flat_map f xs in
    let few : sum_by (λ x. length (f x)) xs ≤ length xs * width = sum_by-le (λ x. length (f x)) width xs each in
    omega (arith, size, few, mul_comm width (length xs))

-- sums of which each term of one is at most so often that of the other
pub sum_by-times : {X : Type 0} (f g : X → ℕ) (width : ℕ) (xs : List X) → All (λ x. f x ≤ width * g x) xs → sum_by f xs ≤ width * sum_by g xs
sum_by-times f g width [] each = omega arith
sum_by-times f g width (x ∷ xs) each =
    let here : f x ≤ width * g x = All-head (λ x. f x ≤ width * g x) x xs each in
    let rest = sum_by-times f g width xs (All-tail (λ x. f x ≤ width * g x) x xs each) in
    omega (arith, here, rest, sum_by-cons f x xs, ap (λ n. width * n) (sum_by-cons g x xs))

-- no term is above the sum
pub sum_by-each : {X : Type 0} (f : X → ℕ) (limit : ℕ) (xs : List X) → sum_by f xs ≤ limit → All (λ x. f x ≤ limit) xs
sum_by-each f limit [] few = All-nil (λ x. f x ≤ limit)
sum_by-each f limit (x ∷ xs) few =
    let all = sum_by-cons f x xs in
    All-cons (λ x. f x ≤ limit) x xs (omega (arith, few, all)) (sum_by-each f limit xs (omega (arith, few, all)))

-- so many bytes for each element of a list that is cut in two
pub cut_size : {X : Type 0} (width count : ℕ) (xs : List X) → width * length (take count xs) + width * length (drop count xs) ≡ width * length xs
cut_size width count xs =
    sym (mul-add width (length (take count xs)) (length (drop count xs)))
    ∙ ap (λ n. width * n) (sym (length-append (take count xs) (drop count xs)) ∙ ap length (take-append-drop count xs))
