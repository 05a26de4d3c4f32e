-- Bytes cut into items of one size.
use Rattle.std.proofs.Common.{◌≡◌, ℕ, zero, suc, ◌+◌, ◌*◌, ◌<◌, ◌≤◌, List, [], ◌∷◌, ◌++◌, length, get_or, take, drop, refl, ap, ap₂, sym, ◌∙◌, arith, length-drop}
use Rattle.std.proofs.lemmas.List.{drop-drop, take-append-le, drop-append-le, nil_from_length, take-take, drop-take}
use Rattle.mt_cells.specs.Kinds.{chunks}

pub length-chunks : (size count : ℕ) (bytes : List ℕ) → length (chunks size count bytes) ≡ count
unfolding chunks
length-chunks size zero bytes = refl
length-chunks size (suc count) bytes = ap suc (length-chunks size count (drop size bytes))

-- the item of an index
pub chunks_at : (size count i : ℕ) (bytes d : List ℕ) → i < count → get_or (chunks size count bytes) i d ≡ take size (drop (i * size) bytes)
unfolding chunks
chunks_at size zero i bytes d h = absurd (omega arith)
chunks_at size (suc count) zero bytes d h =
    let none : 0 ≡ zero * size = omega arith in
    ap (λ (k : ℕ). take size (drop k bytes)) none
chunks_at size (suc count) (suc i) bytes d h =
    let next : size + i * size ≡ suc i * size = omega arith in
    chunks_at size count i (drop size bytes) d (omega arith) ∙ ap (take size) (drop-drop (i * size) size bytes ∙ ap (λ (k : ℕ). drop k bytes) next)

-- more items behind
pub chunks-append : (size m n : ℕ) (a b : List ℕ) → length a ≡ m * size → chunks size (m + n) (a ++ b) ≡ chunks size m a ++ chunks size n b
unfolding chunks
chunks-append size zero n a b h =
    let same : zero + n ≡ n = omega arith in
    let none : a ≡ [] = nil_from_length a (omega arith) in
    ap (λ (k : ℕ). chunks size k (a ++ b)) same ∙ ap (λ (xs : List ℕ). chunks size n (xs ++ b)) none
chunks-append size (suc m) n a b h =
    let more : suc m + n ≡ suc (m + n) = omega arith in
    let long : size ≤ length a = omega arith in
    let left : length (drop size a) ≡ m * size = omega (arith, length-drop size a) in
    ap (λ (k : ℕ). chunks size k (a ++ b)) more
    ∙ ap₂ ◌∷◌ (take-append-le size a b long) (ap (chunks size (m + n)) (drop-append-le size a b long) ∙ chunks-append size m n (drop size a) b left)

-- the items from an index on
pub chunks-drop : (size k n : ℕ) (bytes : List ℕ) → drop k (chunks size (k + n) bytes) ≡ chunks size n (drop (k * size) bytes)
unfolding chunks
chunks-drop size zero n bytes =
    let same : zero + n ≡ n = omega arith in
    let none : 0 ≡ zero * size = omega arith in
    ap (λ (k : ℕ). chunks size k bytes) same ∙ ap (λ (k : ℕ). chunks size n (drop k bytes)) none
chunks-drop size (suc k) n bytes =
    let more : suc k + n ≡ suc (k + n) = omega arith in
    let next : size + k * size ≡ suc k * size = omega arith in
    ap (λ (m : ℕ). drop (suc k) (chunks size m bytes)) more
    ∙ chunks-drop size k n (drop size bytes)
    ∙ ap (chunks size n) (drop-drop (k * size) size bytes ∙ ap (λ (m : ℕ). drop m bytes) next)

-- the items before an index
pub chunks-take : (size k n : ℕ) (bytes : List ℕ) → take k (chunks size (k + n) bytes) ≡ chunks size k (take (k * size) bytes)
unfolding chunks
chunks-take size zero n bytes = refl
chunks-take size (suc k) n bytes =
    let more : suc k + n ≡ suc (k + n) = omega arith in
    let next : suc k * size ≡ size + k * size = omega arith in
    let within : size ≤ suc k * size = omega arith in
    ap (λ (m : ℕ). take (suc k) (chunks size m bytes)) more
    ∙ ap₂ ◌∷◌ (sym (take-take size (suc k * size) bytes within))
    (chunks-take size k n (drop size bytes) ∙ ap (chunks size k) (sym (ap (λ (m : ℕ). drop size (take m bytes)) next ∙ drop-take size (k * size) bytes)))
