-- What a file's bytes from an offset on are, by the 25 bytes of the header.
use Rattle.std.proofs.Common.{◌≡◌, ℕ, ◌+◌, ◌<◌, ◌≤◌, ◌^◌, List, [], ◌∷◌, take, drop, refl, ap, sym, ◌∙◌, arith, zero, suc}
use Rattle.std.specs.Prelude.{slice_index}
use Rattle.std.specs.Int.{w32, to_le_bytes}
use Rattle.std.proofs.lemmas.List.{drop-take}
use Rattle.mt_frame.specs.FrameReading.{u32_at}
use Rattle.mt_frame.proofs.HeaderLemmas.{number}

take_of_take : (k m : ℕ) (xs : List ℕ) → k ≤ m → take k (take m xs) ≡ take k xs
take_of_take zero m xs h = refl
take_of_take (suc k) zero xs h = absurd (omega arith)
take_of_take (suc k) (suc m) [] h = refl
take_of_take (suc k) (suc m) (x ∷ xs) h = ap (λ (ys : List ℕ). x ∷ ys) (take_of_take k m xs (omega arith))

index_of_take : (i m : ℕ) (xs : List ℕ) → i < m → slice_index (take m xs) i ≡ slice_index xs i
index_of_take i zero xs h = absurd (omega arith)
index_of_take i (suc m) [] h = refl
index_of_take zero (suc m) (x ∷ xs) h = refl
index_of_take (suc i) (suc m) (x ∷ xs) h = index_of_take i m xs (omega arith)

pub method_in : (bytes header : List ℕ) → take 25 bytes ≡ header → slice_index bytes 16 ≡ slice_index header 16
method_in bytes header is = sym (index_of_take 16 25 bytes (omega arith)) ∙ ap (λ (bs : List ℕ). slice_index bs 16) is

pub number_in : (bytes header : List ℕ) (i m n : ℕ) → i + m ≡ 25 → 4 ≤ m → n < 2 ^ 32 → take 25 bytes ≡ header → to_le_bytes w32 n ≡ take 4 (drop i header) → u32_at i bytes ≡ n
number_in bytes header i m n all long small is says =
    number bytes i n small (says ∙ ap (λ (bs : List ℕ). take 4 (drop i bs)) (sym is) ∙ ap (λ (k : ℕ). take 4 (drop i (take k bytes))) (sym all)
    ∙ ap (λ (bs : List ℕ). take 4 bs) (drop-take i m bytes) ∙ take_of_take 4 m (drop i bytes) long)
