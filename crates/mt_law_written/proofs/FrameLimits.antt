-- The writer's frames have at most 26 bytes for each byte of their payloads.
use Rattle.std.proofs.Common.{◌≡◌, ℕ, zero, suc, ◌+◌, ◌*◌, ◌≤◌, List, [], ◌∷◌, ◌++◌, length, map, take, drop, get_or, refl, ap, sym, ◌∙◌, arith, length-append}
use Rattle.std.specs.Prelude.{sum}
use Rattle.std.specs.List.{concat, flat_map}
use Rattle.std.proofs.lemmas.List.{take-append-drop}
use Rattle.std.proofs.lemmas.List.Sums.{sum_by-cons}
use Rattle.mt_defs.specs.Granules.{granule_rows}
use Rattle.mt_defs.specs.Rows.{Row}
use Rattle.mt_defs.specs.WrittenFrames.{written_frames}
use Rattle.mt_law_written.proofs.FrameSizes.{frames_size}

-- a frame has at least a byte of the payload
pub framed_size : (payload : List ℕ) → length (written_frames payload) ≤ 26 * length payload
framed_size payload = omega (arith, frames_size (length payload) payload (omega arith))

-- ---- substreams

-- a substream is not longer than all together
pub stream_size : (streams : List (List ℕ)) (i : ℕ) → length (get_or streams i []) ≤ sum (map length streams)
stream_size [] i = omega arith
stream_size (stream ∷ streams) zero = omega (arith, sum_by-cons (λ n. n) (length stream) (map length streams))
stream_size (stream ∷ streams) (suc i) = omega (arith, stream_size streams i, sum_by-cons (λ n. n) (length stream) (map length streams))

-- all of them, one after another
joined_size : (streams : List (List ℕ)) → length (concat streams) ≡ sum (map length streams)
joined_size [] = refl
joined_size (stream ∷ streams) =
    let all = length-append stream (concat streams) in
    let total = sum_by-cons (λ n. n) (length stream) (map length streams) in
    omega (arith, all, total, joined_size streams)

-- runs of frames, each of some substreams one after another
pub framed_runs_size : {X : Type 0} (streams : X → List (List ℕ)) (xs : List X)
    → length (concat (map (λ x. written_frames (concat (streams x))) xs)) ≤ 26 * sum (map (λ x. sum (map length (streams x))) xs)
framed_runs_size streams [] = omega arith
framed_runs_size streams (x ∷ xs) =
    let run = written_frames (concat (streams x)) in
    let all = length-append run (concat (map (λ x. written_frames (concat (streams x))) xs)) in
    let total = sum_by-cons (λ n. n) (sum (map length (streams x))) (map (λ x. sum (map length (streams x))) xs) in
    omega (arith, all, total, framed_size (concat (streams x)), joined_size (streams x), framed_runs_size streams xs)

-- ---- granules

-- a size of rows that is the sum of the sizes of their parts
abbrev pub IsAdditive : (List Row → ℕ) → Type 0
IsAdditive size = (xs ys : List Row) → size (xs ++ ys) ≡ size xs + size ys

-- what is made of each granule has at most 26 bytes for each byte of the granule
pub framed_granules_size : (size : List Row → ℕ) → IsAdditive size → (f : List Row → List ℕ) → ((granule : List Row) → length (f granule) ≤ 26 * size granule) → (granules : List ℕ) (rows : List Row)
    → length (flat_map f (granule_rows granules rows)) ≤ 26 * size rows
framed_granules_size size additive f each [] rows = omega arith
framed_granules_size size additive f each (count ∷ granules) rows =
    let rest = framed_granules_size size additive f each granules (drop count rows) in
    let all = length-append (f (take count rows)) (flat_map f (granule_rows granules (drop count rows))) in
    let whole : size rows ≡ size (take count rows) + size (drop count rows) = ap size (sym (take-append-drop count rows)) ∙ additive (take count rows) (drop count rows) in
    omega (arith, each (take count rows), rest, all, whole)
