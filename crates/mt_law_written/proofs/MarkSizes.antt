-- The sizes of the writer's marks files: an entry has 16 bytes for each mark, and 8 for the rows.
use Rattle.std.proofs.Common.{◌≡◌, ℕ, suc, ◌+◌, ◌*◌, ◌≤◌, List, [], ◌∷◌, ◌++◌, length, map, refl, ap, arith, length-append, ◌∙◌}
use Rattle.std.specs.Prelude.{All, replicate, sum}
use Rattle.std.specs.List.{flat_map}
use Rattle.std.proofs.Math.Nat.{mul-suc}
use Rattle.std.proofs.lemmas.List.{length-replicate}
use Rattle.std.proofs.lemmas.List.Elements.{All-head, All-tail}
use Rattle.mt_defs.specs.Lists.{offsets_from}
use Rattle.mt_defs.specs.Marks.{entry_bytes, granule_starts, mark_bytes, marks_bytes, u64_bytes}
use Rattle.mt_defs.specs.WrittenFrames.{mark_at, written_marks_bytes}
use Rattle.mt_granules.proofs.DataFileLemmas.{length-offsets}

-- ---- the marks of a granule

run_size : (offsets : List ℕ) → length (flat_map mark_bytes (map mark_at offsets)) ≡ 16 * length offsets
run_size [] = refl
run_size (offset ∷ offsets) =
    let rest = run_size offsets in
    let all = length-append (mark_bytes (mark_at offset)) (flat_map mark_bytes (map mark_at offsets)) in
    omega (arith, rest, all)

entry_size : (offsets : List ℕ) (count : ℕ) → length (entry_bytes (map mark_at offsets) count) ≡ 16 * length offsets + 8
entry_size offsets count =
    let all = length-append (flat_map mark_bytes (map mark_at offsets)) (u64_bytes count) in
    omega (arith, all, run_size offsets)

-- ---- the marks file

-- entries of at most so many bytes, for runs of at most so many sizes
entries_size : (per_granule entry : ℕ) → 16 * per_granule + 8 ≤ entry → (offset end : ℕ) (sizes : List (List ℕ)) (counts : List ℕ) → All (λ run. length run ≤ per_granule) sizes
    → length (marks_bytes (map (map mark_at) (granule_starts offset sizes ++ replicate per_granule end ∷ [])) counts) ≤ entry * length counts
entries_size per_granule entry enough offset end [] [] few = omega arith
entries_size per_granule entry enough offset end [] (count ∷ counts) few =
    let last = entry_size (replicate per_granule end) count in
    let all = length-append (entry_bytes (map mark_at (replicate per_granule end)) count) [] in
    omega (arith, enough, last, all, length-replicate per_granule end, mul-suc entry (length counts))
entries_size per_granule entry enough offset end (run ∷ sizes) [] few = omega arith
entries_size per_granule entry enough offset end (run ∷ sizes) (count ∷ counts) few =
    let first = All-head (λ run. length run ≤ per_granule) run sizes few in
    let here = entry_size (offsets_from offset run) count in
    let rest = entries_size per_granule entry enough (offset + sum run) end sizes counts (All-tail (λ run. length run ≤ per_granule) run sizes few) in
    let later = marks_bytes (map (map mark_at) (granule_starts (offset + sum run) sizes ++ replicate per_granule end ∷ [])) counts in
    let all = length-append (entry_bytes (map mark_at (offsets_from offset run)) count) later in
    omega (arith, enough, first, here, rest, all, length-offsets offset run, mul-suc entry (length counts))

-- an entry for each granule, and one for the end
pub marks_size : (per_granule entry : ℕ) → 16 * per_granule + 8 ≤ entry → (sizes : List (List ℕ)) (granules : List ℕ) → All (λ run. length run ≤ per_granule) sizes
    → length (written_marks_bytes per_granule sizes granules) ≤ entry * length granules + entry
marks_size per_granule entry enough sizes granules few =
    let counted : length (granules ++ 0 ∷ []) ≡ suc (length granules) = length-append granules (0 ∷ []) ∙ omega arith in
    let size = entries_size per_granule entry enough 0 (sum (map sum sizes)) sizes (granules ++ 0 ∷ []) few in
    omega (arith, size, ap (λ n. entry * n) counted, mul-suc entry (length granules))
