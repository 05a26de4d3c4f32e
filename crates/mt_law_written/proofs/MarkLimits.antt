-- The writer's marks files are short: a part has few columns and few rows.
use Rattle.std.proofs.Common.{ℕ, ◌+◌, ◌*◌, ◌≤◌, ◌<◌, ◌^◌, List, length, arith}
use Rattle.std.specs.Prelude.{All}
use Rattle.mt_facts.proofs.Numbers.{length_within_sum}
use Rattle.mt_table.specs.declared.limits.TheConstants.{MAX_CELLS, MAX_ROWS}
use Rattle.mt_defs.specs.Granules.{AreGranules}
use Rattle.mt_defs.specs.Rows.{Row}
use Rattle.mt_defs.specs.WrittenFrames.{written_marks_bytes}
use Rattle.mt_law_written.proofs.MarkSizes.{marks_size}

pub few_granules : (granules : List ℕ) (rows : List Row) → AreGranules granules rows → length granules ≤ length rows
few_granules granules rows cut = omega (arith, length_within_sum granules cut.not_empty, cut.all)

-- 16 bytes for each mark and 8 for the rows, of each granule and of the end
pub marks_short : (per_granule : ℕ) (sizes : List (List ℕ)) (granules : List ℕ) → per_granule ≤ MAX_CELLS → length granules ≤ MAX_ROWS → All (λ run. length run ≤ per_granule) sizes
    → length (written_marks_bytes per_granule sizes granules) < 2 ^ 64
marks_short per_granule sizes granules narrow few runs =
    let size = marks_size per_granule (16 * MAX_CELLS + 8) (omega (arith, narrow)) sizes granules runs in
    omega (arith, few, size)
