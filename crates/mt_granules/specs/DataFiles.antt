-- A data file whose payloads are framed one by one, with a mark at the start of each: docs/FORMAT.md, "Frames" and "Marks".
use Rattle.std.specs.Prelude.{◌≡◌, ℕ, List, length, map, All}
use Rattle.std.specs.List.{concat, flat_map}
use Rattle.mt_defs.specs.Lists.{offsets_from}
use Rattle.mt_defs.specs.WrittenFrames.{mark_at, written_marks_bytes}
use Rattle.mt_granules.specs.declared.data_file.DataFile.{DataFile}
use Rattle.mt_granules.specs.declared.data_file.MarkedData.{MarkedData}

-- the data file of some runs of frames, with a mark at the start of each run
abbrev pub data_file_of : List (List ℕ) → DataFile
data_file_of runs = record { bytes = concat runs; marks = map mark_at (offsets_from 0 (map length runs)) }

-- the runs of frames of each granule, one for each of its marks
pub record AreRunsOf (per_granule : ℕ) (runs : List (List (List ℕ))) (granules : List ℕ) : Type 0 where
  pub complete : All (λ granule. length granule ≡ per_granule) runs
  pub one_each : length runs ≡ length granules

-- all runs, one granule after another
abbrev pub all_runs : List (List (List ℕ)) → List (List ℕ)
all_runs granules = flat_map (λ runs. runs) granules

-- the two files of these runs of frames
abbrev pub marked_data : ℕ → List (List (List ℕ)) → List ℕ → MarkedData
marked_data per_granule runs granules = record { bytes = concat (map concat runs); marks = written_marks_bytes per_granule (map (map length) runs) granules }
