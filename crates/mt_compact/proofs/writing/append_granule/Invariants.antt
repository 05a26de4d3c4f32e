use Rattle.std.proofs.Common.{◌≡◌, ◌++◌, ℕ, List, map, take}
use Rattle.std.specs.List.{enumerate_from}
use Rattle.mt_granules.specs.DataFiles.{data_file_of}
use Rattle.mt_compact.proofs.WrittenLemmas.{column_frames}
use Rattle.mt_compact.proofs.writing.append_granule.Given as goal

abbrev pub invariant-loop-column_index : goal.invariant-loop-column_index
invariant-loop-column_index l = (runs : List (List ℕ)) → l.initial.file ≡ data_file_of runs → l.file ≡ data_file_of (runs ++ map (column_frames l.rows) (take l.column_index (enumerate_from 0 l.columns)))
