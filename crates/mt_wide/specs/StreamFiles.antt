-- The files of a column's substreams, by their index.
use Rattle.std.specs.Prelude.{ℕ, List}
use Rattle.mt_fault.specs.declared.file.FileBytes.{FileBytes}
use Rattle.mt_defs.specs.Wide.{stream_payloads}
use Rattle.mt_defs.specs.WrittenColumns.{stream_files}

-- the two files of the substream of this index and name, where the column's substreams in each granule are given
abbrev pub numbered_files : List ℕ → List (List (List ℕ)) → ℕ × List ℕ → List FileBytes
numbered_files granules streams (stream_index, name) = stream_files granules name (stream_payloads stream_index streams)
