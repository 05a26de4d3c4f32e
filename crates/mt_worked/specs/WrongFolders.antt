-- Folders that differ from the worked example's in one thing, and stand for no rows.
use Rattle.std.specs.Prelude.{ℕ, List, [], ◌∷◌, ◌++◌, codes, replicate, drop}
use Rattle.mt_fault.specs.declared.file.FileBytes.{FileBytes}
use Rattle.mt_defs.specs.WrittenColumns.{file}
use Rattle.mt_defs.specs.WorkedExample.{eight, mark_entry, data_of, marks, seven_files}

-- the example's files with this data, these marks and this primary index of the key column
abbrev pub example_with : List ℕ → List ℕ → List ℕ → List FileBytes
example_with key_data key_marks index =
    file (codes "columns.txt") (codes "columns format version: 1\n2 columns:\n`k` UInt64\n`v` UInt64\n")
    ∷ file (codes "count.txt") (codes "3")
    ∷ file (codes "k.bin") key_data
    ∷ file (codes "k.mrk2") key_marks
    ∷ file (codes "primary.idx") index
    ∷ file (codes "v.bin") (data_of 10 20 30)
    ∷ file (codes "v.mrk2") marks
    ∷ []

-- the primary index of the folder
abbrev pub example_index : List ℕ
example_index = eight 1 ++ eight 3 ++ eight 3

-- a file that is no part's, whatever it holds
abbrev pub with_stray_file : List ℕ → List FileBytes
with_stray_file bytes = file (codes "k.bak") bytes ∷ seven_files

-- a primary index without the last row's key
abbrev pub with_short_index : List FileBytes
with_short_index = example_with (data_of 1 2 3) marks (eight 1 ++ eight 3)

-- a header whose first size is one more than its second size and 9
abbrev pub wrong_header : List ℕ
wrong_header = replicate 16 0 ++ 2 ∷ 26 ∷ 0 ∷ 0 ∷ 0 ∷ 16 ∷ 0 ∷ 0 ∷ 0 ∷ []

-- a frame whose two sizes disagree
abbrev pub with_sizes_that_disagree : List FileBytes
with_sizes_that_disagree = example_with (wrong_header ++ drop 25 (data_of 1 2 3)) marks example_index

-- a second row below the first
abbrev pub with_rows_out_of_order : List FileBytes
with_rows_out_of_order = example_with (data_of 2 1 3) marks (eight 2 ++ eight 3 ++ eight 3)

-- the second granule's mark a byte too far
abbrev pub with_mark_off_by_one : List FileBytes
with_mark_off_by_one = example_with (data_of 1 2 3) (mark_entry 0 2 ++ mark_entry 42 1 ++ mark_entry 74 0) example_index
