-- A worked example: three rows of two UInt64 columns, and the seven files that the writer makes of them (docs/FORMAT.md, "An example").
use Rattle.std.specs.Prelude.{ℕ, ◌+◌, pos, List, [], ◌∷◌, ◌++◌, codes, replicate}
use Rattle.std.proofs.Common.{inl, refl}
use Rattle.mt_types.specs.declared.ty.Ty.TheVariants.{UInt}
use Rattle.mt_types.specs.declared.ty.Width.TheVariants.{W64}
use Rattle.mt_types.specs.declared.value.Value.TheVariants.{Num}
use Rattle.mt_fault.specs.declared.file.FileBytes.{FileBytes}
use Rattle.mt_table.specs.declared.column.Column.{Column}
use Rattle.mt_table.specs.declared.settings.Settings.{Settings}
use Rattle.mt_table.specs.declared.definition.Table.{Table}
use Rattle.mt_table.proofs.NumbersKept.{numbers_keep}
use Rattle.mt_defs.specs.Rows.{Row}
use Rattle.mt_defs.specs.WrittenColumns.{file}

-- a column of UInt64
abbrev pub u64_column : List ℕ → Column
u64_column name = record { name = name; ty = UInt W64 }

-- two rows a granule, Wide however small
abbrev pub settings : Settings
settings = record { granule_rows = 2; granule_bytes = 10485760; wide_bytes = 0; wide_rows = 0 }

-- the table of the example
abbrev pub table : Table
table = record {
  name = codes "t";
  columns = u64_column (codes "k") ∷ u64_column (codes "v") ∷ [];
  partition = [];
  sort = 0 ∷ [];
  primary = 1;
  skips = [];
  projections = [];
  settings = settings;
  rules = numbers_keep (codes "t") (codes "k") (codes "v") 0 2 10485760 refl refl refl refl (inl refl) refl;
}

-- a row of two numbers
abbrev pub row : ℕ → ℕ → Row
row k v = Num (pos k) ∷ Num (pos v) ∷ []

-- the rows as they are given
abbrev pub input : List Row
input = row 3 30 ∷ row 1 10 ∷ row 2 20 ∷ []

-- the same in key order
abbrev pub rows : List Row
rows = row 1 10 ∷ row 2 20 ∷ row 3 30 ∷ []

-- a number below 256 in eight bytes
abbrev pub eight : ℕ → List ℕ
eight n = n ∷ 0 ∷ 0 ∷ 0 ∷ 0 ∷ 0 ∷ 0 ∷ 0 ∷ []

-- the header of a frame whose payload has `size` bytes
abbrev pub header : ℕ → List ℕ
header size = replicate 16 0 ++ 2 ∷ (size + 9) ∷ 0 ∷ 0 ∷ 0 ∷ size ∷ 0 ∷ 0 ∷ 0 ∷ []

-- an entry of a marks file: a frame that begins at an offset, and a number of rows
abbrev pub mark_entry : ℕ → ℕ → List ℕ
mark_entry offset count = eight offset ++ eight 0 ++ eight count

-- the data file of a column with these three values
abbrev pub data_of : ℕ → ℕ → ℕ → List ℕ
data_of a b c = header 16 ++ eight a ++ eight b ++ header 8 ++ eight c

-- the marks file of both columns
abbrev pub marks : List ℕ
marks = mark_entry 0 2 ++ mark_entry 41 1 ++ mark_entry 74 0

-- the files of the folder
abbrev pub seven_files : List FileBytes
seven_files =
    file (codes "columns.txt") (codes "columns format version: 1\n2 columns:\n`k` UInt64\n`v` UInt64\n")
    ∷ file (codes "count.txt") (codes "3")
    ∷ file (codes "k.bin") (data_of 1 2 3)
    ∷ file (codes "k.mrk2") marks
    ∷ file (codes "primary.idx") (eight 1 ++ eight 3 ++ eight 3)
    ∷ file (codes "v.bin") (data_of 10 20 30)
    ∷ file (codes "v.mrk2") marks
    ∷ []
