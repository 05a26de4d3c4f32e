-- Skip indexes: their entries and files, docs/FORMAT.md, "Skip indexes" (ClickHouse: IMergeTreeIndexGranule). The bytes of a set entry are this project's.
use Rattle.std.specs.Prelude.{◌≡◌, ◌≢◌, ℕ, zero, suc, ◌^◌, ◌<◌, ◌⊎◌, nat_lt, Bool, true, ◌&&◌, if◌then◌else◌, List, [], ◌∷◌, ◌++◌, length, map, take, drop, codes, Some, None, All, AllPairs, IsTrue, IsPermutation}
use Rattle.std.specs.Bool.{MatchBool}
use Rattle.std.specs.List.{flat_map, list_all, list_any, concat}
use Rattle.std.specs.List.Sorted.{IsNonDecreasingBy}
use Rattle.std.specs.Ordering.{is_le, is_eq}
use Rattle.std.specs.Str.{bytes_eq}
use Rattle.mt_types.specs.declared.ty.Ty.{Ty}
use Rattle.mt_types.specs.declared.value.Value.{Value}
use Rattle.mt_types.specs.Fits.{fits_of}
use Rattle.mt_types.specs.Order.{value_cmp}
use Rattle.mt_types.specs.Items.{item_bytes}
use Rattle.mt_table.specs.declared.skip.Skip.{Skip}
use Rattle.mt_table.specs.declared.skip.SkipKind.{SkipKind}
use Rattle.mt_table.specs.declared.skip.SkipKind.TheVariants.{Minmax, Set}
use Rattle.mt_table.specs.declared.definition.Table.{Table}
use Rattle.mt_defs.specs.declared.mark.Mark.{Mark}
use Rattle.mt_defs.specs.Lists.{Pointwise, distinct_by, offsets_from, orders_of}
use Rattle.mt_defs.specs.Folder.{Folder}
use Rattle.mt_defs.specs.Rows.{Row, column_values}
use Rattle.mt_defs.specs.Granules.{granule_rows}
use Rattle.mt_defs.specs.Frames.{IsFramed}
use Rattle.mt_defs.specs.Marks.{MarksPosition, mark_bytes, u64_bytes}
use Rattle.mt_defs.specs.FileNames.{file_name}
use Rattle.mt_defs.specs.Metadata.{column_at}
use Rattle.mt_defs.specs.Partition.{IsMinmaxOf, is_minmax_of}

-- ---- the form of an entry

-- a set entry of some values: their number, and each of them
abbrev pub set_bytes : Ty → List Value → List ℕ
set_bytes ty values = u64_bytes (length values) ++ flat_map (item_bytes ty) values

-- two values, the first not above the second
pub record IsMinmaxEntry (ty : Ty) (bytes : List ℕ) : Type 0 where
  pub low : Value
  pub high : Value
  pub low_fits : IsTrue (fits_of ty low)
  pub high_fits : IsTrue (fits_of ty high)
  pub ordered : is_le (value_cmp low high) ≡ true
  pub encoded : bytes ≡ item_bytes ty low ++ item_bytes ty high

-- a set of values of which no two are equal
pub record IsSetEntry (ty : Ty) (bytes : List ℕ) : Type 0 where
  pub values : List Value
  pub fit : IsTrue (list_all (fits_of ty) values)
  pub distinct : AllPairs (λ a b. a ≢ b) values
  pub few : length values < 2 ^ 64
  pub encoded : bytes ≡ set_bytes ty values

-- the bytes have the form of an entry
abbrev pub IsEntry : SkipKind → Ty → List ℕ → Type 0
IsEntry Minmax ty bytes = IsMinmaxEntry ty bytes
IsEntry (Set max_rows) ty bytes = IsSetEntry ty bytes

-- ---- which entry is the one of some values

-- each value once, where it first appears
abbrev pub distinct_values : List Value → List Value
distinct_values = distinct_by (λ a b. is_eq (value_cmp a b))

-- more distinct values than a set keeps; a set whose limit is 0 keeps all
abbrev pub is_too_many : ℕ → List Value → Bool
is_too_many max_rows values = nat_lt 0 max_rows && nat_lt max_rows (length (distinct_values values))

-- the entry lists the distinct values, in any order
abbrev pub ListsDistinct : Ty → List Value → List ℕ → Type 0
ListsDistinct ty values entry = (listed : List Value) × IsPermutation (distinct_values values) listed × (entry ≡ set_bytes ty listed)

-- the entry is one of these values
abbrev pub Summarizes : SkipKind → Ty → List Value → List ℕ → Type 0
Summarizes Minmax ty values entry = IsMinmaxOf ty values entry
Summarizes (Set max_rows) ty values entry = MatchBool (is_too_many max_rows values) (entry ≡ u64_bytes 0) (ListsDistinct ty values entry)

-- the test that the entry lists the distinct values, in one of their orders
abbrev pub lists_distinct : Ty → List Value → List ℕ → Bool
lists_distinct ty values entry = list_any (λ listed. bytes_eq entry (set_bytes ty listed)) (orders_of (distinct_values values))

-- the test that the entry is one of these values
abbrev pub summarizes : SkipKind → Ty → List Value → List ℕ → Bool
summarizes Minmax ty values entry = is_minmax_of ty values entry
summarizes (Set max_rows) ty values entry = if is_too_many max_rows values then bytes_eq entry (u64_bytes 0) else lists_distinct ty values entry

-- ---- the files

-- granules taken together, so many an entry, the last entry over what is left; no more entries than granules
abbrev pub entry_groups : ℕ → ℕ → List (List Row) → List (List Row)
entry_groups per_entry zero granules = []
entry_groups per_entry (suc most) [] = []
entry_groups per_entry (suc most) (granule ∷ granules) =
    flat_map (λ rows. rows) (take per_entry (granule ∷ granules)) ∷ entry_groups per_entry most (drop per_entry (granule ∷ granules))

-- the rows that each entry is over
abbrev pub entry_rows : Skip → List Row → List ℕ → List (List Row)
entry_rows skip rows granules = entry_groups skip.granularity (length granules) (granule_rows granules rows)

-- the ending of an index's data file, by its kind
abbrev pub data_ending : SkipKind → List ℕ
data_ending Minmax = codes ".idx2"
data_ending (Set max_rows) = codes ".idx"

-- the name of an index's data file
abbrev pub skip_data_name : Skip → List ℕ
skip_data_name skip = codes "skp_idx_" ++ file_name skip.name ++ data_ending skip.kind

-- the name of its marks file, whose ending is that of the part's marks files
abbrev pub skip_marks_name : Skip → List ℕ → List ℕ
skip_marks_name skip marks_ending = codes "skp_idx_" ++ file_name skip.name ++ marks_ending

-- the mark of an entry, and a number that is passed over
pub record SkipMark : Type 0 where
  pub mark : Mark
  pub rows : ℕ

-- the bytes of a mark of an index
abbrev pub skip_mark_bytes : SkipMark → List ℕ
skip_mark_bytes skip_mark = mark_bytes skip_mark.mark ++ u64_bytes skip_mark.rows

-- neither file of an index is there
pub record LacksSkipIndex (skip : Skip) (marks_ending : List ℕ) (folder : Folder) : Type 0 where
  pub no_data : folder (skip_data_name skip) ≡ None
  pub no_marks : folder (skip_marks_name skip marks_ending) ≡ None

-- the two files of an index: an entry, and a mark where it begins, for each of its groups of granules
pub record HasSkipIndex (table : Table) (skip : Skip) (marks_ending : List ℕ) (rows : List Row) (granules : List ℕ) (folder : Folder) : Type 0 where
  pub entries : List (List ℕ)
  pub data_file : List ℕ
  pub marks : List SkipMark
  pub has_data : folder (skip_data_name skip) ≡ Some data_file
  pub has_marks : folder (skip_marks_name skip marks_ending) ≡ Some (flat_map skip_mark_bytes marks)
  pub framed : IsFramed (concat entries) data_file
  pub few_offsets : All (λ skip_mark. skip_mark.mark.offset < 2 ^ 64) marks
  pub positions : Pointwise (λ skip_mark position. MarksPosition data_file skip_mark.mark position) marks (offsets_from 0 (map length entries))
  pub order : IsNonDecreasingBy (λ skip_mark. skip_mark.mark.offset) marks
  pub summaries : Pointwise (λ group entry. Summarizes skip.kind (column_at table.columns skip.column).ty (column_values skip.column group) entry) (entry_rows skip rows granules) entries

-- an index is absent or has its two files
abbrev pub MayHaveSkipIndex : Table → List ℕ → List Row → List ℕ → Folder → Skip → Type 0
MayHaveSkipIndex table marks_ending rows granules folder skip =
    LacksSkipIndex skip marks_ending folder ⊎ HasSkipIndex table skip marks_ending rows granules folder
