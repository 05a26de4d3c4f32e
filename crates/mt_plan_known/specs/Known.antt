-- What planning knows of a folder: its granules, and the primary key at each: docs/LANGUAGE.md, "Plans".
use Rattle.std.specs.Prelude.{◌≡◌, ℕ, ◌+◌, ◌≤◌, Bool, if◌then◌else◌, List, [], ◌∷◌, ◌++◌, length, map, sum, Some, All, Ok}
use Rattle.mt_table.specs.declared.definition.PartDef.{PartDef}
use Rattle.mt_defs.specs.Folder.{Folder}
use Rattle.mt_defs.specs.Part.{is_compact}
use Rattle.mt_defs.specs.PrimaryIndex.{index_name}
use Rattle.mt_defs.specs.Rows.{Row}
use Rattle.mt_granules.specs.FileFaults.{file_reading}
use Rattle.mt_marks.specs.Entries.{Entry}
use Rattle.mt_marks.specs.MarkReading.{entries_reading}
use Rattle.mt_meta.specs.KeyReading.{AreKeysOf, key_types}
use Rattle.mt_files.specs.PartTexts.{order_reading, row_count_reading}
use Rattle.mt_plan_files.specs.Planned.{granules_name}
use Rattle.mt_plan_known.specs.declared.known.Known.{Known}

-- the rows of the entries of a marks file are those of the granules, of which each has a row, and then none; they are so many together
pub record AreMarked (count : ℕ) (rows granules : List ℕ) : Type 0 where
  pub ended : rows ≡ granules ++ 0 ∷ []
  pub some : All (λ n. 1 ≤ n) granules
  pub all : sum granules ≡ count

-- how many marks an entry has, in the file that tells the granules: one for each column that is listed, or one
abbrev pub marks_each : (order : List ℕ) → (compact : Bool) → ℕ
marks_each order compact = if compact then length order else 1

-- the marks file of a folder that lists these columns tells these granules, of so many rows
pub record TellsGranules (definition : PartDef) (folder : Folder) (order : List ℕ) (count : ℕ) (granules : List ℕ) : Type 0 where
  pub bytes : List ℕ
  pub entries : List Entry
  pub has : file_reading folder (granules_name definition.columns order (is_compact folder)) ≡ Ok bytes
  pub reads : entries_reading (marks_each order (is_compact folder)) bytes ≡ Some entries
  pub marked : AreMarked count (map (λ entry. entry.rows) entries) granules

-- primary.idx has these keys, so many
pub record TellsKeys (definition : PartDef) (folder : Folder) (count : ℕ) (keys : List Row) : Type 0 where
  pub bytes : List ℕ
  pub has : file_reading folder index_name ≡ Ok bytes
  pub are : AreKeysOf (key_types definition) count bytes keys

-- the folder's granules and keys: a key for the first row of each granule, and one for the last row of all
pub record IsKnown (definition : PartDef) (folder : Folder) (known : Known) : Type 0 where
  pub order : List ℕ
  pub count : ℕ
  pub lists : order_reading definition folder ≡ Ok order
  pub counts : row_count_reading definition folder ≡ Ok count
  pub granules : TellsGranules definition folder order count known.granules
  pub keys : TellsKeys definition folder (length known.granules + 1) known.keys
