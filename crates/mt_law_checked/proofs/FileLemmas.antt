-- columns.txt, count.txt and primary.idx, read exactly.
use Rattle.std.proofs.Common.{◌≡◌, ℕ, List, length, map, take, ap, sym, ◌∙◌, subst}
use Rattle.std.specs.Prelude.{All, ◌↔◌, Some, Result, Ok, Err}
use Rattle.mt_fault.specs.declared.fault.Fault.{Fault}
use Rattle.mt_types.specs.Steps.{◌>>=◌}
use Rattle.mt_types.proofs.StepLemmas.{ok_then, then_of}
use Rattle.mt_table.specs.declared.column.Column.{Column}
use Rattle.mt_table.specs.declared.definition.PartDef.{PartDef}
use Rattle.mt_defs.specs.Folder.{Folder}
use Rattle.mt_defs.specs.Lists.{AreBytes}
use Rattle.mt_defs.specs.Metadata.{column_at, columns_name, count_name}
use Rattle.mt_defs.specs.PrimaryIndex.{index_name, index_rows, key_bytes, primary_index_of}
use Rattle.mt_defs.specs.Rows.{RowFits}
use Rattle.mt_meta.specs.declared.count.CountWhy.{CountWhy}
use Rattle.mt_meta.specs.declared.count.CountWhy.TheVariants.{Syntax, TooLong}
use Rattle.mt_meta.specs.ColumnsReading.{CanBeListed, Lists, columns_reading}
use Rattle.mt_meta.specs.CountReading.{Counts, count_reading}
use Rattle.mt_fault.specs.Faults.{blame, file_fault}
use Rattle.mt_definition.specs.declared.accepted.Accepted.{Accepted}
use Rattle.mt_files.specs.PartTexts.{count_why, order_reading, row_count_reading}
use Rattle.mt_definition.specs.DefinitionReading.{index_keys, index_reading}
use Rattle.mt_granules.specs.FileFaults.{file_reading}
use Rattle.mt_granules.proofs.FileByteLemmas.{file_is_read, file_was_read}
use Rattle.mt_files.proofs.TextLemmas.{ListsAre, read_in}
use Rattle.mt_definition.specs.RowsReading.{keys_reading}
use Rattle.mt_law_checked.specs.Readable.{HasByteName}
use Rattle.mt_law_checked.proofs.ByteLemmas.{index_is_bytes}
use Rattle.mt_law_checked.proofs.IndexLemmas.{keys_read, read_keys}
use Rattle.mt_law_checked.proofs.TextBytes.{columns_bytes, decimal_bytes}

-- ---- a file

-- what is read of a file
pub record ReadOf {A : Type 0} (folder : Folder) (name : List ℕ) (reading : List ℕ → Result A Fault) (x : A) : Type 0 where
  pub bytes : List ℕ
  pub there : folder name ≡ Some bytes
  pub reads : reading bytes ≡ Ok x

read_of : {A : Type 0} (folder : Folder) (name : List ℕ) (reading : List ℕ → Result A Fault) (x : A) → (file_reading folder name >>= reading) ≡ Ok x → ReadOf folder name reading x
read_of folder name reading x e = ok_then (file_reading folder name) reading x e (λ bytes is e. record { bytes = bytes; there = (file_was_read folder name bytes is).has; reads = e })

of_read : {A : Type 0} (folder : Folder) (name : List ℕ) (reading : List ℕ → Result A Fault) (x : A) (bytes : List ℕ) → folder name ≡ Some bytes → AreBytes bytes → reading bytes ≡ Ok x → (file_reading folder name >>= reading) ≡ Ok x
of_read folder name reading x bytes is are e = then_of (file_reading folder name) bytes reading (file_is_read folder name bytes is are) ∙ e

-- ---- columns.txt

abbrev pub AllLists : Type 0
AllLists = (columns : List Column) (must order text : List ℕ) → CanBeListed columns → Lists columns must order text → columns_reading columns must text ≡ Ok order

-- the folder lists these of the definition's columns, in this order
pub record HasOrder (definition : PartDef) (order : List ℕ) (folder : Folder) : Type 0 where
  pub text : List ℕ
  pub there : folder columns_name ≡ Some text
  pub lists : Lists definition.columns definition.must order text

pub order_is_read : (definition : PartDef) (folder : Folder) (order : List ℕ) → ListsAre → order_reading definition folder ≡ Ok order → HasOrder definition order folder
order_is_read definition folder order only e =
    let r = read_of folder columns_name (λ text. blame (file_fault columns_name) (columns_reading definition.columns definition.must text)) order e in
    record { text = r.bytes; there = r.there; lists = only definition.columns definition.must order r.bytes (read_in columns_name (columns_reading definition.columns definition.must r.bytes) order r.reads) }

pub read_order : (definition : PartDef) (folder : Folder) (order : List ℕ) → AllLists → CanBeListed definition.columns → All HasByteName (map (column_at definition.columns) order) → HasOrder definition order folder → order_reading definition folder ≡ Ok order
read_order definition folder order all can named has =
    of_read folder columns_name (λ text. blame (file_fault columns_name) (columns_reading definition.columns definition.must text)) order has.text has.there
    (subst AreBytes (sym has.lists.listed) (columns_bytes (map (column_at definition.columns) order) named))
    (ap (blame (file_fault columns_name)) (all definition.columns definition.must order has.text can has.lists))

-- ---- count.txt

abbrev pub CountsAreRead : Type 0
CountsAreRead = (columns rows : ℕ) (text : List ℕ) → (count_reading columns text ≡ Ok rows) ↔ Counts columns rows text

count_is : (reading : Result ℕ CountWhy) (count : ℕ) → blame (file_fault count_name) (count_why reading) ≡ Ok count → reading ≡ Ok count
count_is (Ok found) count e = let same : found ≡ count = cc in ap Ok same
count_is (Err Syntax) count e = cc
count_is (Err TooLong) count e = cc

-- the folder counts so many rows
pub record HasCount (columns count : ℕ) (folder : Folder) : Type 0 where
  pub text : List ℕ
  pub there : folder count_name ≡ Some text
  pub counts : Counts columns count text

pub count_is_read : (definition : PartDef) (folder : Folder) (count : ℕ) → CountsAreRead → row_count_reading definition folder ≡ Ok count → HasCount (length definition.columns) count folder
count_is_read definition folder count are e =
    let columns = length definition.columns in
    let r = read_of folder count_name (λ text. blame (file_fault count_name) (count_why (count_reading columns text))) count e in
    record { text = r.bytes; there = r.there; counts = (are columns count r.bytes).0 (count_is (count_reading columns r.bytes) count r.reads) }

pub read_count : (definition : PartDef) (folder : Folder) (count : ℕ) → CountsAreRead → HasCount (length definition.columns) count folder → row_count_reading definition folder ≡ Ok count
read_count definition folder count are has =
    let columns = length definition.columns in
    of_read folder count_name (λ text. blame (file_fault count_name) (count_why (count_reading columns text))) count has.text has.there (subst AreBytes (sym has.counts.decimal) (decimal_bytes count))
    (ap (λ (reading : Result ℕ CountWhy). blame (file_fault count_name) (count_why reading)) ((are columns count has.text).1 has.counts))

-- ---- primary.idx

pub index_is_read : (definition : PartDef) (folder : Folder) (accepted : Accepted) → index_reading definition folder accepted ≡ Ok tt → folder index_name ≡ Some (primary_index_of definition accepted.rows accepted.granules)
index_is_read definition folder accepted e =
    let r = read_of folder index_name (keys_reading 0 (index_keys definition accepted)) tt e in
    r.there ∙ ap Some (read_keys (key_bytes definition.columns (take definition.primary definition.sort)) (index_rows accepted.rows accepted.granules) 0 r.bytes r.reads)

pub read_index : (definition : PartDef) (folder : Folder) (accepted : Accepted) → All (RowFits definition.columns) accepted.rows → folder index_name ≡ Some (primary_index_of definition accepted.rows accepted.granules) → index_reading definition folder accepted ≡ Ok tt
read_index definition folder accepted fit is =
    of_read folder index_name (keys_reading 0 (index_keys definition accepted)) tt (primary_index_of definition accepted.rows accepted.granules) is (index_is_bytes definition accepted.rows accepted.granules fit)
    (keys_read (key_bytes definition.columns (take definition.primary definition.sort)) (index_rows accepted.rows accepted.granules) 0)
