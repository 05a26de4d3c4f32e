-- columns.txt and count.txt, which every folder of rows has: docs/FORMAT.md, "The first fault".
use Rattle.std.specs.Prelude.{ℕ, List, length, Result, Ok, Err}
use Rattle.mt_fault.specs.declared.fault.Why.{Why}
use Rattle.mt_fault.specs.declared.fault.Why.TheVariants as why
use Rattle.mt_fault.specs.declared.fault.Fault.{Fault}
use Rattle.mt_types.specs.Steps.{◌>>=◌}
use Rattle.mt_table.specs.declared.definition.PartDef.{PartDef}
use Rattle.mt_defs.specs.Folder.{Folder}
use Rattle.mt_defs.specs.Metadata.{columns_name, count_name}
use Rattle.mt_meta.specs.declared.count.CountWhy.{CountWhy}
use Rattle.mt_meta.specs.declared.count.CountWhy.TheVariants.{Syntax, TooLong}
use Rattle.mt_meta.specs.ColumnsReading.{columns_reading}
use Rattle.mt_meta.specs.CountReading.{count_reading}
use Rattle.mt_fault.specs.Faults.{blame, file_fault}
use Rattle.mt_granules.specs.FileFaults.{file_reading}

-- columns.txt: the columns that the folder lists, in the order of its files, by their indexes in the definition (1.1 to 1.3)
abbrev pub order_reading : PartDef → Folder → Result (List ℕ) Fault
order_reading definition folder = do
  text ← file_reading folder columns_name
  blame (file_fault columns_name) (columns_reading definition.columns definition.must text)

-- why a count is none, as it is named of a part
abbrev pub count_why : {A : Type 0} → Result A CountWhy → Result A Why
count_why (Ok count) = Ok count
count_why (Err Syntax) = Err why.Syntax
count_why (Err TooLong) = Err why.TooLong

-- count.txt: the rows of the folder (2.1 to 2.4)
abbrev pub row_count_reading : PartDef → Folder → Result ℕ Fault
row_count_reading definition folder = do
  text ← file_reading folder count_name
  blame (file_fault count_name) (count_why (count_reading (length definition.columns) text))
