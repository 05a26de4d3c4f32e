-- What columns.txt and count.txt say, once they are read.
use Rattle.std.proofs.Common.{◌≡◌, ℕ, true, List, ap, sym, ◌∙◌}
use Rattle.std.specs.Prelude.{IfOk, Result, Ok, Err}
use Rattle.mt_fault.specs.declared.error.FileError.{FileError}
use Rattle.mt_fault.specs.declared.fault.Why.{Why}
use Rattle.mt_table.specs.declared.column.Column.{Column}
use Rattle.mt_defs.specs.Metadata.{columns_name, may_list}
use Rattle.mt_meta.specs.ColumnsReading.{columns_reading, Lists}
use Rattle.mt_fault.specs.Faults.{blame, file_fault}
use Rattle.mt_fault.specs.Results.{Gives}

abbrev pub ListsAre : Type 0
ListsAre = (columns : List Column) (must order text : List ℕ) → columns_reading columns must text ≡ Ok order → Lists columns must order text

pub read_in : {A : Type 0} (file : List ℕ) (reading : Result A Why) (x : A) → blame (file_fault file) reading ≡ Ok x → reading ≡ Ok x
read_in file (Ok y) x e = let same : y ≡ x = cc in ap Ok same
read_in file (Err why) x e = cc

-- the columns that are read are some that a folder may list
pub order_listed : (columns slice : List Column) (must places text : List ℕ) (r : Result (List ℕ) FileError) → slice ≡ columns → places ≡ must → Gives r (blame (file_fault columns_name) (columns_reading slice places text)) → ListsAre
    → IfOk r (λ order. may_list columns must order ≡ true)
order_listed columns slice must places text (Ok order) same also reads lists =
    (lists columns must order text
    (ap (λ (cs : List Column). columns_reading cs must text) (sym same) ∙ ap (λ (ps : List ℕ). columns_reading slice ps text) (sym also) ∙ read_in columns_name (columns_reading slice places text) order reads)).may
order_listed columns slice must places text (Err e) same also reads lists = tt
