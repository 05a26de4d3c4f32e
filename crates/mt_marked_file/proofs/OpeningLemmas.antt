-- Opening, step by step.
use Rattle.std.proofs.Common.{◌≡◌, ℕ, List, length, Option, Some, None, ap, sym, subst, ◌∙◌}
use Rattle.std.specs.Prelude.{Result, Ok, Err, option_map}
use Rattle.mt_types.specs.Steps.{◌>>=◌, ok_or}
use Rattle.mt_types.proofs.StepLemmas.{then_of, then_bad}
use Rattle.mt_fault.specs.declared.fault.Fault.{Fault}
use Rattle.mt_fault.specs.declared.fault.Why.TheVariants as why
use Rattle.mt_fault.specs.declared.error.FileError.{FileError}
use Rattle.mt_fault.specs.declared.error.FileError.TheVariants as file
use Rattle.mt_fault.specs.Results.{IsFault}
use Rattle.mt_fault.specs.Faults.{Judged, file_fault}
use Rattle.mt_shelf.specs.Causes.{read_error}
use Rattle.mt_shelf.specs.declared.error.ReadError.{ReadError}
use Rattle.mt_shelf.specs.declared.error.ReadError.TheVariants.{AtFault, Shelf, NoMemory}
use Rattle.mt_defs.specs.Folder.{Folder}
use Rattle.mt_marks.specs.declared.marks.Marks.{Marks}
use Rattle.mt_marked_file.specs.declared.marked_file.MarkedFile.{MarkedFile}
use Rattle.mt_marked_file.specs.Opening.{IsReadFault, ShowsFrom, marked_in, marks_file_reading, opening, raw_reading}

-- ---- what is shown

pub shows_fault : {A B : Type 0} (view : A → B) (fault : Fault) (e : ReadError) (reading : Judged B) → IsReadFault fault e → reading ≡ Err fault → ShowsFrom view (Err e) reading
shows_fault {B = B} view fault (AtFault found) reading is reads = reads ∙ ap (λ (f : Fault). let r : Judged B = Err f in r) (sym is)
shows_fault view fault Shelf reading is reads = tt
shows_fault view fault NoMemory reading is reads = tt

-- a fault of files in memory, as one of a shelf's reader
pub fault_read : (fault : Fault) (e : FileError) → IsFault fault e → IsReadFault fault (read_error e)
fault_read fault (file.AtFault found) is = is
fault_read fault file.NoMemory is = tt

pub shows_same : {A B : Type 0} (view : A → B) (result : Result A ReadError) (a b : Judged B) → a ≡ b → ShowsFrom view result b → ShowsFrom view result a
shows_same view result a b same = subst (ShowsFrom view result) (sym same)

-- ---- the marks file

pub marks_there : (folder : Folder) (name bytes : List ℕ) (per : ℕ) → folder name ≡ Some bytes → marks_file_reading folder name per ≡ raw_reading name per bytes
marks_there folder name bytes per is =
    then_of (ok_or (file_fault name why.Missing) (folder name)) bytes (raw_reading name per) (ap (ok_or (file_fault name why.Missing)) is)

pub marks_missing : (folder : Folder) (name : List ℕ) (per : ℕ) → folder name ≡ None → marks_file_reading folder name per ≡ Err (file_fault name why.Missing)
marks_missing folder name per is =
    then_bad (ok_or (file_fault name why.Missing) (folder name)) (file_fault name why.Missing) (raw_reading name per) (ap (ok_or (file_fault name why.Missing)) is)

-- ---- both files

module _ (folder : Folder) (data_name marks_name : List ℕ) (per : ℕ) where
  abbrev pub rest : ℕ → Judged (ℕ × Marks)
  rest size = marks_file_reading folder marks_name per >>= λ marks. Ok (size, marks)

  pub data_missing : folder data_name ≡ None → opening folder data_name marks_name per ≡ Err (file_fault data_name why.Missing)
  data_missing is =
      then_bad (ok_or (file_fault data_name why.Missing) (option_map length (folder data_name))) (file_fault data_name why.Missing) rest
      (ap (λ (o : Option (List ℕ)). ok_or (file_fault data_name why.Missing) (option_map length o)) is)

  pub data_there : (size : ℕ) → option_map length (folder data_name) ≡ Some size → opening folder data_name marks_name per ≡ rest size
  data_there size is = then_of (ok_or (file_fault data_name why.Missing) (option_map length (folder data_name))) size rest (ap (ok_or (file_fault data_name why.Missing)) is)

  pub opens : (size : ℕ) (marks : Marks) → option_map length (folder data_name) ≡ Some size → marks_file_reading folder marks_name per ≡ Ok marks → opening folder data_name marks_name per ≡ Ok (size, marks)
  opens size marks is read = data_there size is ∙ then_of (marks_file_reading folder marks_name per) marks (λ marks. Ok (size, marks)) read

  pub marks_fail : (size : ℕ) (e : ReadError) → option_map length (folder data_name) ≡ Some size → ShowsFrom (λ (marks : Marks). marks) (Err e) (marks_file_reading folder marks_name per)
      → ShowsFrom marked_in (Err e) (opening folder data_name marks_name per)
  marks_fail size (AtFault fault) is fails = data_there size is ∙ then_bad (marks_file_reading folder marks_name per) fault (λ marks. Ok (size, marks)) fails
  marks_fail size Shelf is fails = tt
  marks_fail size NoMemory is fails = tt
