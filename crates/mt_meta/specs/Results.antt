-- What the readers give.
use denote.Ref.{Bor}
use Rattle.std.specs.Prelude.{◌≡◌, ℕ, ◌==◌, List, length, map, Option, Some, None, option_and_then, Result, Ok, Err}
use Rattle.std.specs.List.{slice_split}
use Rattle.mt_fault.specs.declared.fault.Why.{Why}
use Rattle.mt_fault.specs.declared.fault.Fault.{Fault}
use Rattle.mt_fault.specs.declared.error.FileError.{FileError}
use Rattle.mt_fault.specs.declared.error.FileError.TheVariants.{AtFault, NoMemory}
use Rattle.mt_table.specs.declared.column.Column.{Column}
use Rattle.mt_defs.specs.Metadata.{column_line}
use Rattle.mt_meta.specs.declared.ascii.TheConstants.{LINE_END}
use Rattle.mt_meta.specs.ColumnsReading.{column_lines, order_of, if_listed}

-- the text is column lines, so many
abbrev pub GivesListing : Option (Bor (List ℕ) × ℕ) → Option (List (List ℕ)) → Type 0
GivesListing (Some (text, count)) reading =
    (lines : List (List ℕ)) × (reading ≡ Some lines) × (column_lines (slice_split (λ byte. byte == LINE_END) text.now) ≡ Some lines) × (count ≡ length lines)
GivesListing None reading = reading ≡ None

-- which columns' lines a text is, where it is column lines
abbrev pub GivesOrder : List (List ℕ) → List ℕ → Option (List ℕ) → Type 0
GivesOrder columns text found =
    (lines : List (List ℕ)) → column_lines (slice_split (λ byte. byte == LINE_END) text) ≡ Some lines → found ≡ order_of columns lines

-- the same, if a folder may list these of the columns
abbrev pub GivesListed : List Column → List ℕ → List ℕ → Option (List ℕ) → Type 0
GivesListed columns must text found =
    (lines : List (List ℕ)) → column_lines (slice_split (λ byte. byte == LINE_END) text) ≡ Some lines
    → found ≡ option_and_then (if_listed columns must) (order_of (map column_line columns) lines)
