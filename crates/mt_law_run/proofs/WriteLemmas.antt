-- What a `write` that is Done left at its target.
use Rattle.std.proofs.Common.{◌≡◌, ◌≢◌, ℕ, Bool, true, false, List, [], ◌∷◌, length, Some, Result, Ok, Err, refl, ap, sym, ◌∙◌, subst}
use Rattle.std.specs.Prelude.{nat_lt}
use Rattle.std.specs.List.{list_all}
use Rattle.mt_types.specs.Bytes.{is_byte}
use Rattle.mt_fault.specs.declared.file.FileBytes.{FileBytes}
use Rattle.mt_shelf.specs.Files.{Files}
use Rattle.mt_table.specs.declared.definition.Table.{Table}
use Rattle.mt_tsv.specs.Reading.{rows_reading}
use Rattle.mt_tsv.proofs.RowLimits as limits
use Rattle.mt_tsv.proofs.RowsFit.{rows_fit}
use Rattle.mt_defs.specs.Rows.{Row}
use Rattle.mt_defs.specs.Sorting.{sorted_rows}
use Rattle.mt_defs.specs.Writer.{written_folder}
use Rattle.mt_headline.specs.Storable.{AreStorable}
use Rattle.mt_command.specs.Plans.{World, Answers, Performs, refusal_of}
use Rattle.mt_command.specs.Status.{◌>>=◌}
use Rattle.mt_command.specs.Tables.{table_in}
use Rattle.mt_command.specs.Targets.{few_cells, free_target, with_folder, within_limit}
use Rattle.mt_command.specs.declared.limits.TheConstants.{MAX_INPUT}
use Rattle.mt_command.specs.declared.status.Status.{Status}
use Rattle.mt_command.specs.declared.status.Status.TheVariants.{Done, TooMuch}
use Rattle.mt_command.specs.declared.status.What.TheVariants as what
use Rattle.mt_trial.proofs.OnlyLemmas.{same_value}
use Rattle.mt_writing.specs.Partitions.{lines_partition}
use Rattle.mt_writing.specs.Write.{folder_for, folder_in, folder_of_text, input_text, rows_of_text, some_input, table_for, write_plan}
use Rattle.mt_writing.proofs.PartitionLemmas.{have_one}
use Rattle.mt_writing.proofs.WrittenParts.{rows_read}
use Rattle.mt_law_run.specs.Published.{Wrote}
use Rattle.mt_law_run.proofs.GainedLemmas.{WriterLaws, gained}
use Rattle.mt_law_run.proofs.KnownLemmas.{both}
use Rattle.mt_law_run.proofs.NeverLemmas.{all_never, both_passed, for_never}
use Rattle.mt_law_run.proofs.OnlyLemmas.{passed}

-- ---- what was made

-- the rows of an input, their folder, and that the target was free
pub record Made (path part input : List ℕ) (files : Files) (folder : List FileBytes) : Type 0 where
  pub table : Table
  pub table_is : table_in path files ≡ Ok table
  pub free : free_target part files ≡ Ok tt
  pub some : input ≢ []
  pub rows : List Row
  pub rows_are : rows_reading table.columns input ≡ Ok rows
  pub few : few_cells table rows ≡ Ok tt
  pub one : lines_partition table rows ≡ Ok tt
  pub small : within_limit (written_folder table (sorted_rows table.sort rows)) ≡ Ok folder

text_is : (input text : List ℕ) (much : Bool) → nat_lt MAX_INPUT (length input) ≡ much → input_text input ≡ Ok text → (text ≡ input) × (input ≢ [])
text_is input text true is e = let never : input_text input ≡ Err (TooMuch what.Input MAX_INPUT) = rw is refl in cc
text_is input text false is e = let here : input_text input ≡ some_input input = rw is refl in by input (sym here ∙ e)
  where
    by : (bytes : List ℕ) → some_input bytes ≡ Ok text → (text ≡ bytes) × (bytes ≢ [])
    by [] e = cc
    by (byte ∷ more) e = (sym (same_value (byte ∷ more) text e), λ none. cc)

pub was_made : (path part input : List ℕ) (files : Files) (folder : List FileBytes) → folder_in path part files input ≡ Ok folder
    → Made path part input files folder
unfolding folder_of_text
was_made path part input files folder e =
    let all = passed (table_for path part files) (λ table. folder_for table input) folder e in
    let found = passed (table_in path files) (λ table. free_target part files >>= λ _. Ok table) all.gave all.given in
    let free = passed (free_target part files) (λ _. let r : Result Table Status = Ok found.gave in r) all.gave found.later in
    let table = all.gave in
    let text = passed (input_text input) (folder_of_text table) folder all.later in
    let is = text_is input text.gave (nat_lt MAX_INPUT (length input)) refl text.given in
    let made : folder_of_text table input ≡ Ok folder = subst (λ t. folder_of_text table t ≡ Ok folder) is.0 text.later in
    let rows = passed (rows_of_text table input) (λ rows. few_cells table rows >>= λ _. lines_partition table rows >>= λ _. within_limit (written_folder table (sorted_rows table.sort rows))) folder made in
    let few = passed (few_cells table rows.gave) (λ _. lines_partition table rows.gave >>= λ _. within_limit (written_folder table (sorted_rows table.sort rows.gave))) folder rows.later in
    let one = passed (lines_partition table rows.gave) (λ _. within_limit (written_folder table (sorted_rows table.sort rows.gave))) folder few.later in
    record {
      table = table;
      table_is = found.given ∙ free.later;
      free = free.given;
      some = is.1;
      rows = rows.gave;
      rows_are = rows_read table input rows.gave rows.given;
      few = few.given;
      one = one.given;
      small = one.later;
    }

pub storable : (path part input : List ℕ) (files : Files) (folder : List FileBytes) (m : Made path part input files folder) → list_all is_byte input ≡ true
    → AreStorable m.table m.rows
storable path part input files folder m bytes = record {
  not_empty = limits.some_rows m.table.columns input m.rows m.rows_are m.some;
  fit = rows_fit m.table.columns input m.rows bytes m.rows_are;
  row_limit = limits.few_rows m.table.columns input m.rows m.rows_are;
  cell_limit = limits.few_cells m.table.columns input m.rows m.rows_are;
  projection_limit = m.few;
  one_partition = have_one m.table m.rows m.one;
}

-- ---- the law

pub wrote : WriterLaws → (path part input : List ℕ) (files : Files) (old new : World) → old.files ≡ Some files → old.left ≡ Some input
    → list_all is_byte input ≡ true
    → Performs (Some (write_plan path part)) old new Done → Wrote path part input files new
wrote laws path part input files old new known left bytes (meets, cause) =
    let plan = write_plan path part in
    let answers = both plan old files input known left (λ f i. Answers (refusal_of plan f i) Done) meets.answer in
    let (folder, made) = both_passed (table_for path part files) (folder_in path part files input) (for_never path part files) (all_never path part files input) (answers refl) in
    let gains = both plan old files input known left (λ f i. new.files ≡ Some (with_folder part (folder_in path part f i) f)) meets.left.0 in
    let m = was_made path part input files folder made in
    let after = gains ∙ ap (λ (r : Result (List FileBytes) Status). Some (with_folder part r files)) made in
    let writable = laws.writable m.table m.rows (storable path part input files folder m bytes) in
    record {
      table = m.table;
      table_is = m.table_is;
      rows = m.rows;
      rows_are = m.rows_are;
      read_whole = meets.left.2 refl;
      gained = gained laws path part m.table (sorted_rows m.table.sort m.rows) files new folder writable m.table_is m.free m.small after;
    }
