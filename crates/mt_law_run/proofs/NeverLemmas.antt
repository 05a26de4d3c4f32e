-- Statuses with which no step refuses: none with Done, and none after the table's with a fault of its text.
use Rattle.std.proofs.Common.{◌≡◌, inl, inr, ℕ, Bool, true, false, List, [], ◌∷◌, ◌++◌, length, Option, Some, None, Result, Ok, Err, refl, ap, sym, ◌∙◌, subst}
use Rattle.std.specs.Prelude.{if◌then◌else◌, nat_lt}
use Rattle.std.specs.FinMap.{get}
use Rattle.std.specs.List.{list_any}
use Rattle.mt_fault.specs.declared.fault.Fault.{Fault}
use Rattle.mt_fault.specs.declared.file.FileBytes.{FileBytes}
use Rattle.mt_shelf.specs.declared.file.Entry.{Entry}
use Rattle.mt_shelf.specs.Files.{Files, entries_below, listing_of, stands}
use Rattle.mt_table.specs.declared.definition.Table.{Table}
use Rattle.mt_table.specs.declared.limits.TheConstants.{MAX_CELLS, MAX_ROWS}
use Rattle.mt_table_text.specs.TextReading.{table_reading}
use Rattle.mt_table_text.specs.declared.why.TableWhy.{TableWhy}
use Rattle.mt_tsv.specs.declared.fault.RowError.{RowError}
use Rattle.mt_tsv.specs.declared.fault.RowError.TheVariants as row
use Rattle.mt_tsv.specs.Reading.{rows_reading}
use Rattle.mt_defs.specs.Rows.{Row, cell_count}
use Rattle.mt_defs.specs.Sorting.{merged_rows, sorted_rows}
use Rattle.mt_defs.specs.Writer.{written_folder}
use Rattle.mt_definition.specs.declared.accepted.Accepted.{Accepted}
use Rattle.mt_command.specs.Outcomes as steps
use Rattle.mt_command.specs.Parts.{listed_bytes, listing_in, part_checks, listed_part, part_steps, table_part_steps}
use Rattle.mt_command.specs.Plans.{or_else, status_of}
use Rattle.mt_command.specs.Status.{◌>>=◌, refusal, refused_by, status_of_rows}
use Rattle.mt_command.specs.Tables.{table_in, table_of, table_text}
use Rattle.mt_command.specs.Targets.{few_cells, folder_bytes, free_target, has_many_cells, within_limit}
use Rattle.mt_command.specs.declared.limits.TheConstants.{MAX_FOLDER, MAX_INPUT, MAX_TABLE_TEXT}
use Rattle.mt_command.specs.declared.status.Status.{Status}
use Rattle.mt_command.specs.declared.status.Status.TheVariants.{AtFault, BadTable, Done, Exists, MixedPartitions, TooMuch}
use Rattle.mt_command.specs.declared.status.What.TheVariants as what
use Rattle.mt_merging.specs.Inputs as merging
use Rattle.mt_merging.specs.Merge.{input_steps, inputs_steps, merge_steps, merge_table_steps}
use Rattle.mt_merging.specs.Rooms.{within_limits}
use Rattle.mt_writing.specs.Partitions.{no_other, lines_partition, other_partition_line}
use Rattle.mt_writing.specs.Write.{folder_for, folder_in, folder_of_text, input_text, rows_of_text, some_input, table_for}
use Rattle.mt_reading.specs.Reading.{check_steps, rows_steps}
use Rattle.mt_select.specs.Select.{answer_steps, query_asked, select_steps}
use Rattle.mt_show.specs.Show.{part_text, show_steps}

-- no refusal of this kind
abbrev pub Never : (Status → Type 0) → {A : Type 0} → Result A Status → Type 0
Never P (Ok x) = Unit {0}
Never P (Err status) = ¬ (P status)

-- nor by steps whose outcome a relation gives
abbrev pub EndsNever : (Status → Type 0) → {A : Type 0} → steps.Outcomes A → Type 0
EndsNever P {A} first = (outcome : Result A Status) → first outcome → Never P outcome

module _ (P : Status → Type 0) where
  pub so_then : {A B : Type 0} (first : Result A Status) (rest : A → Result B Status) → Never P first → ((x : A) → Never P (rest x)) → Never P (first >>= rest)
  so_then (Ok x) rest one other = other x
  so_then (Err status) rest one other = one

  pub so_if : {A : Type 0} (b : Bool) (r s : Result A Status) → Never P r → Never P s → Never P (if b then r else s)
  so_if true r s one other = one
  so_if false r s one other = other

  pub so_read : {A E : Type 0} (status_for : E → Status) (r : Result A E) → ((e : E) → ¬ (P (status_for e))) → Never P (refused_by status_for r)
  so_read status_for (Ok x) never = tt
  so_read status_for (Err e) never = never e

  pub so_given : {A : Type 0} (r : Result A Status) → Never P r → EndsNever P (steps.gives r)
  so_given r never outcome same = subst (Never P) (sym same) never

  pub so_value : {A : Type 0} (x : A) → EndsNever P (steps.gives (let r : Result A Status = Ok x in r))
  so_value x = so_given (Ok x) tt

  pub so_ends : {A B : Type 0} (first : steps.Outcomes A) (next : A → steps.Outcomes B) → EndsNever P first → ((x : A) → EndsNever P (next x))
      → EndsNever P (steps.◌>>=◌ first next)
  so_ends first next one other outcome (inl (x, is, goes)) = other x outcome goes
  so_ends {A} {B} first next one other outcome (inr (status, is, same)) = subst (Never P) (sym same) (one (Err status) is)

-- ---- Done

abbrev pub NeverDone : {A : Type 0} → Result A Status → Type 0
NeverDone r = Never (λ status. status ≡ Done) r

abbrev pub NeverEnds : {A : Type 0} → steps.Outcomes A → Type 0
NeverEnds first = EndsNever (λ status. status ≡ Done) first

-- two readings of steps of which neither refuses
pub both_passed : {A B : Type 0} (first : Result A Status) (second : Result B Status) → NeverDone first → NeverDone second
    → Done ≡ status_of (or_else (refusal first) (refusal second)) → (y : B) × (second ≡ Ok y)
both_passed (Err status) second one other e = absurd (one (sym e))
both_passed (Ok x) (Ok y) one other e = (y, refl)
both_passed (Ok x) (Err status) one other e = absurd (other (sym e))

-- ---- the table's file

table_never : (path : List ℕ) (files : Files) → NeverDone (table_in path files)
unfolding table_of
table_never path files =
    so_then (λ status. status ≡ Done) (table_text (get files path)) table_of (text_never (get files path))
    (λ text. so_read (λ status. status ≡ Done) BadTable (table_reading text) (λ why e. cc))
  where
    text_never : (o : Option (List ℕ)) → NeverDone (table_text o)
    text_never None = λ e. cc
    text_never (Some text) =
        so_if (λ status. status ≡ Done) (nat_lt MAX_TABLE_TEXT (length text)) (Err (TooMuch what.Table MAX_TABLE_TEXT)) (Ok text) (λ e. cc) tt

-- statuses with which no step after it refuses
abbrev IsEarly : Status → Type 0
IsEarly Done = Unit {0}
IsEarly (BadTable why) = Unit {0}
IsEarly status = ⊥

abbrev Late : {A : Type 0} → Result A Status → Type 0
Late r = Never IsEarly r

abbrev LateEnds : {A : Type 0} → steps.Outcomes A → Type 0
LateEnds first = EndsNever IsEarly first

-- so they never refuse with Done
late_done : {A : Type 0} (r : Result A Status) → Late r → NeverDone r
late_done (Ok x) late = tt
late_done (Err status) late = λ e. late (subst IsEarly (sym e) tt)

module _ (path : List ℕ) (files : Files) where
  -- steps that begin with the table
  pub ends_after : {A : Type 0} (next : Table → steps.Outcomes A) → ((table : Table) → LateEnds (next table))
      → NeverEnds (steps.◌>>=◌ (steps.gives (table_in path files)) next)
  ends_after next late =
      so_ends (λ status. status ≡ Done) (steps.gives (table_in path files)) next (so_given (λ status. status ≡ Done) (table_in path files) (table_never path files))
      (λ table outcome is. late_done outcome (late table outcome is))

  -- refuse with a rule of the table's text where the file does
  pub bad_before : {A : Type 0} (next : Table → steps.Outcomes A) → ((table : Table) → LateEnds (next table)) → (why : TableWhy)
      → steps.◌>>=◌ (steps.gives (table_in path files)) next (Err (BadTable why)) → table_in path files ≡ Err (BadTable why)
  bad_before next late why (inl (table, is, goes)) = absurd (late table (Err (BadTable why)) goes tt)
  bad_before {A} next late why (inr (status, is, same)) =
      let this : status ≡ BadTable why = cc in
      sym is ∙ ap (λ (s : Status). let r : Result Table Status = Err s in r) this

-- ---- write

free_late : (part : List ℕ) (files : Files) → Late (free_target part files)
free_late part files = so_if IsEarly (stands part files) (Err Exists) (Ok tt) (λ e. e) tt

pub for_never : (path part : List ℕ) (files : Files) → NeverDone (table_for path part files)
for_never path part files =
    so_then (λ status. status ≡ Done) (table_in path files) _ (table_never path files)
    (λ table. so_then (λ status. status ≡ Done) (free_target part files) (λ _. Ok table) (late_done (free_target part files) (free_late part files)) (λ _. tt))

input_late : (input : List ℕ) → Late (input_text input)
input_late input = so_if IsEarly (nat_lt MAX_INPUT (length input)) (Err (TooMuch what.Input MAX_INPUT)) (some_input input) (λ e. e) (some_late input)
  where
    some_late : (input : List ℕ) → Late (some_input input)
    some_late [] = λ e. e
    some_late (byte ∷ more) = tt

rows_late : (table : Table) (text : List ℕ) → Late (rows_of_text table text)
unfolding rows_of_text
rows_late table text = so_read IsEarly status_of_rows (rows_reading table.columns text) late
  where
    late : (e : RowError) → ¬ (IsEarly (status_of_rows e))
    late (row.At line why) = λ e. e
    late row.Rows = λ e. e
    late row.Cells = λ e. e
    late row.NoMemory = λ e. e

few_late : (table : Table) (rows : List Row) → Late (few_cells table rows)
few_late table rows = so_if IsEarly (list_any (has_many_cells table rows) table.projections) (Err (TooMuch what.Cells MAX_CELLS)) (Ok tt) (λ e. e) tt

within_late : (folder : List FileBytes) → Late (within_limit folder)
within_late folder = so_if IsEarly (nat_lt MAX_FOLDER (folder_bytes folder)) (Err (TooMuch what.Part MAX_FOLDER)) (Ok folder) (λ e. e) tt

made_late : (table : Table) (text : List ℕ) → Late (folder_of_text table text)
unfolding folder_of_text
made_late table text =
    so_then IsEarly (rows_of_text table text) _ (rows_late table text) (λ rows.
    so_then IsEarly (few_cells table rows) _ (few_late table rows) (λ _.
    so_then IsEarly (lines_partition table rows) _ (one_late (other_partition_line table rows)) (λ _. within_late (written_folder table (sorted_rows table.sort rows)))))
  where
    one_late : (o : Option ℕ) → Late (no_other o)
    one_late None = tt
    one_late (Some line) = λ e. e

for_late : (table : Table) (input : List ℕ) → Late (folder_for table input)
for_late table input = so_then IsEarly (input_text input) (folder_of_text table) (input_late input) (λ text. made_late table text)

pub all_never : (path part : List ℕ) (files : Files) (input : List ℕ) → NeverDone (folder_in path part files input)
all_never path part files input =
    so_then (λ status. status ≡ Done) (table_for path part files) (λ table. folder_for table input) (for_never path part files)
    (λ table. late_done (folder_for table input) (for_late table input))

-- a write that is refused with a rule of the table's text is so by the file
pub bad_write : (path part input : List ℕ) (files : Files) (why : TableWhy)
    → BadTable why ≡ status_of (or_else (refusal (table_for path part files)) (refusal (folder_in path part files input))) → table_in path files ≡ Err (BadTable why)
bad_write path part input files why is = by_table (table_in path files) refl is
  where
    by_rest : (table : Table) (r : Result Table Status) → Late r → (second : Result (List FileBytes) Status) → ((x : Table) → r ≡ Ok x → Late second)
        → BadTable why ≡ status_of (or_else (refusal r) (refusal second)) → ⊥
    by_rest table (Ok x) late (Ok y) after e = cc
    by_rest table (Ok x) late (Err status) after e = after x refl (subst IsEarly e tt)
    by_rest table (Err status) late second after e = late (subst IsEarly e tt)

    by_table : (t : Result Table Status) → table_in path files ≡ t
        → BadTable why ≡ status_of (or_else (refusal (t >>= λ table. free_target part files >>= λ _. Ok table)) (refusal ((t >>= λ table. free_target part files >>= λ _. Ok table) >>= λ table. folder_for table input)))
        → t ≡ Err (BadTable why)
    by_table (Err status) known e = let this : status ≡ BadTable why = sym e in ap (λ (s : Status). let r : Result Table Status = Err s in r) this
    by_table (Ok table) known e =
        let found : Result Table Status = free_target part files >>= λ _. let r : Result Table Status = Ok table in r in
        let late : Late found = so_then IsEarly (free_target part files) (λ _. let r : Result Table Status = Ok table in r) (free_late part files) (λ _. tt) in
        absurd (by_rest table found late (found >>= λ table. folder_for table input) (λ x same. so_then IsEarly found (λ table. folder_for table input) late (λ table. for_late table input)) e)

-- ---- parts

listing_late : (part : List ℕ) (files : Files) → Late (listing_in part files)
listing_late part files = by (listing_of (entries_below part files))
  where
    by : (o : Option (List Entry)) → Late (listed_part part o)
    by None = λ e. e
    by (Some listing) = so_if IsEarly (nat_lt MAX_FOLDER (listed_bytes listing)) (Err (TooMuch what.Part MAX_FOLDER)) (Ok listing) (λ e. e) tt

checks_late : {A : Type 0} (word : List ℕ) (checks : Result A Fault → Type 0) → LateEnds (steps.refused_by (AtFault word) checks)
checks_late word checks (Ok x) is = tt
checks_late word checks (Err status) (fault, is, same) = λ e. subst IsEarly same e

part_late : (table : Table) (part : List ℕ) (files : Files) → LateEnds (part_steps table part files)
part_late table part files =
    so_ends IsEarly (steps.gives (listing_in part files)) _ (so_given IsEarly (listing_in part files) (listing_late part files))
    (λ listing. checks_late part (part_checks table part files))

both_late : (table : Table) (part : List ℕ) (files : Files)
    → LateEnds (steps.◌>>=◌ (part_steps table part files) (λ accepted. steps.gives (let r : Result (Table × Accepted) Status = Ok (table, accepted) in r)))
both_late table part files = so_ends IsEarly (part_steps table part files) _ (part_late table part files) (λ accepted. so_value IsEarly (table, accepted))

text_late : (table : Table) (part : List ℕ) (files : Files) → LateEnds (part_text table part files)
text_late table part files =
    so_ends IsEarly (steps.gives (listing_in part files)) _ (so_given IsEarly (listing_in part files) (listing_late part files)) (λ listing.
    so_ends IsEarly (steps.refused_by (AtFault part) (part_checks table part files)) _ (checks_late part (part_checks table part files)) (λ accepted. so_value IsEarly _))

query_late : (text : List ℕ) (table : Table) → LateEnds (query_asked table text)
query_late text table (Ok query) asked = tt
query_late text table (Err status) (why, asked, same) = λ e. subst IsEarly same e

asked_late : (text : List ℕ) (table : Table) (part : List ℕ) (files : Files)
    → LateEnds (steps.◌>>=◌ (query_asked table text) (λ query. answer_steps table query part files))
asked_late text table part files =
    so_ends IsEarly (query_asked table text) _ (query_late text table)
    (λ query. so_ends IsEarly (part_steps table part files) _ (part_late table part files) (λ accepted. so_value IsEarly _))

module _ (path part : List ℕ) (files : Files) where
  both_end : NeverEnds (table_part_steps path part files)
  both_end = ends_after path files _ (λ table. both_late table part files)

  pub check_ends : NeverEnds (check_steps path part files)
  check_ends = so_ends (λ status. status ≡ Done) (table_part_steps path part files) _ both_end (λ read. so_value (λ status. status ≡ Done) _)

  pub rows_end : NeverEnds (rows_steps path part files)
  rows_end = so_ends (λ status. status ≡ Done) (table_part_steps path part files) _ both_end (λ read. so_value (λ status. status ≡ Done) _)

  pub show_ends : NeverEnds (show_steps path part files)
  show_ends = ends_after path files _ (λ table. text_late table part files)

  pub select_ends : (text : List ℕ) → NeverEnds (select_steps path part text files)
  select_ends text = ends_after path files _ (λ table. asked_late text table part files)

  -- and where the table's text breaks a rule

  pub bad_part : (why : TableWhy) → table_part_steps path part files (Err (BadTable why)) → table_in path files ≡ Err (BadTable why)
  bad_part why came = bad_before path files _ (λ table. both_late table part files) why came

  pub bad_show : (why : TableWhy) → show_steps path part files (Err (BadTable why)) → table_in path files ≡ Err (BadTable why)
  bad_show why came = bad_before path files _ (λ table. text_late table part files) why came

  pub bad_select : (text : List ℕ) (why : TableWhy) → select_steps path part text files (Err (BadTable why)) → table_in path files ≡ Err (BadTable why)
  bad_select text why came = bad_before path files _ (λ table. asked_late text table part files) why came

-- ---- merge

there_late : (parts : List (List ℕ)) (files : Files) → Late (merging.are_there parts files)
there_late [] files = tt
there_late (part ∷ parts) files =
    so_then IsEarly (merging.some_files part (listing_of (entries_below part files))) _ (by (listing_of (entries_below part files))) (λ _. there_late parts files)
  where
    by : (o : Option (List Entry)) → Late (merging.some_files part o)
    by None = λ e. e
    by (Some listing) = tt

with_late : (table : Table) (read : List (List Row)) (rows : List Row) → Late (merging.with_input table read rows)
with_late table read rows =
    let all : List (List Row) = read ++ rows ∷ [] in
    so_then IsEarly (merging.inputs_partition table read rows) _ (one_late read)
    (λ _. so_then IsEarly (within_limits table (merging.all_rows all)) (λ _. let r : Result (List (List Row)) Status = Ok all in r) (limits_late (merging.all_rows all)) (λ _. tt))
  where
    one_late : (read : List (List Row)) → Late (merging.inputs_partition table read rows)
    one_late [] = tt
    one_late (first ∷ read) = so_if IsEarly (merging.share_partition table first rows) (Ok tt) (Err (MixedPartitions _)) tt (λ e. e)

    limits_late : (all : List Row) → Late (within_limits table all)
    limits_late all =
        so_if IsEarly (nat_lt MAX_ROWS (length all)) (Err (TooMuch what.Rows MAX_ROWS)) _ (λ e. e)
        (so_if IsEarly (nat_lt MAX_CELLS (cell_count table.columns all)) (Err (TooMuch what.Cells MAX_CELLS)) (Ok tt) (λ e. e) tt)

inputs_late : (table : Table) (files : Files) (read : List (List Row)) (parts : List (List ℕ)) → LateEnds (inputs_steps table files read parts)
unfolding inputs_steps
inputs_late table files read [] = so_value IsEarly read
inputs_late table files read (part ∷ parts) =
    so_ends IsEarly (input_steps table files read part) _
    (so_ends IsEarly (part_steps table part files) _ (part_late table part files)
    (λ accepted. so_given IsEarly (merging.with_input table read accepted.rows) (with_late table read accepted.rows)))
    (λ more. inputs_late table files more parts)

merge_late : (table : Table) (target : List ℕ) (parts : List (List ℕ)) (files : Files) → LateEnds (merge_table_steps table target parts files)
merge_late table target parts files =
    so_ends IsEarly (steps.gives (merging.are_ready target parts files)) _
    (so_given IsEarly (merging.are_ready target parts files) (so_then IsEarly (merging.are_there parts files) _ (there_late parts files) (λ _. free_late target files)))
    (λ _. so_ends IsEarly (inputs_steps table files [] parts) _ (inputs_late table files [] parts)
    (λ read. so_given IsEarly (merging.folder_of_rows table (merged_rows table.sort read)) (merged_late table (merged_rows table.sort read))))
  where
    merged_late : (table : Table) (rows : List Row) → Late (merging.folder_of_rows table rows)
    merged_late table rows = so_then IsEarly (few_cells table rows) _ (few_late table rows) (λ _. within_late (written_folder table rows))

pub merge_ends : (path target : List ℕ) (parts : List (List ℕ)) (files : Files) → NeverEnds (merge_steps path target parts files)
merge_ends path target parts files = ends_after path files (λ table. merge_table_steps table target parts files) (λ table. merge_late table target parts files)

pub bad_merge : (path target : List ℕ) (parts : List (List ℕ)) (files : Files) (why : TableWhy) → merge_steps path target parts files (Err (BadTable why))
    → table_in path files ≡ Err (BadTable why)
bad_merge path target parts files why came =
    bad_before path files (λ table. merge_table_steps table target parts files) (λ table. merge_late table target parts files) why came
