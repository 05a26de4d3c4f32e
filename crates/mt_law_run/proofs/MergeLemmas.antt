-- What a `merge` that is Done left at its target.
use Rattle.std.proofs.Common.{◌≡◌, ◌≢◌, inl, inr, ℕ, ◌≤◌, Bool, true, false, List, [], ◌∷◌, ◌++◌, length, map, Some, Result, Ok, Err, All, refl, ap, sym, ◌∙◌, subst, arith}
use Rattle.std.specs.Prelude.{IsTrue, nat_lt}
use Rattle.std.proofs.lemmas.Bool.{ltb-false}
use Rattle.std.proofs.lemmas.List.{append-nil, append_assoc}
use Rattle.std.proofs.lemmas.List.Elements.{All-nil, All-cons, All-append}
use Rattle.mt_fault.specs.declared.file.FileBytes.{FileBytes}
use Rattle.mt_shelf.specs.Files.{Files, gained_files}
use Rattle.mt_shelf.specs.Held.{pair_of}
use Rattle.mt_table.specs.declared.definition.Table.{Table}
use Rattle.mt_table.specs.declared.limits.TheConstants.{MAX_CELLS, MAX_ROWS}
use Rattle.mt_defs.specs.Part.{StandsFor}
use Rattle.mt_defs.specs.Partition.{HaveOnePartition}
use Rattle.mt_defs.specs.Rows.{Row, RowFits, cell_count, key_cmp}
use Rattle.mt_defs.specs.Sorting.{merged_rows, sorted_rows}
use Rattle.mt_defs.specs.Writer.{IsWritable, written_folder}
use Rattle.mt_defs.proofs.Sorted.{IsSorted-sorted_rows, length-sorted_rows}
use Rattle.mt_sort.proofs.OrderLemmas.{key_cmp_total}
use Rattle.mt_sort.proofs.StableLemmas.{the_one}
use Rattle.mt_definition.specs.declared.accepted.Accepted.{Accepted}
use Rattle.mt_headline.specs.Storable.{AreStorable}
use Rattle.mt_command.specs.Commands.{PublishesFolderOf}
use Rattle.mt_command.specs.Parts.{folder_at, part_steps}
use Rattle.mt_command.specs.Plans.{World}
use Rattle.mt_command.specs.Outcomes.{gives}
use Rattle.mt_command.specs.Outcomes as steps
use Rattle.mt_command.specs.Status.{◌>>=◌}
use Rattle.mt_command.specs.Tables.{table_in}
use Rattle.mt_command.specs.Targets.{few_cells, free_target, within_limit}
use Rattle.mt_command.specs.declared.status.Status.{Status}
use Rattle.mt_command.specs.declared.status.Status.TheVariants.{Done, TooMuch}
use Rattle.mt_command.specs.declared.status.What.TheVariants as what
use Rattle.mt_merging.specs.Inputs.{AreInputs, all_rows, are_ready, are_there, folder_of_rows, inputs_partition, with_input}
use Rattle.mt_merging.specs.Merge.{inputs_steps, merge_steps, merge_table_steps}
use Rattle.mt_merging.specs.Rooms.{have_room, within_limits}
use Rattle.mt_merging.proofs.InputLemmas.{no_inputs}
use Rattle.mt_merging.proofs.RowLemmas.{all_rows_push, joined_one, merged_cells, merged_fit, merged_one, merged_some}
use Rattle.mt_trial.proofs.OnlyLemmas.{same_value}
use Rattle.mt_run.specs.Words.{are_inputs}
use Rattle.mt_law_run.specs.Published.{Merged, StandEach}
use Rattle.mt_law_run.proofs.GainedLemmas.{WriterLaws, gained}
use Rattle.mt_law_run.proofs.KnownLemmas.{published}
use Rattle.mt_law_run.proofs.NeverLemmas.{merge_ends}
use Rattle.mt_law_run.proofs.OnlyLemmas.{came_by, passed}
use Rattle.mt_law_run.proofs.ReadLemmas.{AcceptsExactly}

-- ---- an input

limits_kept : (rows cells row_room cell_room : ℕ) (many_rows many_cells : Bool) → nat_lt row_room rows ≡ many_rows → nat_lt cell_room cells ≡ many_cells
    → have_room rows cells row_room cell_room ≡ Ok tt → (rows ≤ row_room) × (cells ≤ cell_room)
limits_kept rows cells row_room cell_room true many is other e = let never : have_room rows cells row_room cell_room ≡ Err (TooMuch what.Rows MAX_ROWS) = rw is refl in cc
limits_kept rows cells row_room cell_room false true is other e = let never : have_room rows cells row_room cell_room ≡ Err (TooMuch what.Cells MAX_CELLS) = rw (is, other) refl in cc
limits_kept rows cells row_room cell_room false false is other e = let a = ltb-false row_room rows is in let b = ltb-false cell_room cells other in (omega (arith, a), omega (arith, b))

-- inputs that were read, within the limits
record Read (table : Table) (read : List (List Row)) : Type 0 where
  are : AreInputs table read
  few : length (all_rows read) ≤ MAX_ROWS

joined : (table : Table) (read more : List (List Row)) (rows : List Row) → rows ≢ [] → All (RowFits table.columns) rows → HaveOnePartition table rows
    → Read table read → with_input table read rows ≡ Ok more
    → (more ≡ read ++ rows ∷ []) × Read table more
joined table read more rows there fit one before e =
    let Some : List Row → Type 0 = λ input. input ≢ [] in
    let Fit : List Row → Type 0 = λ input. All (RowFits table.columns) input in
    let all : List (List Row) = read ++ rows ∷ [] in
    let first = passed (inputs_partition table read rows) (λ _. within_limits table (all_rows all) >>= λ _. let r : Result (List (List Row)) Status = Ok all in r) more e in
    let second = passed (within_limits table (all_rows all)) (λ _. let r : Result (List (List Row)) Status = Ok all in r) more first.later in
    let same : all ≡ more = same_value all more second.later in
    let few = limits_kept (length (all_rows all)) (cell_count table.columns (all_rows all)) MAX_ROWS MAX_CELLS (nat_lt MAX_ROWS (length (all_rows all))) (nat_lt MAX_CELLS (cell_count table.columns (all_rows all))) refl refl second.given in
    let now : Read table all = record {
      are = record {
        some = All-append Some read (rows ∷ []) before.are.some (All-cons Some rows [] there (All-nil Some));
        fit = All-append Fit read (rows ∷ []) before.are.fit (All-cons Fit rows [] fit (All-nil Fit));
        one_partition =
            subst (HaveOnePartition table) (sym (all_rows_push read rows)) (joined_one table read rows before.are.some there before.are.one_partition one first.given);
        few_cells = few.1;
      };
      few = few.0;
    } in
    (sym same, subst (Read table) same now)

-- ---- all inputs

module _ (accepts : AcceptsExactly) (table : Table) (files : Files) where
  stands_for : (part : List ℕ) (accepted : Accepted) → part_steps table part files (Ok accepted) → StandsFor table (folder_at part files) accepted.rows
  stands_for part accepted (inl (listing, listed, checks)) = (accepted.granules, (accepts table part files accepted).0 checks)
  stands_for part accepted (inr (status, listed, bad)) = cc

  all_stand : (read : List (List Row)) (parts : List (List ℕ)) (all : List (List Row)) → Read table read → inputs_steps table files read parts (Ok all)
      → (inputs : List (List Row)) × (all ≡ read ++ inputs) × StandEach table files parts inputs × Read table all
  unfolding inputs_steps
  all_stand read [] all before e = let same : all ≡ read = cc in ([], same ∙ sym (append-nil read), tt, subst (Read table) (sym same) before)
  all_stand read (part ∷ parts) all before (inr (status, bad, e)) = cc
  all_stand read (part ∷ parts) all before (inl (more, inr (status, bad, e), later)) = cc
  all_stand read (part ∷ parts) all before (inl (more, inl (accepted, given, e), later)) =
      let is = stands_for part accepted given in
      let rows = accepted.rows in
      let next = joined table read more rows is.1.holds.part_rows.not_empty is.1.holds.part_rows.fit is.1.one_partition before (sym e) in
      let rest = all_stand more parts all next.1 later in
      (rows ∷ rest.0, rest.1 ∙ ap (λ (l : List (List Row)). l ++ rest.0) next.0 ∙ append_assoc read (rows ∷ []) rest.0, (is, rest.2), rest.3)

-- ---- the folder

-- rows in key order are the rows in key order
sorted_again : (sort : List ℕ) (rows : List Row) → sorted_rows sort (sorted_rows sort rows) ≡ sorted_rows sort rows
sorted_again sort rows =
    sym (the_one (key_cmp sort) (key_cmp_total sort) (sorted_rows sort rows) (sorted_rows sort rows) (IsSorted-sorted_rows sort rows) (λ row. refl))

storable : (table : Table) (read : List (List Row)) → Read table read → read ≢ [] → few_cells table (merged_rows table.sort read) ≡ Ok tt
    → AreStorable table (merged_rows table.sort read)
storable table read is there few = record {
  not_empty = merged_some table read is.are there;
  fit = merged_fit table read is.are;
  row_limit = let same = length-sorted_rows table.sort (all_rows read) in let most = is.few in omega (arith, same, most);
  cell_limit = merged_cells table read is.are;
  projection_limit = few;
  one_partition = merged_one table read is.are;
}

writable : WriterLaws → (table : Table) (read : List (List Row)) → Read table read → read ≢ [] → few_cells table (merged_rows table.sort read) ≡ Ok tt
    → IsWritable table (merged_rows table.sort read)
writable laws table read is there few =
    subst (IsWritable table) (sorted_again table.sort (all_rows read)) (laws.writable table (merged_rows table.sort read) (storable table read is there few))

-- there is an input
some_parts : (parts : List (List ℕ)) → IsTrue (are_inputs parts) → parts ≢ []
some_parts [] are = cc
some_parts (part ∷ parts) are = λ e. cc

some_inputs : (table : Table) (files : Files) (parts : List (List ℕ)) (inputs : List (List Row)) → parts ≢ [] → StandEach table files parts inputs → inputs ≢ []
some_inputs table files [] inputs some each = absurd (some refl)
some_inputs table files (part ∷ parts) [] some each = absurd each
some_inputs table files (part ∷ parts) (rows ∷ inputs) some each = λ e. cc

-- ---- the law

-- what the steps came to
record Steps (path target : List ℕ) (parts : List (List ℕ)) (files : Files) (folder : List FileBytes) : Type 0 where
  table : Table
  known : table_in path files ≡ Ok table
  free : free_target target files ≡ Ok tt
  read : List (List Row)
  given : inputs_steps table files [] parts (Ok read)
  made : folder_of_rows table (merged_rows table.sort read) ≡ Ok folder

steps_of : (path target : List ℕ) (parts : List (List ℕ)) (files : Files) (folder : List FileBytes) → merge_steps path target parts files (Ok folder)
    → Steps path target parts files folder
steps_of path target parts files folder came =
    let first = came_by (gives (table_in path files)) (λ table. merge_table_steps table target parts files) folder came in
    let table = first.0 in
    let second = came_by (gives (are_ready target parts files)) (λ _. steps.◌>>=◌ (inputs_steps table files [] parts) (λ read. gives (folder_of_rows table (merged_rows table.sort read)))) folder first.2 in
    let third = came_by (inputs_steps table files [] parts) (λ read. gives (folder_of_rows table (merged_rows table.sort read))) folder second.2 in
    let free = passed (are_there parts files) (λ _. free_target target files) tt (sym second.1) in
    record { table = table; known = sym first.1; free = free.later; read = third.0; given = third.1; made = sym third.2 }

merged_by : AcceptsExactly → WriterLaws → (path target : List ℕ) (parts : List (List ℕ)) (files : Files) (folder : List FileBytes) (new : World) → parts ≢ []
    → Steps path target parts files folder
    → new.files ≡ Some (gained_files target (map pair_of folder) files) → Merged path target parts files new
merged_by accepts laws path target parts files folder new some s after =
    let all = all_stand accepts s.table files [] parts s.read (record { are = no_inputs s.table; few = omega arith }) s.given in
    let same : s.read ≡ all.0 = all.1 in
    let rows = merged_rows s.table.sort s.read in
    let few = passed (few_cells s.table rows) (λ _. within_limit (written_folder s.table rows)) folder s.made in
    let there : s.read ≢ [] = λ none. some_inputs s.table files parts all.0 some all.2 (sym same ∙ none) in
    record {
      table = s.table;
      table_is = s.known;
      inputs = s.read;
      stand = subst (StandEach s.table files parts) (sym same) all.2;
      gained = gained laws path target s.table rows files new folder (writable laws s.table s.read all.3 there few.given) s.known s.free few.later after;
    }

pub merged : AcceptsExactly → WriterLaws → (path target : List ℕ) (parts : List (List ℕ)) (files : Files) (old new : World) → old.files ≡ Some files
    → IsTrue (are_inputs parts) → PublishesFolderOf target (merge_steps path target parts) old new Done → Merged path target parts files new
merged accepts laws path target parts files old new known are runs =
    let done = published target (merge_steps path target parts) old new files known (merge_ends path target parts files) runs in
    merged_by accepts laws path target parts files done.0 new (some_parts parts are) (steps_of path target parts files done.0 done.1) done.2
