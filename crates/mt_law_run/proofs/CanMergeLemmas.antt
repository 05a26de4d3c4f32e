-- Where a merge is possible, its steps give a folder.
use Rattle.std.proofs.Common.{◌≡◌, inl, ℕ, ◌≤◌, true, List, [], ◌∷◌, ◌++◌, length, Option, Some, None, Result, Ok, All, refl, ap, sym, ◌∙◌, subst, arith}
use Rattle.std.specs.Prelude.{Contains}
use Rattle.std.proofs.lemmas.List.{append-nil, append_assoc, length-append}
use Rattle.std.proofs.lemmas.List.Concat.{flat_map-append}
use Rattle.std.proofs.lemmas.List.Elements.{All-head, All-tail, Contains-append_left, Contains-append_right, Contains-get_or}
use Rattle.std.proofs.lemmas.Slice.Eq.{bytes_eq-Decides}
use Rattle.mt_shelf.specs.declared.file.Entry.{Entry}
use Rattle.mt_shelf.specs.Files.{Files, entries_below, listing_of}
use Rattle.mt_table.specs.declared.definition.Table.{Table}
use Rattle.mt_table.specs.declared.limits.TheConstants.{MAX_CELLS, MAX_ROWS}
use Rattle.mt_defs.specs.Metadata.{columns_name}
use Rattle.mt_defs.specs.Part.{StandsFor}
use Rattle.mt_defs.specs.Partition.{HaveOnePartition, partition_bytes}
use Rattle.mt_defs.specs.Rows.{Row, cell_count}
use Rattle.mt_defs.specs.Sorting.{merged_rows}
use Rattle.mt_defs.specs.Writer.{written_folder}
use Rattle.mt_definition.specs.declared.accepted.Accepted.{Accepted}
use Rattle.mt_command.specs.Parts.{folder_at, listed_bytes, listing_in, listed_part, part_steps}
use Rattle.mt_command.specs.Status.{◌>>=◌}
use Rattle.mt_command.specs.Targets.{free_target}
use Rattle.mt_command.specs.declared.limits.TheConstants.{MAX_FOLDER}
use Rattle.mt_command.specs.declared.status.Status.{Status}
use Rattle.mt_merging.specs.Inputs.{all_rows, are_ready, are_there, share_partition, folder_of_rows, inputs_partition, some_files, with_input}
use Rattle.mt_merging.specs.Merge.{inputs_steps, merge_steps}
use Rattle.mt_merging.specs.Rooms.{within_limits}
use Rattle.mt_merging.proofs.RoomLemmas.{cells_after}
use Rattle.mt_law_run.specs.Published.{CanMerge, StandEach}
use Rattle.mt_headline.proofs.SizeLemmas.{listed_within}
use Rattle.mt_trial.proofs.MergeOnly.{few_left}
use Rattle.mt_law_run.proofs.CanWriteLemmas.{within_given}
use Rattle.mt_law_run.proofs.ReadLemmas.{AcceptsExactly}

-- ---- an input joins those before it

-- the limits on all inputs, some of which were read
record Within (table : Table) (all : List Row) : Type 0 where
  one : HaveOnePartition table all
  rows : length all ≤ MAX_ROWS
  cells : cell_count table.columns all ≤ MAX_CELLS

together : (table : Table) (first rows : List Row) (read inputs : List (List Row)) → HaveOnePartition table (all_rows ((first ∷ read) ++ rows ∷ inputs))
    → share_partition table first rows ≡ true
together table [] rows read inputs one = refl
together table (a ∷ first) [] read inputs one = refl
together table (a ∷ first) (b ∷ rows) read inputs one =
    let rest : List Row = all_rows (read ++ (b ∷ rows) ∷ inputs) in
    let split : rest ≡ all_rows read ++ all_rows ((b ∷ rows) ∷ inputs) = flat_map-append (λ (input : List Row). input) read ((b ∷ rows) ∷ inputs) in
    let in_input = Contains-append_left (b ∷ rows) (all_rows inputs) b (Contains-get_or (b ∷ rows) 0 b (omega arith)) in
    let in_rest = subst (λ (l : List Row). Contains l b) (sym split) (Contains-append_right (all_rows read) (all_rows ((b ∷ rows) ∷ inputs)) b in_input) in
    (bytes_eq-Decides (partition_bytes table a) (partition_bytes table b)).1
    (one a b (Contains-append_left (a ∷ first) rest a (Contains-get_or (a ∷ first) 0 a (omega arith))) (Contains-append_right (a ∷ first) rest b in_rest))

joins : (table : Table) (read : List (List Row)) (rows : List Row) (inputs : List (List Row)) → HaveOnePartition table (all_rows (read ++ rows ∷ inputs))
    → inputs_partition table read rows ≡ Ok tt
joins table [] rows inputs one = refl
joins table (first ∷ read) rows inputs one = let here = together table first rows read inputs one in rw here refl

with_given : (table : Table) (read : List (List Row)) (rows : List Row) (inputs : List (List Row)) → Within table (all_rows (read ++ rows ∷ inputs))
    → with_input table read rows ≡ Ok (read ++ rows ∷ [])
with_given table read rows inputs within =
    let before : List Row = all_rows (read ++ rows ∷ []) in
    let all : before ++ all_rows inputs ≡ all_rows (read ++ rows ∷ inputs) =
    sym (flat_map-append (λ (input : List Row). input) (read ++ rows ∷ []) inputs) ∙ ap all_rows (append_assoc read (rows ∷ []) inputs) in
    let long = length-append before (all_rows inputs) in
    let same = ap (λ (l : List Row). length l) all in
    let most = within.rows in
    let cells = cells_after table.columns before (all_rows inputs) in
    let same_cells = ap (cell_count table.columns) all in
    let most_cells = within.cells in
    let limits : within_limits table before ≡ Ok tt = few_left (length before) (cell_count table.columns before) MAX_ROWS MAX_CELLS (omega (arith, long, same, most)) (omega (arith, cells, same_cells, most_cells)) in
    let one = joins table read rows inputs within.one in
    rw (one, limits) refl

-- ---- all inputs

module _ (accepts : AcceptsExactly) (table : Table) (files : Files) where
  is_listed : (part : List ℕ) (rows : List Row) → StandsFor table (folder_at part files) rows → listed_bytes (entries_below part files) ≤ MAX_FOLDER
      → listing_in part files ≡ Ok (entries_below part files)
  is_listed part rows is small = let metadata = is.1.holds.metadata in listed_within part columns_name _ files metadata.lists_columns small

  part_given : (part : List ℕ) (rows : List Row) → StandsFor table (folder_at part files) rows → listed_bytes (entries_below part files) ≤ MAX_FOLDER
      → (accepted : Accepted) × part_steps table part files (Ok accepted) × (accepted.rows ≡ rows)
  part_given part rows is small =
      let held : Accepted = record { rows = rows; granules = is.0 } in
      (held, inl (entries_below part files, sym (is_listed part rows is small), (accepts table part files held).1 is.1), refl)

  all_given : (read : List (List Row)) (parts : List (List ℕ)) (inputs : List (List Row)) → StandEach table files parts inputs
      → All (λ part. listed_bytes (entries_below part files) ≤ MAX_FOLDER) parts → Within table (all_rows (read ++ inputs))
      → inputs_steps table files read parts (Ok (read ++ inputs))
  unfolding inputs_steps
  all_given read [] [] each small within = ap Ok (append-nil read)
  all_given read [] (rows ∷ inputs) each small within = absurd each
  all_given read (part ∷ parts) [] each small within = absurd each
  all_given read (part ∷ parts) (rows ∷ inputs) each small within =
      let P : List ℕ → Type 0 = λ part. listed_bytes (entries_below part files) ≤ MAX_FOLDER in
      let found = part_given part rows each.0 (All-head P part parts small) in
      let more : List (List Row) = read ++ rows ∷ [] in
      let same : more ++ inputs ≡ read ++ rows ∷ inputs = append_assoc read (rows ∷ []) inputs in
      let joined : with_input table read found.0.rows ≡ Ok more = ap (with_input table read) found.2 ∙ with_given table read rows inputs within in
      let rest = all_given more parts inputs each.1 (All-tail P part parts small) (subst (λ (l : List (List Row)). Within table (all_rows l)) (sym same) within) in
      inl (more, inl (found.0, found.1, sym joined), subst (λ (l : List (List Row)). inputs_steps table files more parts (Ok l)) same rest)

  there_given : (parts : List (List ℕ)) (inputs : List (List Row)) → StandEach table files parts inputs
      → All (λ part. listed_bytes (entries_below part files) ≤ MAX_FOLDER) parts → are_there parts files ≡ Ok tt
  there_given [] inputs each small = refl
  there_given (part ∷ parts) [] each small = absurd each
  there_given (part ∷ parts) (rows ∷ inputs) each small =
      let P : List ℕ → Type 0 = λ part. listed_bytes (entries_below part files) ≤ MAX_FOLDER in
      let here : some_files part (listing_of (entries_below part files)) ≡ Ok tt = by (listing_of (entries_below part files)) (is_listed part rows each.0 (All-head P part parts small)) in
      ap (λ (r : Result Unit Status). r >>= λ _. are_there parts files) here ∙ there_given parts inputs each.1 (All-tail P part parts small)
    where
      by : (o : Option (List Entry)) → listed_part part o ≡ Ok (entries_below part files) → some_files part o ≡ Ok tt
      by None e = cc
      by (Some listing) e = refl

  pub can_merge : (path target : List ℕ) (parts : List (List ℕ)) (inputs : List (List Row)) → CanMerge files path target parts table inputs
      → merge_steps path target parts files (Ok (written_folder table (merged_rows table.sort inputs)))
  can_merge path target parts inputs can =
      let free : free_target target files ≡ Ok tt = let is = can.free in rw is refl in
      let ready : are_ready target parts files ≡ Ok tt = ap (λ (r : Result Unit Status). r >>= λ _. free_target target files) (there_given parts inputs can.stand can.small_parts) ∙ free in
      let read = all_given [] parts inputs can.stand can.small_parts (record { one = can.one_partition; rows = can.few_rows; cells = can.cells }) in
      let few = can.projections in
      let within = within_given (written_folder table (merged_rows table.sort inputs)) can.small in
      let made : folder_of_rows table (merged_rows table.sort inputs) ≡ Ok (written_folder table (merged_rows table.sort inputs)) = rw (few, within) refl in
      inl (table, sym can.table_is, inl (tt, sym ready, inl (inputs, read, sym made)))
