-- The merge of the two parts has one outcome: the folder of their rows.
use Rattle.std.proofs.Common.{◌≡◌, ℕ, ◌≤◌, true, false, List, [], ◌∷◌, ◌++◌, length, refl, ap, ◌∙◌, arith, Ok, Result}
use Rattle.std.specs.Prelude.{codes}
use Rattle.std.proofs.lemmas.Bool.{le-ltb}
use Rattle.std.proofs.lemmas.List.{append-nil}
use Rattle.std.proofs.lemmas.List.Elements.{Contains-append_left, Contains-append_right, Contains-get_or}
use Rattle.std.proofs.lemmas.Slice.Eq.{bytes_eq-Decides}
use Rattle.mt_table.specs.declared.definition.Table.{Table}
use Rattle.mt_table.specs.declared.limits.TheConstants.{MAX_ROWS, MAX_CELLS}
use Rattle.mt_fault.specs.declared.file.FileBytes.{FileBytes}
use Rattle.mt_shelf.specs.Files.{Files, stands}
use Rattle.mt_defs.specs.Partition.{HaveOnePartition, partition_bytes}
use Rattle.mt_defs.specs.Rows.{Row, cell_count}
use Rattle.mt_defs.specs.Sorting.{merged_rows}
use Rattle.mt_command.specs.Parts.{part_steps}
use Rattle.mt_command.specs.Status.{◌>>=◌}
use Rattle.mt_command.specs.Targets.{free_target}
use Rattle.mt_command.specs.declared.status.Status.{Status}
use Rattle.mt_headline.specs.Storable.{AreStorable}
use Rattle.mt_merging.specs.Inputs.{all_rows, are_ready, share_partition, folder_of_rows, with_input}
use Rattle.mt_merging.specs.Merge.{input_steps, inputs_steps, merge_table_steps}
use Rattle.mt_merging.specs.Rooms.{have_room, within_limits}
use Rattle.mt_trial.specs.Steps.{half_names}
use Rattle.mt_trial.proofs.OnlyLemmas.{IsOnly, given_only, then_only}
use Rattle.mt_trial.proofs.PartLemmas.{HasPart, is_there}

-- ---- the inputs are of one partition and within the limits

pub few_left : (rows cells row_room cell_room : ℕ) → rows ≤ row_room → cells ≤ cell_room → have_room rows cells row_room cell_room ≡ Ok tt
few_left rows cells row_room cell_room few less = rw (le-ltb row_room rows few, le-ltb cell_room cells less) refl

within : (table : Table) (rows : List Row) → AreStorable table rows → within_limits table rows ≡ Ok tt
within table rows are = few_left (length rows) (cell_count table.columns rows) MAX_ROWS MAX_CELLS are.row_limit are.cell_limit

first_joins : (table : Table) (rows : List Row) → AreStorable table rows → with_input table [] rows ≡ Ok (rows ∷ [])
first_joins table rows are =
    let limits : within_limits table (all_rows (rows ∷ [])) ≡ Ok tt = ap (within_limits table) (append-nil rows) ∙ within table rows are in
    ap (λ (r : Result Unit Status). r >>= λ _. Ok (rows ∷ [])) limits

are_of_one : (table : Table) (a b : List Row) → HaveOnePartition table (all_rows (a ∷ b ∷ [])) → share_partition table a b ≡ true
are_of_one table [] b one = refl
are_of_one table (x ∷ a) [] one = refl
are_of_one table (x ∷ a) (y ∷ b) one =
    let rest : List Row = (y ∷ b) ++ [] in
    let in_rest = Contains-append_left (y ∷ b) [] y (Contains-get_or (y ∷ b) 0 y (omega arith)) in
    (bytes_eq-Decides (partition_bytes table x) (partition_bytes table y)).1
    (one x y (Contains-append_left (x ∷ a) rest x (Contains-get_or (x ∷ a) 0 x (omega arith))) (Contains-append_right (x ∷ a) rest y in_rest))

second_joins : (table : Table) (a b : List Row) → AreStorable table (all_rows (a ∷ b ∷ [])) → with_input table (a ∷ []) b ≡ Ok (a ∷ b ∷ [])
second_joins table a b are = rw (are_of_one table a b are.one_partition) (ap (λ (r : Result Unit Status). r >>= λ _. Ok (a ∷ b ∷ [])) (within table (all_rows (a ∷ b ∷ [])) are))

-- ---- they are read

input_only : (table : Table) (files : Files) (read more : List (List Row)) (part : List ℕ) (rows : List Row) → HasPart table part rows files → with_input table read rows ≡ Ok more → IsOnly (input_steps table files read part) more
input_only table files read more part rows has joins =
    then_only (part_steps table part files) _ has.accepted more has.only (given_only (with_input table read has.accepted.rows) more (ap (with_input table read) has.same ∙ joins))

inputs_only : (table : Table) (files : Files) (a b : List Row) → HasPart table (codes "even") a files → HasPart table (codes "odd") b files → AreStorable table a → AreStorable table (all_rows (a ∷ b ∷ [])) → IsOnly (inputs_steps table files [] half_names) (a ∷ b ∷ [])
unfolding inputs_steps
inputs_only table files a b even odd are all =
    then_only (input_steps table files [] (codes "even")) (λ more. inputs_steps table files more (codes "odd" ∷ [])) (a ∷ []) (a ∷ b ∷ []) (input_only table files [] (a ∷ []) (codes "even") a even (first_joins table a are))
    (then_only (input_steps table files (a ∷ []) (codes "odd")) (λ more. inputs_steps table files more []) (a ∷ b ∷ []) (a ∷ b ∷ []) (input_only table files (a ∷ []) (a ∷ b ∷ []) (codes "odd") b odd (second_joins table a b all))
    (given_only (Ok (a ∷ b ∷ [])) (a ∷ b ∷ []) refl))

-- ---- they are merged

pub free_by : (part : List ℕ) (files : Files) → stands part files ≡ false → free_target part files ≡ Ok tt
free_by part files free = rw free refl

both_ready : (table : Table) (target : List ℕ) (a b : List Row) (files : Files) → HasPart table (codes "even") a files → HasPart table (codes "odd") b files → stands target files ≡ false → are_ready target half_names files ≡ Ok tt
both_ready table target a b files even odd free = rw (is_there table (codes "even") a files even, is_there table (codes "odd") b files odd, free) refl

pub merge_only : (table : Table) (target : List ℕ) (a b : List Row) (files : Files) (folder : List FileBytes) → HasPart table (codes "even") a files → HasPart table (codes "odd") b files → stands target files ≡ false
    → AreStorable table a → AreStorable table (all_rows (a ∷ b ∷ [])) → folder_of_rows table (merged_rows table.sort (a ∷ b ∷ [])) ≡ Ok folder → IsOnly (merge_table_steps table target half_names files) folder
merge_only table target a b files folder even odd free are all made =
    then_only _ _ tt folder (given_only (are_ready target half_names files) tt (both_ready table target a b files even odd free))
    (then_only (inputs_steps table files [] half_names) _ (a ∷ b ∷ []) folder (inputs_only table files a b even odd are all) (given_only (folder_of_rows table (merged_rows table.sort (a ∷ b ∷ []))) folder made))
