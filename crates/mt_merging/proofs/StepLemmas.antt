-- The steps of a merge.
use Rattle.std.proofs.Common.{◌≡◌, inl, inr, ℕ, false, List, [], ◌∷◌, map, Option, Some, None, IfSome, Result, Ok, Err, refl, sym, subst, string_bytes, Global, String}
use Rattle.mt_table.specs.declared.definition.Table.{Table}
use Rattle.mt_fault.specs.declared.file.FileBytes.{FileBytes}
use Rattle.mt_shelf.specs.Files.{Files}
use Rattle.mt_defs.specs.Rows.{Row}
use Rattle.mt_defs.specs.Sorting.{merged_rows}
use Rattle.mt_definition.specs.declared.accepted.Accepted.{Accepted}
use Rattle.mt_command.specs.Outcomes.{ReturnsOutcome}
use Rattle.mt_command.specs.Parts.{part_steps}
use Rattle.mt_command.specs.Status.{GivesOutcome, is_outside_fault}
use Rattle.mt_command.specs.Tables.{table_in}
use Rattle.mt_command.specs.Targets.{free_target}
use Rattle.mt_command.specs.declared.status.Status.{Status}
use Rattle.mt_merging.specs.Inputs.{are_ready, are_there, folder_of_rows, with_input}
use Rattle.mt_merging.specs.Merge.{input_steps, inputs_steps, merge_steps, merge_table_steps}

-- ---- the inputs and the target

pub there_refused : (target : List ℕ) (inputs : List (List ℕ)) (status : Status) (files : Option Files) → IfSome files (λ f. is_outside_fault status ≡ false → are_there inputs f ≡ Err status)
    → IfSome files (λ f. is_outside_fault status ≡ false → are_ready target inputs f ≡ Err status)
there_refused target inputs status None refused = tt
there_refused target inputs status (Some f) refused = λ inside. let now = refused inside in rw now refl

pub target_tried : (target : List ℕ) (inputs : List (List ℕ)) (result : Result Unit Status) (files mid : Option Files) → IfSome files (λ f. are_there inputs f ≡ Ok tt) → mid ≡ files
    → IfSome mid (λ f. GivesOutcome result (free_target target f)) → IfSome files (λ f. GivesOutcome result (are_ready target inputs f))
target_tried target inputs result None mid there same gives = tt
target_tried target inputs result (Some f) mid there same gives =
    let here : GivesOutcome result (free_target target f) = subst (λ files. IfSome files (λ g. GivesOutcome result (free_target target g))) same gives in
    let next : are_ready target inputs f ≡ free_target target f = rw there refl in
    subst (GivesOutcome result) (sym next) here

-- ---- an input

pub part_refused : (table : Table) (read : List (List Row)) (part : List ℕ) (status : Status) (files : Option Files) → IfSome files (λ f. is_outside_fault status ≡ false → part_steps table part f (Err status))
    → IfSome files (λ f. is_outside_fault status ≡ false → input_steps table f read part (Err status))
part_refused table read part status None refused = tt
part_refused table read part status (Some f) refused = λ inside. inr (status, refused inside, refl)

pub added_refused : (table : Table) (read : List (List Row)) (part : List ℕ) (accepted : Accepted) (status : Status) (files : Option Files) → IfSome files (λ f. part_steps table part f (Ok accepted))
    → (is_outside_fault status ≡ false → with_input table read accepted.rows ≡ Err status) → IfSome files (λ f. is_outside_fault status ≡ false → input_steps table f read part (Err status))
added_refused table read part accepted status None gives refused = tt
added_refused table read part accepted status (Some f) gives refused = λ inside. inl (accepted, gives, sym (refused inside))

pub input_given : (table : Table) (read more : List (List Row)) (part : List ℕ) (accepted : Accepted) (files : Option Files) → IfSome files (λ f. part_steps table part f (Ok accepted))
    → with_input table read accepted.rows ≡ Ok more → IfSome files (λ f. input_steps table f read part (Ok more))
input_given table read more part accepted None gives added = tt
input_given table read more part accepted (Some f) gives added = inl (accepted, gives, sym added)

-- ---- all inputs

-- an outcome of what is left is one of all
abbrev pub Lead : Table → Option Files → List (List Row) → List (String Global) → List (String Global) → Type 0
Lead table files read rest parts =
    IfSome files (λ f. (outcome : Result (List (List Row)) Status) → inputs_steps table f read (map string_bytes rest) outcome → inputs_steps table f [] (map string_bytes parts) outcome)

pub lead_all : (table : Table) (files : Option Files) (read : List (List Row)) (parts : List (String Global)) → read ≡ [] → Lead table files read parts parts
lead_all table None read parts none = tt
lead_all table (Some f) read parts none = λ outcome steps. subst (λ (r : List (List Row)). inputs_steps table f r (map string_bytes parts) outcome) none steps

pub lead_next : (table : Table) (files mid : Option Files) (read more : List (List Row)) (rest parts others : List (String Global)) (part : String Global) → rest ≡ part ∷ others → mid ≡ files
    → IfSome mid (λ f. input_steps table f read (string_bytes part) (Ok more)) → Lead table files read rest parts → Lead table files more others parts
unfolding inputs_steps
lead_next table None mid read more rest parts others part e same given before = tt
lead_next table (Some f) mid read more rest parts others part e same given before =
    let here : input_steps table f read (string_bytes part) (Ok more) = subst (λ files. IfSome files (λ g. input_steps table g read (string_bytes part) (Ok more))) same given in
    λ outcome steps. before outcome (subst (λ (r : List (String Global)). inputs_steps table f read (map string_bytes r) outcome) (sym e) (inl (more, here, steps)))

pub lead_refused : (table : Table) (files mid : Option Files) (read : List (List Row)) (rest parts others : List (String Global)) (part : String Global) (status : Status) → rest ≡ part ∷ others → mid ≡ files
    → IfSome mid (λ f. is_outside_fault status ≡ false → input_steps table f read (string_bytes part) (Err status)) → Lead table files read rest parts
    → IfSome files (λ f. is_outside_fault status ≡ false → inputs_steps table f [] (map string_bytes parts) (Err status))
unfolding inputs_steps
lead_refused table None mid read rest parts others part status e same refused before = tt
lead_refused table (Some f) mid read rest parts others part status e same refused before =
    let here : is_outside_fault status ≡ false → input_steps table f read (string_bytes part) (Err status) = subst (λ files. IfSome files (λ g. is_outside_fault status ≡ false → input_steps table g read (string_bytes part) (Err status))) same refused in
    λ inside. before (Err status) (subst (λ (r : List (String Global)). inputs_steps table f read (map string_bytes r) (Err status)) (sym e) (inr (status, here inside, refl)))

pub lead_end : (table : Table) (files : Option Files) (read : List (List Row)) (rest parts : List (String Global)) → rest ≡ [] → Lead table files read rest parts
    → IfSome files (λ f. inputs_steps table f [] (map string_bytes parts) (Ok read))
unfolding inputs_steps
lead_end table None read rest parts e before = tt
lead_end table (Some f) read rest parts e before = before (Ok read) (subst (λ (r : List (String Global)). inputs_steps table f read (map string_bytes r) (Ok read)) (sym e) refl)

-- ---- the folder

pub ready_refused : (table : Table) (target : List ℕ) (inputs : List (List ℕ)) (status : Status) (files : Option Files) → IfSome files (λ f. is_outside_fault status ≡ false → are_ready target inputs f ≡ Err status)
    → IfSome files (λ f. is_outside_fault status ≡ false → merge_table_steps table target inputs f (Err status))
ready_refused table target inputs status None refused = tt
ready_refused table target inputs status (Some f) refused = λ inside. inr (status, sym (refused inside), refl)

pub inputs_refused : (table : Table) (target : List ℕ) (inputs : List (List ℕ)) (status : Status) (files mid : Option Files) → IfSome files (λ f. are_ready target inputs f ≡ Ok tt) → mid ≡ files
    → IfSome mid (λ f. is_outside_fault status ≡ false → inputs_steps table f [] inputs (Err status)) → IfSome files (λ f. is_outside_fault status ≡ false → merge_table_steps table target inputs f (Err status))
inputs_refused table target inputs status None mid ready same refused = tt
inputs_refused table target inputs status (Some f) mid ready same refused =
    let here : is_outside_fault status ≡ false → inputs_steps table f [] inputs (Err status) = subst (λ files. IfSome files (λ g. is_outside_fault status ≡ false → inputs_steps table g [] inputs (Err status))) same refused in
    λ inside. inl (tt, sym ready, inr (status, here inside, refl))

-- what the folder's step gives is the outcome of all
folder_outcome : (table : Table) (target : List ℕ) (inputs : List (List ℕ)) (read : List (List Row)) (f : Files) → are_ready target inputs f ≡ Ok tt → inputs_steps table f [] inputs (Ok read)
    → (result : Result (List FileBytes) Status) → GivesOutcome result (folder_of_rows table (merged_rows table.sort read)) → ReturnsOutcome result (merge_table_steps table target inputs f)
folder_outcome table target inputs read f ready given (Ok folder) gives = inl (tt, sym ready, inl (read, given, sym gives))
folder_outcome table target inputs read f ready given (Err status) gives = λ inside. inl (tt, sym ready, inl (read, given, sym (gives inside)))

pub folder_given : (table : Table) (target : List ℕ) (inputs : List (List ℕ)) (read : List (List Row)) (result : Result (List FileBytes) Status) (files mid : Option Files) → IfSome files (λ f. are_ready target inputs f ≡ Ok tt) → mid ≡ files
    → IfSome mid (λ f. inputs_steps table f [] inputs (Ok read)) → GivesOutcome result (folder_of_rows table (merged_rows table.sort read)) → IfSome files (λ f. ReturnsOutcome result (merge_table_steps table target inputs f))
folder_given table target inputs read result None mid ready same given gives = tt
folder_given table target inputs read result (Some f) mid ready same given gives =
    let here : inputs_steps table f [] inputs (Ok read) = subst (λ files. IfSome files (λ g. inputs_steps table g [] inputs (Ok read))) same given in
    folder_outcome table target inputs read f ready here result gives

-- ---- the command

pub table_refused : (path target : List ℕ) (inputs : List (List ℕ)) (status : Status) (files : Option Files) → IfSome files (λ f. is_outside_fault status ≡ false → table_in path f ≡ Err status)
    → IfSome files (λ f. is_outside_fault status ≡ false → merge_steps path target inputs f (Err status))
table_refused path target inputs status None refused = tt
table_refused path target inputs status (Some f) refused = λ inside. inr (status, sym (refused inside), refl)

table_outcome : (path target : List ℕ) (inputs : List (List ℕ)) (table : Table) (f : Files) → table_in path f ≡ Ok table
    → (result : Result (List FileBytes) Status) → ReturnsOutcome result (merge_table_steps table target inputs f) → ReturnsOutcome result (merge_steps path target inputs f)
table_outcome path target inputs table f known (Ok folder) steps = inl (table, sym known, steps)
table_outcome path target inputs table f known (Err status) steps = λ inside. inl (table, sym known, steps inside)

pub table_given : (path target : List ℕ) (inputs : List (List ℕ)) (table : Table) (result : Result (List FileBytes) Status) (files mid : Option Files) → IfSome files (λ f. table_in path f ≡ Ok table) → mid ≡ files
    → IfSome mid (λ f. ReturnsOutcome result (merge_table_steps table target inputs f)) → IfSome files (λ f. ReturnsOutcome result (merge_steps path target inputs f))
table_given path target inputs table result None mid known same steps = tt
table_given path target inputs table result (Some f) mid known same steps =
    table_outcome path target inputs table f known result (subst (λ files. IfSome files (λ g. ReturnsOutcome result (merge_table_steps table target inputs g))) same steps)
