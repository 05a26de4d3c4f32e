-- The files that planning reads, and their bytes, of a listed part.
use Rattle.std.proofs.Common.{◌≡◌, ℕ, ◌+◌, ◌≤◌, Bool, List, [], ◌∷◌, ◌++◌, length, refl, ap, sym, subst, ◌∙◌, arith}
use mathlib.Core.Path.{fun_ext}
use Rattle.std.specs.Prelude.{Option, Some, None, IfSome, option_map, unwrap_or, if◌then◌else◌, Result}
use Rattle.std.specs.List.{sum_by, cons_option}
use Rattle.std.proofs.lemmas.List.Sums.{sum_by-cons}
use Rattle.mt_fault.specs.declared.fault.Fault.{Fault}
use Rattle.mt_fault.specs.declared.file.FileBytes.{FileBytes}
use Rattle.mt_table.specs.declared.definition.PartDef.{PartDef}
use Rattle.mt_table.specs.declared.definition.Table.{Table}
use Rattle.mt_table.specs.Stored.{base_of}
use Rattle.mt_shelf.specs.declared.file.Entry.{Entry}
use Rattle.mt_shelf.specs.Files.{Files, entries_below}
use Rattle.mt_shelf.specs.State.{State, ReadsUpTo}
use Rattle.mt_defs.specs.Folder.{Folder, folder_below, folder_of}
use Rattle.mt_defs.specs.Metadata.{columns_name}
use Rattle.mt_defs.specs.Part.{is_compact}
use Rattle.mt_query.specs.declared.query.Query.{Query}
use Rattle.mt_meta.specs.ColumnsReading.{columns_reading}
use Rattle.mt_types.specs.Steps.{◌>>=◌, ok_or}
use Rattle.mt_fault.specs.Faults.{blame, file_fault}
use Rattle.mt_fault.specs.declared.fault.Why.TheVariants as why
use Rattle.std.specs.Option.{option_and_then}
use Rattle.std.specs.Bool.{then_some}
use Rattle.std.specs.List.{list_all}
use Rattle.mt_types.specs.Bytes.{is_byte}
use Rattle.mt_files.specs.Listings.{listed_folder, size_in}
use Rattle.mt_files.specs.NamedFiles.{file_named, files_named, part_folder}
use Rattle.mt_files.specs.PartTexts.{order_reading}
use Rattle.mt_files.proofs.ListingLemmas.{layout_listed, size_of_file}
use Rattle.mt_plan_files.specs.Planned.{later_names, plan_cost, planned_files, planning_names}
use Rattle.mt_plan_files.specs.Sizes.{listed_size, size_at}
use Rattle.mt_plan_files.proofs.TakenLemmas.{reads_both, reads_less}

-- ---- what columns.txt says depends on it alone

abbrev order_by : PartDef → Option (List ℕ) → Result (List ℕ) Fault
order_by definition file =
    ok_or (file_fault columns_name why.Missing) (option_and_then (λ numbers. then_some (list_all is_byte numbers) numbers) file) >>= λ text. blame (file_fault columns_name) (columns_reading definition.columns definition.must text)

pub same_order : (definition : PartDef) (f g : Folder) → f columns_name ≡ g columns_name → order_reading definition f ≡ order_reading definition g
same_order definition f g same = ap (order_by definition) same

one_file : (found : Option (List ℕ)) → folder_of (cons_option (file_named (λ _. found) columns_name) []) columns_name ≡ found
one_file None = refl
one_file (Some bytes) = refl

-- ---- sizes by a listing

module _ (part : List ℕ) (listing : List Entry) (s : Files) (is : listing ≡ entries_below part s) where
  abbrev folder : Folder
  folder = part_folder part s

  same_size : (name : List ℕ) → listed_size listing name ≡ size_at folder name
  same_size name = ap (λ (es : List Entry). unwrap_or (size_in es name) 0) is ∙ ap (λ (o : Option ℕ). unwrap_or o 0) (size_of_file part name s)

  same_sizes : (names : List (List ℕ)) → sum_by (listed_size listing) names ≡ sum_by (size_at folder) names
  same_sizes names = ap (λ (f : List ℕ → ℕ). sum_by f names) (fun_ext same_size)

  module _ (table : Table) (query : Query) where
    abbrev later : List (List ℕ)
    later = later_names table query (is_compact folder) (order_reading (base_of table) folder)

    cost_is : plan_cost table query folder ≡ listed_size listing columns_name + sum_by (listed_size listing) later
    cost_is = sum_by-cons (size_at folder) columns_name later ∙ ap (λ (n : ℕ). n + sum_by (size_at folder) later) (sym (same_size columns_name)) ∙ ap (λ (n : ℕ). listed_size listing columns_name + n) (sym (same_sizes later))

    first_taken : (old new : State) → ReadsUpTo (listed_size listing columns_name) old new → ReadsUpTo (plan_cost table query folder) old new
    first_taken old new reads = reads_less old new (listed_size listing columns_name) (plan_cost table query folder) (omega (arith, cost_is)) reads

    names_are : (compact : Bool) (files : List FileBytes) (names : List (List ℕ)) → compact ≡ is_compact (folder_below (listed_folder listing) []) → files ≡ [] ++ cons_option (file_named folder columns_name) []
        → names ≡ later_names table query compact (order_reading (base_of table) (folder_of files)) → names ≡ later
    names_are compact files names layout read are =
        are ∙ ap (λ (b : Bool). later_names table query b (order_reading (base_of table) (folder_of files))) (layout ∙ ap (λ (es : List Entry). is_compact (folder_below (listed_folder es) [])) is ∙ layout_listed part [] s)
        ∙ ap (later_names table query (is_compact folder)) (same_order (base_of table) (folder_of files) folder (ap (λ (fs : List FileBytes). folder_of fs columns_name) read ∙ one_file (folder columns_name)))

    all_taken : (old mid new : State) (names : List (List ℕ)) → names ≡ later → ReadsUpTo (listed_size listing columns_name) old mid → ReadsUpTo (sum_by (listed_size listing) names) mid new → ReadsUpTo (plan_cost table query folder) old new
    all_taken old mid new names are first rest =
        subst (λ (n : ℕ). ReadsUpTo n old new) (ap (λ (ns : List (List ℕ)). listed_size listing columns_name + sum_by (listed_size listing) ns) are ∙ sym cost_is)
        (reads_both old mid new (listed_size listing columns_name) (sum_by (listed_size listing) names) first rest)

    all_read : (files new : List FileBytes) (names : List (List ℕ)) → names ≡ later → files ≡ [] ++ cons_option (file_named folder columns_name) [] → new ≡ files ++ files_named folder names → new ≡ planned_files table query folder
    all_read files new names are first rest =
        rest ∙ ap (λ (fs : List FileBytes). fs ++ files_named folder names) first ∙ ap (λ (ns : List (List ℕ)). cons_option (file_named folder columns_name) [] ++ files_named folder ns) are ∙ joined (file_named folder columns_name)
      where
        joined : (found : Option FileBytes) → cons_option found [] ++ files_named folder later ≡ cons_option found (files_named folder later)
        joined None = refl
        joined (Some file) = refl

-- ---- as the reading asks for it

module _ (part : List ℕ) (listing : List Entry) (table : Table) (query : Query) where
  abbrev Costs : Option Files → State → State → Type 0
  Costs stored old new = IfSome stored (λ s. ReadsUpTo (plan_cost table query (part_folder part s)) old new)

  abbrev IsListed : Option Files → Type 0
  IsListed stored = IfSome stored (λ s. listing ≡ entries_below part s)

  pub first_costs : (stored : Option Files) (old new : State) → IsListed stored → ReadsUpTo (listed_size listing columns_name) old new → Costs stored old new
  first_costs None old new is reads = tt
  first_costs (Some s) old new is reads = first_taken part listing s is table query old new reads

  module _ (stored now : Option Files) (compact : Bool) (initial files : List FileBytes) (names : List (List ℕ)) (none : initial ≡ []) (is : IsListed stored) (same : now ≡ stored) (layout : compact ≡ is_compact (folder_below (listed_folder listing) []))
      (read : IfSome stored (λ s. files ≡ initial ++ cons_option (file_named (part_folder part s) columns_name) [])) (are : names ≡ later_names table query compact (order_reading (base_of table) (folder_of files))) where
    abbrev alone : IfSome stored (λ s. files ≡ [] ++ cons_option (file_named (part_folder part s) columns_name) [])
    alone = subst (λ (fs : List FileBytes). IfSome stored (λ s. files ≡ fs ++ cons_option (file_named (part_folder part s) columns_name) [])) none read

    pub all_costs : (old mid new : State) → ReadsUpTo (listed_size listing columns_name) old mid → ReadsUpTo (sum_by (listed_size listing) names) mid new → Costs stored old new
    all_costs old mid new first rest = by stored is alone
      where
        by : (stored : Option Files) → IsListed stored → IfSome stored (λ s. files ≡ [] ++ cons_option (file_named (part_folder part s) columns_name) []) → Costs stored old new
        by None is read = tt
        by (Some s) is read = all_taken part listing s is table query old mid new names (names_are part listing s is table query compact files names layout read are) first rest

    pub all_known : (new : List FileBytes) → IfSome now (λ s. new ≡ files ++ files_named (part_folder part s) names) → IfSome stored (λ s. new ≡ planned_files table query (part_folder part s))
    all_known new more = by stored is alone (subst (λ (o : Option Files). IfSome o (λ s. new ≡ files ++ files_named (part_folder part s) names)) same more)
      where
        by : (stored : Option Files) → IsListed stored → IfSome stored (λ s. files ≡ [] ++ cons_option (file_named (part_folder part s) columns_name) []) → IfSome stored (λ s. new ≡ files ++ files_named (part_folder part s) names)
            → IfSome stored (λ s. new ≡ planned_files table query (part_folder part s))
        by None is read more = tt
        by (Some s) is read more = all_read part listing s is table query files new names (names_are part listing s is table query compact files names layout read are) read more
