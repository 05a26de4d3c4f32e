-- The partition's checks hold exactly where the rows are of one partition and the folder has its files.
use Rattle.std.proofs.Common.{◌≡◌, ◌≢◌, ℕ, Bool, false, not, List, [], ◌∷◌, length, take, map, refl, sym, ap, ◌∙◌, subst, arith, get_or, inl, inr}
use Rattle.std.specs.Prelude.{All, ◌↔◌, Some, None, Option, Result, Ok, ◌==◌, if◌then◌else◌}
use Rattle.std.specs.List.{flat_map}
use Rattle.std.specs.Str.{bytes_eq}
use Rattle.std.proofs.lemmas.Bool.{cases_Bool, not-false}
use Rattle.std.proofs.lemmas.List.{append-nil, get_or_default}
use Rattle.std.proofs.lemmas.List.Elements.{All-nil, All-cons, All-head, All-tail, All-weaker}
use Rattle.std.proofs.lemmas.Slice.Eq.{bytes_eq-Decides}
use Rattle.mt_facts.proofs.Lists.{nil_from_test}
use Rattle.mt_fault.specs.declared.file.FileBytes.{FileBytes}
use Rattle.mt_fault.specs.declared.fault.Fault.{Fault}
use Rattle.mt_fault.specs.declared.fault.Why.TheVariants.{Partition, Value}
use Rattle.mt_types.specs.Steps.{◌>>=◌, require}
use Rattle.mt_types.proofs.StepLemmas.{ok_then, required, then_of, passed}
use Rattle.mt_table.specs.declared.definition.Table.{Table}
use Rattle.mt_table.specs.declared.partition.PartExpr.{PartExpr}
use Rattle.mt_defs.specs.Folder.{Folder}
use Rattle.mt_defs.specs.Rows.{Row}
use Rattle.mt_defs.specs.Lists.{distinct_by}
use Rattle.mt_meta.specs.PartitionReading.{HasPartitionFiles}
use Rattle.mt_defs.specs.Partition.{HasPartition, HaveOnePartition, partition_bytes, partition_name, expression_bytes, expression_column}
use Rattle.mt_defs.specs.WrittenColumns.{file}
use Rattle.mt_defs.specs.WrittenPartition.{minmax_file, partition_files}
use Rattle.mt_definition.specs.declared.accepted.Accepted.{Accepted}
use Rattle.mt_fault.specs.Faults.{file_fault, granule_fault}
use Rattle.mt_granules.specs.FileFaults.{file_reading}
use Rattle.mt_files.specs.Faults.{none_found}
use Rattle.mt_check.specs.PartitionReading.{files_reading, first_value, is_other, other_partition, partition_reading}
use Rattle.mt_definition.specs.RowsReading.{granule_of}
use Rattle.mt_granules.proofs.FileByteLemmas.{file_is_read, file_was_read}
use Rattle.mt_definition.proofs.RowLemmas.{none_passes, none_found_of}
use Rattle.mt_check.proofs.PartitionBytes.{HasBytes}
use Rattle.mt_definition.proofs.DefinitionLaw.{none_is}

-- ---- files

abbrev HasFile : Folder → FileBytes → Type 0
HasFile folder file = folder file.name ≡ Some file.bytes

pub files_there : (folder : Folder) (files : List FileBytes) → files_reading folder files ≡ Ok tt → All (HasFile folder) files
unfolding files_reading
files_there folder [] e = All-nil (HasFile folder)
files_there folder (file ∷ files) e =
    ok_then (file_reading folder file.name) (λ bytes. require (bytes_eq bytes file.bytes) (file_fault file.name Value) >>= λ _. files_reading folder files) tt e (λ bytes is e.
    required (bytes_eq bytes file.bytes) (file_fault file.name Value) (λ _. files_reading folder files) tt e (λ same e.
    All-cons (HasFile folder) file files ((file_was_read folder file.name bytes is).has ∙ ap Some ((bytes_eq-Decides bytes file.bytes).0 same)) (files_there folder files e)))

pub files_are_read : (folder : Folder) (files : List FileBytes) → All (HasFile folder) files → All HasBytes files → files_reading folder files ≡ Ok tt
unfolding files_reading
files_are_read folder [] all bytes = refl
files_are_read folder (file ∷ files) all bytes =
    then_of (file_reading folder file.name) file.bytes (λ bytes. require (bytes_eq bytes file.bytes) (file_fault file.name Value) >>= λ _. files_reading folder files) (file_is_read folder file.name file.bytes (All-head (HasFile folder) file files all) (All-head HasBytes file files bytes))
    ∙ passed (bytes_eq file.bytes file.bytes) (file_fault file.name Value) (λ _. files_reading folder files) ((bytes_eq-Decides file.bytes file.bytes).1 refl)
    ∙ files_are_read folder files (All-tail (HasFile folder) file files all) (All-tail HasBytes file files bytes)

-- ---- one partition value

all_first : (table : Table) (rows : List Row) → other_partition table rows ≡ None → All (λ row. partition_bytes table row ≡ first_value table rows) rows
all_first table rows none =
    All-weaker (λ row. is_other table rows row ≡ false) (λ row. partition_bytes table row ≡ first_value table rows)
    (λ row is. (bytes_eq-Decides (partition_bytes table row) (first_value table rows)).0 (not-false (bytes_eq (partition_bytes table row) (first_value table rows)) is)) rows (none_passes (is_other table rows) rows none)

pub one_partition : (table : Table) (rows : List Row) → other_partition table rows ≡ None → HaveOnePartition table rows
one_partition table rows none a b (i, in_a, at_a) (j, in_b, at_b) =
    let all = all_first table rows none in
    ap (partition_bytes table) (sym at_a) ∙ all i a in_a ∙ sym (all j b in_b) ∙ ap (partition_bytes table) at_b

pub no_other : (table : Table) (row : Row) (rows : List Row) → HaveOnePartition table (row ∷ rows) → other_partition table (row ∷ rows) ≡ None
no_other table row rows one =
    none_found_of (is_other table (row ∷ rows)) (row ∷ rows)
    (λ i d inside.
    let same : partition_bytes table (get_or (row ∷ rows) i d) ≡ first_value table (row ∷ rows) =
    one (get_or (row ∷ rows) i d) row (i, inside, get_or_default (row ∷ rows) i (get_or (row ∷ rows) i d) d inside) (0, omega arith, refl) ∙ sym (append-nil (partition_bytes table row)) in
    ap not ((bytes_eq-Decides (partition_bytes table (get_or (row ∷ rows) i d)) (first_value table (row ∷ rows))).1 same))

-- ---- the checks

abbrev behind_rows : Table → Folder → Accepted → Unit {0} → Result Unit Fault
behind_rows table folder accepted _ = files_reading folder (partition_files table accepted.rows)

abbrev behind_file : Table → Folder → Accepted → List ℕ → Result Unit Fault
behind_file table folder accepted bytes =
    none_found (other_partition table accepted.rows) (λ row. granule_fault partition_name (granule_of accepted.granules row) Partition) >>= behind_rows table folder accepted

-- the writer's files, where there is no key and where there is one
abbrev files_by : Table → List Row → Bool → List FileBytes
files_by table rows none =
    if none then []
    else file partition_name (flat_map (partition_bytes table) (take 1 rows)) ∷ map (minmax_file table rows) (distinct_by (λ i j. i == j) (map expression_column table.partition))

-- what holds where the partition's checks hold
pub record PartitionHolds (table : Table) (folder : Folder) (rows : List Row) : Type 0 where
  pub one : HaveOnePartition table rows
  pub files : All (λ file. folder file.name ≡ Some file.bytes) (partition_files table rows)

no_key : (table : Table) (folder : Folder) (rows : List Row) → table.partition ≡ [] → PartitionHolds table folder rows
no_key table folder rows none = record {
  one = λ a b in_a in_b. ap (λ (es : List PartExpr). flat_map (expression_bytes table.columns a) es) none ∙ sym (ap (λ (es : List PartExpr). flat_map (expression_bytes table.columns b) es) none);
  files = subst (All (λ file. folder file.name ≡ Some file.bytes)) (sym (ap (λ (es : List PartExpr). files_by table rows (length es == 0)) none)) (All-nil (λ file. folder file.name ≡ Some file.bytes));
}

some_key : (table : Table) (folder : Folder) (accepted : Accepted) → (file_reading folder partition_name >>= behind_file table folder accepted) ≡ Ok tt → PartitionHolds table folder accepted.rows
some_key table folder accepted e =
    ok_then (file_reading folder partition_name) (behind_file table folder accepted) tt e (λ bytes is e.
    ok_then (none_found (other_partition table accepted.rows) (λ row. granule_fault partition_name (granule_of accepted.granules row) Partition)) (behind_rows table folder accepted) tt e (λ done none e.
    record { one = one_partition table accepted.rows (none_is (other_partition table accepted.rows) (λ row. granule_fault partition_name (granule_of accepted.granules row) Partition) none); files = files_there folder (partition_files table accepted.rows) e }))

pub partition_holds : (table : Table) (folder : Folder) (accepted : Accepted) → partition_reading table folder accepted ≡ Ok tt → PartitionHolds table folder accepted.rows
unfolding partition_reading
partition_holds table folder accepted e =
    elim (cases_Bool (length table.partition == 0)) [
      | inl empty ↦ no_key table folder accepted.rows (nil_from_test table.partition empty)
      | inr some ↦ some_key table folder accepted (sym (ap (λ (b : Bool). if b then (let r : Result Unit Fault = Ok tt in r) else (file_reading folder partition_name >>= behind_file table folder accepted)) some) ∙ e)
    ]

-- ---- and the other way

pub partition_passes : (table : Table) (folder : Folder) (accepted : Accepted) (row : Row) (rest : List Row) → accepted.rows ≡ row ∷ rest → HaveOnePartition table accepted.rows → All (HasFile folder) (partition_files table accepted.rows)
    → All HasBytes (partition_files table accepted.rows) → partition_reading table folder accepted ≡ Ok tt
unfolding partition_reading
partition_passes table folder accepted row rest is one files bytes =
    let checks : Bool → Result Unit Fault = λ b. if b then (let r : Result Unit Fault = Ok tt in r) else (file_reading folder partition_name >>= behind_file table folder accepted) in
    elim (cases_Bool (length table.partition == 0)) [
      | inl empty ↦ ap checks empty
      | inr some ↦
          let all : All (HasFile folder) (files_by table accepted.rows false) = subst (All (HasFile folder)) (ap (files_by table accepted.rows) some) files in
          let first = flat_map (partition_bytes table) (take 1 accepted.rows) in
          let others = map (minmax_file table accepted.rows) (distinct_by (λ i j. i == j) (map expression_column table.partition)) in
          let there = All-head (HasFile folder) (file partition_name first) others all in
          let held : All HasBytes (files_by table accepted.rows false) = subst (All HasBytes) (ap (files_by table accepted.rows) some) bytes in
          let no : other_partition table accepted.rows ≡ None = subst (λ (rows : List Row). other_partition table rows ≡ None) (sym is) (no_other table row rest (subst (HaveOnePartition table) is one)) in
          let fault : ℕ → Fault = λ row. granule_fault partition_name (granule_of accepted.granules row) Partition in
          ap checks some
          ∙ then_of (file_reading folder partition_name) first (behind_file table folder accepted) (file_is_read folder partition_name first there (All-head HasBytes (file partition_name first) others held))
          ∙ then_of (none_found (other_partition table accepted.rows) fault) tt (behind_rows table folder accepted) (ap (λ (o : Option ℕ). none_found o fault) no)
          ∙ files_are_read folder (partition_files table accepted.rows) files bytes
    ]

-- the checks pass exactly where the folder has the partition of the rows
pub partition_step : (table : Table) (folder : Folder) (accepted : Accepted) → (HasPartition table accepted.rows folder ↔ HasPartitionFiles table accepted.rows folder) → accepted.rows ≢ [] → All HasBytes (partition_files table accepted.rows) → (table.partition ≡ [] → folder partition_name ≡ None)
    → (partition_reading table folder accepted ≡ Ok tt) ↔ (HaveOnePartition table accepted.rows × HasPartition table accepted.rows folder)
partition_step table folder accepted compared some bytes none = (
  (λ e. let h = partition_holds table folder accepted e in (h.one, compared.1 (record { files = h.files; none = none }))),
  (λ has. by accepted.rows refl has.0 (compared.0 has.1).files),
)
  where
    by : (rows : List Row) → accepted.rows ≡ rows → HaveOnePartition table accepted.rows → All (HasFile folder) (partition_files table accepted.rows) → partition_reading table folder accepted ≡ Ok tt
    by [] is one files = absurd (some is)
    by (row ∷ rest) is one files = partition_passes table folder accepted row rest is one files bytes
