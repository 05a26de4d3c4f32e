-- The checks of a partition's files, step by step.
use Rattle.std.proofs.Common.{◌≡◌, ℕ, suc, ◌+◌, ◌<◌, ◌≤◌, Bool, true, false, not, List, [], ◌∷◌, length, map, drop, refl, ap, sym, subst, ◌∙◌, get_or, arith, inl, inr}
use Rattle.std.specs.Prelude.{Option, Some, None, Result, Ok, Err, ◌==◌, ◌↔◌, IsTrue, if◌then◌else◌}
use Rattle.std.specs.Str.{bytes_eq}
use Rattle.std.proofs.lemmas.List.{append-nil}
use Rattle.std.proofs.lemmas.Bool.{cases_Bool}
use Rattle.std.proofs.lemmas.Slice.Eq.{bytes_eq-Decides}
use Rattle.mt_facts.proofs.Lists.{drop_next}
use Rattle.mt_fault.specs.declared.file.FileBytes.{FileBytes}
use Rattle.mt_fault.specs.declared.fault.Fault.{Fault}
use Rattle.mt_fault.specs.declared.error.FileError.{FileError}
use Rattle.mt_fault.specs.declared.fault.Why.TheVariants.{Partition, Value}
use Rattle.mt_types.specs.Steps.{◌>>=◌, require}
use Rattle.mt_types.proofs.StepLemmas.{then_of, passed, failed}
use Rattle.mt_table.specs.declared.definition.Table.{Table}
use Rattle.mt_table.specs.declared.partition.PartExpr.{PartExpr}
use Rattle.mt_defs.specs.Folder.{Folder}
use Rattle.mt_defs.specs.Rows.{Row}
use Rattle.mt_defs.specs.Partition.{partition_bytes, partition_name}
use Rattle.mt_defs.specs.WrittenPartition.{partition_files}
use Rattle.mt_definition.specs.declared.accepted.Accepted.{Accepted}
use Rattle.mt_fault.specs.Faults.{file_fault, granule_fault}
use Rattle.mt_granules.specs.FileFaults.{file_reading}
use Rattle.mt_files.specs.Faults.{none_found}
use Rattle.mt_check.specs.PartitionReading.{files_reading, first_value, is_other, other_partition, partition_reading}
use Rattle.mt_fault.specs.Results.{Gives, FailsAs}
use Rattle.mt_fault.specs.Results.{IsFault}
use Rattle.mt_definition.specs.RowsReading.{first_index, granule_of}
use Rattle.mt_fault.proofs.FaultLemmas.{fails_then, fault_gives}
use Rattle.mt_files.proofs.LoopLemmas.{at_end, nonempty}
use Rattle.mt_definition.proofs.RowLemmas.{later_by, index_here, index_step}

-- ---- the files

abbrev same_bytes : Folder → FileBytes → List FileBytes → List ℕ → Result Unit Fault
same_bytes folder file files bytes = require (bytes_eq bytes file.bytes) (file_fault file.name Value) >>= λ _. files_reading folder files

files_next : (folder : Folder) (file : FileBytes) (files : List FileBytes) → files_reading folder (file ∷ files) ≡ (file_reading folder file.name >>= same_bytes folder file files)
unfolding files_reading
files_next folder file files = refl

files_at : (folder : Folder) (written : List FileBytes) (i : ℕ) (file : FileBytes) (whole : Result Unit Fault) → files_reading folder (drop i written) ≡ whole → i < length written → file ≡ get_or written i file
    → (file_reading folder file.name >>= same_bytes folder file (drop (i + 1) written)) ≡ whole
files_at folder written i file whole ahead inside at = sym (ap (files_reading folder) (drop_next written i file inside at) ∙ files_next folder file (drop (i + 1) written)) ∙ ahead

pub files_fail : (folder : Folder) (written : List FileBytes) (i : ℕ) (file : FileBytes) (whole : Result Unit Fault) (name : List ℕ) (e : FileError) → files_reading folder (drop i written) ≡ whole → i < length written → file ≡ get_or written i file
    → name ≡ file.name → FailsAs e (file_reading folder name) → FailsAs e whole
files_fail folder written i file whole name e ahead inside at named fails =
    subst (FailsAs e) (files_at folder written i file whole ahead inside at)
    (fails_then e (file_reading folder file.name) (same_bytes folder file (drop (i + 1) written)) (subst (λ (n : List ℕ). FailsAs e (file_reading folder n)) named fails))

pub files_differ : (folder : Folder) (written : List FileBytes) (i : ℕ) (file : FileBytes) (whole : Result Unit Fault) (name other bytes : List ℕ) (e : FileError) → files_reading folder (drop i written) ≡ whole → i < length written → file ≡ get_or written i file
    → name ≡ file.name → file_reading folder name ≡ Ok bytes → bytes_eq bytes file.bytes ≡ false → other ≡ file.name → IsFault (file_fault other Value) e → FailsAs e whole
files_differ folder written i file whole name other bytes e ahead inside at named is differ again fault =
    fault_gives (file_fault file.name Value) e whole (subst (λ (n : List ℕ). IsFault (file_fault n Value) e) again fault)
    (sym (files_at folder written i file whole ahead inside at)
    ∙ then_of (file_reading folder file.name) bytes (same_bytes folder file (drop (i + 1) written)) (ap (file_reading folder) (sym named) ∙ is)
    ∙ failed (bytes_eq bytes file.bytes) (file_fault file.name Value) (λ _. files_reading folder (drop (i + 1) written)) differ)

pub files_same : (folder : Folder) (written : List FileBytes) (i : ℕ) (file : FileBytes) (whole : Result Unit Fault) (name bytes : List ℕ) → files_reading folder (drop i written) ≡ whole → i < length written → file ≡ get_or written i file
    → name ≡ file.name → file_reading folder name ≡ Ok bytes → bytes_eq bytes file.bytes ≡ true → files_reading folder (drop (i + 1) written) ≡ whole
files_same folder written i file whole name bytes ahead inside at named is same =
    sym (passed (bytes_eq bytes file.bytes) (file_fault file.name Value) (λ _. files_reading folder (drop (i + 1) written)) same)
    ∙ sym (then_of (file_reading folder file.name) bytes (same_bytes folder file (drop (i + 1) written)) (ap (file_reading folder) (sym named) ∙ is))
    ∙ files_at folder written i file whole ahead inside at

pub files_done : (folder : Folder) (written : List FileBytes) (i : ℕ) (whole : Result Unit Fault) → files_reading folder (drop i written) ≡ whole → length written ≤ i → whole ≡ Ok tt
unfolding files_reading
files_done folder written i whole ahead over = sym ahead ∙ ap (files_reading folder) (at_end written i over)

-- ---- the rows

first_is : (table : Table) (row : Row) (rows : List Row) → first_value table (row ∷ rows) ≡ partition_bytes table row
first_is table row rows = append-nil (partition_bytes table row)

pub first_value_is : (table : Table) (rows : List Row) (first : Row) → 0 < length rows → first ≡ get_or rows 0 first → first_value table rows ≡ partition_bytes table first
first_value_is table [] first some at = absurd (omega (arith, some))
first_value_is table (row ∷ rows) first some at = first_is table row rows ∙ ap (partition_bytes table) (sym at)

other_by : (table : Table) (rows : List Row) (row first : Row) (same : Bool) → 0 < length rows → first ≡ get_or rows 0 first → (IsTrue same ↔ (partition_bytes table row ≡ partition_bytes table first)) → is_other table rows row ≡ not same
other_by table rows row first true some at decides = ap not ((bytes_eq-Decides (partition_bytes table row) (first_value table rows)).1 (decides.0 refl ∙ sym (first_value_is table rows first some at)))
other_by table rows row first false some at decides =
    elim (cases_Bool (bytes_eq (partition_bytes table row) (first_value table rows))) [
      | inl same ↦ absurd (let e : false ≡ true = decides.1 ((bytes_eq-Decides (partition_bytes table row) (first_value table rows)).0 same ∙ first_value_is table rows first some at) in cc)
      | inr other ↦ ap not other
    ]

pub other_here : (table : Table) (rows : List Row) (i : ℕ) (row first : Row) (same : Bool) → other_partition table rows ≡ later_by i (first_index (is_other table rows) (drop i rows)) → i < length rows → row ≡ get_or rows i row → first ≡ get_or rows 0 first
    → (IsTrue same ↔ (partition_bytes table row ≡ partition_bytes table first)) → same ≡ false → Some i ≡ other_partition table rows
other_here table rows i row first same ahead inside at at_first decides other =
    sym (ahead ∙ index_here (is_other table rows) rows i row inside (ap (is_other table rows) (sym at) ∙ other_by table rows row first same (omega (arith, inside)) at_first decides ∙ ap not other))

pub other_later : (table : Table) (rows : List Row) (i : ℕ) (row first : Row) (same : Bool) → other_partition table rows ≡ later_by i (first_index (is_other table rows) (drop i rows)) → i < length rows → row ≡ get_or rows i row → first ≡ get_or rows 0 first
    → (IsTrue same ↔ (partition_bytes table row ≡ partition_bytes table first)) → same ≡ true → other_partition table rows ≡ later_by (i + 1) (first_index (is_other table rows) (drop (i + 1) rows))
other_later table rows i row first same ahead inside at at_first decides is =
    ahead ∙ index_step (is_other table rows) rows i row inside (ap (is_other table rows) (sym at) ∙ other_by table rows row first same (omega (arith, inside)) at_first decides ∙ ap not is)
    ∙ ap (λ k. later_by k (first_index (is_other table rows) (drop k rows))) (let e : suc i ≡ i + 1 = omega arith in e)

-- ---- the partition

abbrev rest : Table → Folder → Accepted → Result Unit Fault
rest table folder accepted =
    none_found (other_partition table accepted.rows) (λ row. granule_fault partition_name (granule_of accepted.granules row) Partition) >>= λ _. files_reading folder (partition_files table accepted.rows)

pub no_partition : (table : Table) (folder : Folder) (accepted : Accepted) → table.partition ≡ [] → partition_reading table folder accepted ≡ Ok tt
unfolding partition_reading
no_partition table folder accepted none =
    let empty : (length table.partition == 0) ≡ true = ap (λ (p : List PartExpr). length p == 0) none in
    ap (λ (b : Bool). if b then (let r : Result Unit Fault = Ok tt in r) else (file_reading folder partition_name >>= λ _. rest table folder accepted)) empty

partition_is : (table : Table) (folder : Folder) (accepted : Accepted) → (table.partition ≡ [] → ⊥) → partition_reading table folder accepted ≡ (file_reading folder partition_name >>= λ _. rest table folder accepted)
unfolding partition_reading
partition_is table folder accepted some =
    ap (λ (b : Bool). if b then (let r : Result Unit Fault = Ok tt in r) else (file_reading folder partition_name >>= λ _. rest table folder accepted)) (nonempty table.partition some)

pub partition_missing : (table : Table) (folder : Folder) (accepted : Accepted) (e : FileError) → (table.partition ≡ [] → ⊥) → FailsAs e (file_reading folder partition_name) → FailsAs e (partition_reading table folder accepted)
partition_missing table folder accepted e some fails =
    subst (FailsAs e) (sym (partition_is table folder accepted some)) (fails_then e (file_reading folder partition_name) (λ _. rest table folder accepted) fails)

pub partition_other : (table : Table) (folder : Folder) (accepted : Accepted) (bytes : List ℕ) (row granule : ℕ) (e : FileError) → (table.partition ≡ [] → ⊥) → file_reading folder partition_name ≡ Ok bytes
    → Some row ≡ other_partition table accepted.rows → granule ≡ granule_of accepted.granules row → IsFault (granule_fault partition_name granule Partition) e → FailsAs e (partition_reading table folder accepted)
partition_other table folder accepted bytes row granule e some is found at fault =
    fault_gives (granule_fault partition_name granule Partition) e (partition_reading table folder accepted) fault
    (partition_is table folder accepted some ∙ then_of (file_reading folder partition_name) bytes (λ _. rest table folder accepted) is
    ∙ ap (λ (o : Option ℕ). none_found o (λ row. granule_fault partition_name (granule_of accepted.granules row) Partition) >>= λ _. files_reading folder (partition_files table accepted.rows)) (sym found)
    ∙ ap (λ g. Err (granule_fault partition_name g Partition)) (sym at))

pub partition_rest : (table : Table) (folder : Folder) (accepted : Accepted) (bytes : List ℕ) (written : List FileBytes) (r : Result Unit FileError) → (table.partition ≡ [] → ⊥) → file_reading folder partition_name ≡ Ok bytes
    → None ≡ other_partition table accepted.rows → written ≡ partition_files table accepted.rows → Gives r (files_reading folder written) → Gives r (partition_reading table folder accepted)
partition_rest table folder accepted bytes written r some is none are gives =
    let whole : files_reading folder written ≡ partition_reading table folder accepted =
    sym (partition_is table folder accepted some ∙ then_of (file_reading folder partition_name) bytes (λ _. rest table folder accepted) is
    ∙ ap (λ (o : Option ℕ). none_found o (λ row. granule_fault partition_name (granule_of accepted.granules row) Partition) >>= λ _. files_reading folder (partition_files table accepted.rows)) (sym none)
    ∙ ap (files_reading folder) (sym are)) in
    subst (Gives r) whole gives
