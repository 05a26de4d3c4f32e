-- A skip index: its groups, and then its entries.
use Rattle.std.proofs.Common.{◌≡◌, ℕ, ◌*◌, ◌<◌, ◌≤◌, ◌^◌, Bool, true, false, List, length, ap, sym, subst, ◌∙◌, arith, get_or}
use Rattle.std.specs.Prelude.{sum, if◌then◌else◌, Result, Ok}
use Rattle.std.specs.List.{zip}
use Rattle.mt_facts.proofs.Numbers.{length_within_sum}
use Rattle.std.proofs.lemmas.List.{get_or_default}
use Rattle.mt_types.specs.declared.ty.Ty.{Ty}
use Rattle.mt_fault.specs.declared.fault.Fault.{Fault}
use Rattle.mt_fault.specs.declared.error.FileError.{FileError}
use Rattle.mt_table.specs.declared.column.Column.{Column}
use Rattle.mt_table.specs.declared.definition.Table.{Table}
use Rattle.mt_table.specs.declared.skip.Skip.{Skip}
use Rattle.mt_defs.specs.Folder.{Folder}
use Rattle.mt_defs.specs.Granules.{AreGranules, granule_rows}
use Rattle.mt_defs.specs.Metadata.{column_at, no_column}
use Rattle.mt_defs.specs.Part.{is_compact, marks_ending}
use Rattle.mt_defs.specs.Rows.{Row}
use Rattle.mt_defs.specs.SkipIndexes.{entry_rows}
use Rattle.mt_definition.specs.declared.accepted.Accepted.{Accepted}
use Rattle.mt_check.specs.FolderChecks.{entries_checks, index_checks, skip_checks, skip_is_there}
use Rattle.mt_fault.specs.Results.{FailsAs, Gives}
use Rattle.mt_check.specs.RowGroups.{group_sizes}
use Rattle.mt_files.specs.SkipMarks.{has_files, index_entries}
use Rattle.mt_fault.proofs.FaultLemmas.{fails_then, gives_then}
use Rattle.mt_defs.proofs.GranuleLemmas.{length-granule_rows}
use Rattle.mt_check.proofs.GroupLemmas.{sizes_few, sizes_sum, product_small, groups_are}

sizes_are : (skip : Skip) (granules slice sizes : List ℕ) → slice ≡ granules → sizes ≡ group_sizes skip.granularity (length slice) slice → sizes ≡ group_sizes skip.granularity (length granules) granules
sizes_are skip granules slice sizes same are = are ∙ ap (λ (gs : List ℕ). group_sizes skip.granularity (length gs) gs) same

pub few_entries : (skip : Skip) (rows : List Row) (granules slice sizes : List ℕ) (count : ℕ) → slice ≡ granules → sizes ≡ group_sizes skip.granularity (length slice) slice → count ≡ length sizes → AreGranules granules rows → length rows ≤ 4194304
    → skip.granularity ≤ 1048576 → count * skip.granularity < 2 ^ 64
few_entries skip rows granules slice sizes count same are counted cut few small =
    let fewer = sizes_few skip.granularity (length granules) granules in
    let many = length_within_sum granules cut.not_empty in
    let size = ap length (sizes_are skip granules slice sizes same are) in
    let all = cut.all in
    product_small count skip.granularity (omega (arith, fewer, many, size, counted, all, few)) small

-- the rows of the entries, and how many entries there are
pub groups_of : (skip : Skip) (rows : List Row) (granules slice sizes : List ℕ) → slice ≡ granules → sizes ≡ group_sizes skip.granularity (length slice) slice → entry_rows skip rows granules ≡ granule_rows sizes rows
groups_of skip rows granules slice sizes same are = groups_are skip.granularity (length granules) granules rows ∙ ap (λ (ss : List ℕ). granule_rows ss rows) (sym (sizes_are skip granules slice sizes same are))

pub count_of : (skip : Skip) (rows : List Row) (granules slice sizes : List ℕ) (count : ℕ) → slice ≡ granules → sizes ≡ group_sizes skip.granularity (length slice) slice → count ≡ length sizes → count ≡ length (entry_rows skip rows granules)
count_of skip rows granules slice sizes count same are counted = counted ∙ sym (length-granule_rows sizes rows) ∙ ap length (sym (groups_of skip rows granules slice sizes same are))

pub sum_of : (skip : Skip) (rows : List Row) (granules slice sizes : List ℕ) → slice ≡ granules → sizes ≡ group_sizes skip.granularity (length slice) slice → AreGranules granules rows → 1 ≤ skip.granularity → sum sizes ≡ length rows
sum_of skip rows granules slice sizes same are cut some = ap sum (sizes_are skip granules slice sizes same are) ∙ sizes_sum skip.granularity (length granules) granules some (omega arith) ∙ cut.all

reading_is : (folder : Folder) (accepted : Accepted) (skip : Skip) (slice sizes : List ℕ) (count : ℕ) (compact : Bool) → slice ≡ accepted.granules → sizes ≡ group_sizes skip.granularity (length slice) slice → count ≡ length sizes → compact ≡ is_compact folder
    → index_entries folder (marks_ending compact) skip count ≡ index_entries folder (marks_ending (is_compact folder)) skip (length (entry_rows skip accepted.rows accepted.granules))
reading_is folder accepted skip slice sizes count compact same are counted layout =
    ap (λ (b : Bool). index_entries folder (marks_ending b) skip count) layout
    ∙ ap (index_entries folder (marks_ending (is_compact folder)) skip) (count_of skip accepted.rows accepted.granules slice sizes count same are counted)

abbrev behind : Table → Accepted → Skip → List (List ℕ) → Result Unit Fault
behind table accepted skip entries = entries_checks skip (column_at table.columns skip.column).ty 0 (zip (entry_rows skip accepted.rows accepted.granules) entries)

pub entries_fail : (table : Table) (folder : Folder) (accepted : Accepted) (skip : Skip) (slice sizes : List ℕ) (count : ℕ) (compact : Bool) (e : FileError) → slice ≡ accepted.granules → sizes ≡ group_sizes skip.granularity (length slice) slice
    → count ≡ length sizes → compact ≡ is_compact folder → FailsAs e (index_entries folder (marks_ending compact) skip count) → FailsAs e (index_checks table folder accepted skip)
entries_fail table folder accepted skip slice sizes count compact e same are counted layout fails =
    let reading = index_entries folder (marks_ending (is_compact folder)) skip (length (entry_rows skip accepted.rows accepted.granules)) in
    fails_then e reading (behind table accepted skip) (subst (FailsAs e) (reading_is folder accepted skip slice sizes count compact same are counted layout) fails)

pub entries_left : (table : Table) (folder : Folder) (accepted : Accepted) (skip : Skip) (slice sizes : List ℕ) (count : ℕ) (compact : Bool) (entries : List (List ℕ)) (ty : Ty) (rows : List Row) (r : Result Unit FileError) → slice ≡ accepted.granules
    → sizes ≡ group_sizes skip.granularity (length slice) slice → count ≡ length sizes → compact ≡ is_compact folder → index_entries folder (marks_ending compact) skip count ≡ Ok entries → ty ≡ (column_at table.columns skip.column).ty → rows ≡ accepted.rows
    → Gives r (entries_checks skip ty 0 (zip (granule_rows sizes rows) entries)) → Gives r (index_checks table folder accepted skip)
entries_left table folder accepted skip slice sizes count compact entries ty rows r same are counted layout reads is held answers =
    let reading = index_entries folder (marks_ending (is_compact folder)) skip (length (entry_rows skip accepted.rows accepted.granules)) in
    let groups : granule_rows sizes rows ≡ entry_rows skip accepted.rows accepted.granules = ap (granule_rows sizes) held ∙ sym (groups_of skip accepted.rows accepted.granules slice sizes same are) in
    gives_then entries r reading (behind table accepted skip) (sym (reading_is folder accepted skip slice sizes count compact same are counted layout) ∙ reads)
    (subst (λ (t : Ty). Gives r (entries_checks skip t 0 (zip (entry_rows skip accepted.rows accepted.granules) entries))) is
    (subst (λ (gs : List (List Row)). Gives r (entries_checks skip ty 0 (zip gs entries))) groups answers))

-- the type of the index's column, where code reads it
pub type_at : (columns slice : List Column) (place : ℕ) (d : Column) → slice ≡ columns → place < length columns → (get_or slice place d).ty ≡ (column_at columns place).ty
type_at columns slice place d same inside = ap (λ (cs : List Column). (get_or cs place d).ty) same ∙ ap (λ (c : Column). c.ty) (get_or_default columns place d no_column inside)

-- ---- whether it is there

pub index_there : (table : Table) (folder : Folder) (accepted : Accepted) (skip : Skip) (compact : Bool) (r : Result Unit FileError) → compact ≡ is_compact folder → true ≡ has_files folder (marks_ending compact) skip
    → Gives r (index_checks table folder accepted skip) → Gives r (skip_checks table folder accepted skip)
index_there table folder accepted skip compact r layout there gives =
    subst (λ (b : Bool). Gives r (if b then index_checks table folder accepted skip else Ok tt)) (there ∙ ap (λ (b : Bool). has_files folder (marks_ending b) skip) layout) gives

pub index_absent : (table : Table) (folder : Folder) (accepted : Accepted) (skip : Skip) (compact : Bool) → compact ≡ is_compact folder → false ≡ has_files folder (marks_ending compact) skip → skip_checks table folder accepted skip ≡ Ok tt
index_absent table folder accepted skip compact layout absent =
    ap (λ (b : Bool). if b then index_checks table folder accepted skip else Ok tt) (sym (absent ∙ ap (λ (b : Bool). has_files folder (marks_ending b) skip) layout))
