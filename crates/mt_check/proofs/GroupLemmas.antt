-- Groups of granules, and the entries over them.
use Rattle.std.proofs.Common.{◌≡◌, ℕ, zero, suc, ◌+◌, ◌*◌, ◌<◌, ◌≤◌, ◌^◌, Bool, true, false, List, [], ◌∷◌, ◌++◌, length, take, drop, refl, ap, sym, subst, ◌∙◌, arith, min, get_or}
use Rattle.std.specs.Prelude.{sum, All, Result, Ok, Err, ◌==◌}
use Rattle.std.specs.List.{zip}
use Rattle.std.proofs.Math.Nat.{mul-le-mul}
use Rattle.std.proofs.lemmas.List.{append_assoc, length-drop, take-map, drop-map}
use Rattle.std.proofs.lemmas.List.Elements.{All-take, All-drop, All-map, All-weaker}
use Rattle.std.proofs.lemmas.List.Sums.{sum_by-cons, sum_by-take-drop}
use Rattle.mt_facts.proofs.Lists.{drop_next, cut_at, shorter_without, some_left}
use Rattle.mt_types.specs.declared.ty.Ty.{Ty}
use Rattle.mt_types.specs.Fits.{fits_of}
use Rattle.mt_types.specs.Steps.{◌>>=◌, require}
use Rattle.mt_types.proofs.StepLemmas.{passed, then_of}
use Rattle.mt_fault.specs.declared.fault.Fault.{Fault}
use Rattle.mt_fault.specs.declared.error.FileError.{FileError}
use Rattle.mt_fault.specs.declared.fault.Why.TheVariants as why
use Rattle.mt_table.specs.declared.column.Column.{Column}
use Rattle.mt_table.specs.declared.skip.Skip.{Skip}
use Rattle.mt_defs.specs.Granules.{granule_rows}
use Rattle.mt_defs.specs.Rows.{Row, RowFits, cell, column_values}
use Rattle.mt_defs.specs.SkipIndexes.{summarizes, entry_groups, skip_data_name}
use Rattle.mt_fault.specs.Faults.{granule_fault}
use Rattle.mt_check.specs.FolderChecks.{each, entries_checks}
use Rattle.mt_fault.specs.Results.{FailsAs}
use Rattle.mt_fault.specs.Results.{IsFault}
use Rattle.mt_check.specs.RowGroups.{group_sizes}
use Rattle.mt_files.specs.SkipMarks.{pieces_at}
use Rattle.mt_fault.proofs.FaultLemmas.{fails_then, test_fails}
use Rattle.mt_defs.proofs.RowLemmas.{cell_fits}
use Rattle.mt_skip.proofs.GroupLemmas.{rows_behind, rows_together}
use Rattle.mt_files.proofs.LoopLemmas.{at_end}

-- ---- sizes

-- a bound on the number of groups that is no less than that of the granules doesn't matter
sizes_enough : (per m n : ℕ) (granules : List ℕ) → 1 ≤ per → length granules ≤ m → length granules ≤ n → group_sizes per m granules ≡ group_sizes per n granules
sizes_enough per zero zero granules some low high = refl
sizes_enough per zero (suc n) [] some low high = refl
sizes_enough per zero (suc n) (count ∷ granules) some low high = absurd (omega (arith, low))
sizes_enough per (suc m) zero [] some low high = refl
sizes_enough per (suc m) zero (count ∷ granules) some low high = absurd (omega (arith, high))
sizes_enough per (suc m) (suc n) [] some low high = refl
sizes_enough per (suc m) (suc n) (count ∷ granules) some low high =
    let less = shorter_without per count granules some in
    ap (λ sizes. sum (take per (count ∷ granules)) ∷ sizes) (sizes_enough per m n (drop per (count ∷ granules)) some (omega (arith, less, low)) (omega (arith, less, high)))

sizes_step : (per : ℕ) (granules : List ℕ) → 1 ≤ per → 0 < length granules → group_sizes per (length granules) granules ≡ sum (take per granules) ∷ group_sizes per (length (drop per granules)) (drop per granules)
sizes_step per [] some more = absurd (omega (arith, more))
sizes_step per (count ∷ granules) some more =
    ap (λ sizes. sum (take per (count ∷ granules)) ∷ sizes) (sizes_enough per (length granules) (length (drop per (count ∷ granules))) (drop per (count ∷ granules)) some (shorter_without per count granules some) (omega arith))

pub sizes_more : (per n size : ℕ) (rest group after sizes new whole : List ℕ) (empty : Bool) → 1 ≤ per → empty ≡ (length rest == 0) → empty ≡ false → n ≡ min (length rest) per → group ≡ take n rest → after ≡ drop n rest → size ≡ sum group
    → new ≡ sizes ++ size ∷ [] → sizes ++ group_sizes per (length rest) rest ≡ whole → new ++ group_sizes per (length after) after ≡ whole
sizes_more per n size rest group after sizes new whole empty some is more cut front back total push ahead =
    let both = cut_at per n rest cut in
    let later : after ≡ drop per rest = back ∙ both.1 in
    let first : size ≡ sum (take per rest) = total ∙ ap sum (front ∙ both.0) in
    ap (λ l. l ++ group_sizes per (length after) after) push ∙ append_assoc sizes (size ∷ []) (group_sizes per (length after) after)
    ∙ ap (λ (ks : List ℕ). sizes ++ size ∷ group_sizes per (length ks) ks) later ∙ ap (λ k. sizes ++ k ∷ group_sizes per (length (drop per rest)) (drop per rest)) first
    ∙ ap (λ l. sizes ++ l) (sym (sizes_step per rest some (some_left rest empty is more))) ∙ ahead

pub rest_less : (n : ℕ) (rest after granules : List ℕ) → after ≡ drop n rest → sum rest ≤ sum granules → sum after ≤ sum granules
rest_less n rest after granules back less = omega (arith, ap sum back, less, sum_by-take-drop (λ k. k) rest n)

pub group_less : (n : ℕ) (rest group granules : List ℕ) → group ≡ take n rest → sum rest ≤ sum granules → sum group ≤ sum granules
group_less n rest group granules front less = omega (arith, ap sum front, less, sum_by-take-drop (λ k. k) rest n)

-- ---- their number and their sum

pub sizes_few : (per n : ℕ) (granules : List ℕ) → length (group_sizes per n granules) ≤ n
sizes_few per zero granules = omega arith
sizes_few per (suc n) [] = omega arith
sizes_few per (suc n) (count ∷ granules) = let less = sizes_few per n (drop per (count ∷ granules)) in omega (arith, less)

pub sizes_sum : (per n : ℕ) (granules : List ℕ) → 1 ≤ per → length granules ≤ n → sum (group_sizes per n granules) ≡ sum granules
sizes_sum per zero [] some enough = refl
sizes_sum per zero (count ∷ granules) some enough = absurd (omega (arith, enough))
sizes_sum per (suc n) [] some enough = refl
sizes_sum per (suc n) (count ∷ granules) some enough =
    let all = count ∷ granules in
    let later = sizes_sum per n (drop per all) some (let less = shorter_without per count granules some in omega (arith, less, enough)) in
    let parts = sum_by-take-drop (λ k. k) all per in
    let whole = sum_by-cons (λ k. k) (sum (take per all)) (group_sizes per n (drop per all)) in
    omega (arith, later, parts, whole)

pub product_small : (count per : ℕ) → count ≤ 4194304 → per ≤ 1048576 → count * per < 2 ^ 64
product_small count per few small = let product : count * per ≤ 4194304 * 1048576 = mul-le-mul few small in omega (arith, product)

-- ---- the rows of each

pub groups_are : (per n : ℕ) (granules : List ℕ) (rows : List Row) → entry_groups per n (granule_rows granules rows) ≡ granule_rows (group_sizes per n granules) rows
groups_are per zero granules rows = refl
groups_are per (suc n) [] rows = refl
groups_are per (suc n) (count ∷ granules) rows =
    let all = count ∷ granules in
    let size = sum (take per all) in
    ap (λ (first : List Row). first ∷ entry_groups per n (drop per (granule_rows all rows))) (rows_together per all rows)
    ∙ ap (λ (groups : List (List Row)). take size rows ∷ groups) (ap (entry_groups per n) (rows_behind per all rows) ∙ groups_are per n (drop per all) (drop size rows))

-- ---- values

values_fit_at : (columns : List Column) (i : ℕ) (d : Column) (rows : List Row) → i < length columns → All (RowFits columns) rows → All (λ value. fits_of (get_or columns i d).ty value ≡ true) (column_values i rows)
values_fit_at columns i d rows inside fit =
    All-map (λ value. fits_of (get_or columns i d).ty value ≡ true) (λ (row : Row). cell row i) rows
    (All-weaker (RowFits columns) (λ row. fits_of (get_or columns i d).ty (cell row i) ≡ true) (λ row fits. cell_fits columns row i d fits inside) rows fit)

pub values_fit : (columns : List Column) (skip : Skip) (slice : List Column) (d : Column) (rows held : List Row) → slice ≡ columns → held ≡ rows → skip.column < length columns → All (RowFits columns) rows
    → All (λ value. fits_of (get_or slice skip.column d).ty value ≡ true) (column_values skip.column held)
values_fit columns skip slice d rows held same holds inside fit =
    subst (λ (cs : List Column). All (λ value. fits_of (get_or cs skip.column d).ty value ≡ true) (column_values skip.column held)) (sym same)
    (subst (λ (rs : List Row). All (λ value. fits_of (get_or columns skip.column d).ty value ≡ true) (column_values skip.column rs)) (sym holds) (values_fit_at columns skip.column d rows inside fit))

pub values_taken : (ty : Ty) (column n : ℕ) (rows group : List Row) → group ≡ take n rows → All (λ value. fits_of ty value ≡ true) (column_values column rows) → All (λ value. fits_of ty value ≡ true) (column_values column group)
values_taken ty column n rows group front fit =
    subst (All (λ value. fits_of ty value ≡ true)) (take-map (λ (row : Row). cell row column) n rows ∙ ap (column_values column) (sym front)) (All-take (λ value. fits_of ty value ≡ true) n (column_values column rows) fit)

pub values_left : (ty : Ty) (column n : ℕ) (rows after : List Row) → after ≡ drop n rows → All (λ value. fits_of ty value ≡ true) (column_values column rows) → All (λ value. fits_of ty value ≡ true) (column_values column after)
values_left ty column n rows after back fit =
    subst (All (λ value. fits_of ty value ≡ true)) (drop-map (λ (row : Row). cell row column) n rows ∙ ap (column_values column) (sym back)) (All-drop (λ value. fits_of ty value ≡ true) n (column_values column rows) fit)

-- ---- entries, one by one

abbrev entry_check : Skip → Ty → ℕ → List Row → List ℕ → Result Unit Fault
entry_check skip ty granule rows entry = require (summarizes skip.kind ty (column_values skip.column rows) entry) (granule_fault (skip_data_name skip) granule why.Value)

entries_next : (skip : Skip) (ty : Ty) (granule : ℕ) (rows : List Row) (entry : List ℕ) (entries : List (List Row × List ℕ))
    → entries_checks skip ty granule ((rows, entry) ∷ entries) ≡ (entry_check skip ty granule rows entry >>= λ _. entries_checks skip ty (granule + skip.granularity) entries)
unfolding entries_checks
entries_next skip ty granule rows entry entries = refl

entries_none : (skip : Skip) (ty : Ty) (granule : ℕ) → entries_checks skip ty granule [] ≡ Ok tt
unfolding entries_checks
entries_none skip ty granule = refl

-- the checks of the entries from one on, where the loop stands
abbrev pub entries_from : Skip → Ty → List ℕ → List ℕ → ℕ → List Row → List ℕ → Result Unit Fault
entries_from skip ty sizes payload i rest ahead = entries_checks skip ty (i * skip.granularity) (zip (granule_rows (drop i sizes) rest) (pieces_at payload ahead))

pub no_entry : (skip : Skip) (ty : Ty) (sizes payload : List ℕ) (i : ℕ) (rest : List Row) (ahead : List ℕ) (whole : Result Unit Fault) → entries_from skip ty sizes payload i rest ahead ≡ whole → ahead ≡ [] → whole ≡ Ok tt
no_entry skip ty sizes payload i rest ahead whole left none =
    sym left ∙ ap (λ (a : List ℕ). entries_checks skip ty (i * skip.granularity) (zip (granule_rows (drop i sizes) rest) (pieces_at payload a))) none
    ∙ ap (entries_checks skip ty (i * skip.granularity)) (nothing (granule_rows (drop i sizes) rest)) ∙ entries_none skip ty (i * skip.granularity)
  where
    nothing : (groups : List (List Row)) → zip groups (let none : List (List ℕ) = [] in none) ≡ []
    nothing [] = refl
    nothing (group ∷ groups) = refl

pub no_group : (skip : Skip) (ty : Ty) (sizes payload : List ℕ) (i : ℕ) (rest : List Row) (ahead : List ℕ) (whole : Result Unit Fault) → entries_from skip ty sizes payload i rest ahead ≡ whole → length sizes ≤ i → whole ≡ Ok tt
no_group skip ty sizes payload i rest ahead whole left over =
    sym left ∙ ap (λ (some : List ℕ). entries_checks skip ty (i * skip.granularity) (zip (granule_rows some rest) (pieces_at payload ahead))) (at_end sizes i over) ∙ entries_none skip ty (i * skip.granularity)

next_is : (skip : Skip) (ty : Ty) (sizes payload : List ℕ) (i size : ℕ) (rest group after : List Row) (ahead later entry : List ℕ) → i < length sizes → size ≡ get_or sizes i size → group ≡ take size rest → after ≡ drop size rest
    → pieces_at payload ahead ≡ entry ∷ pieces_at payload later
    → entries_from skip ty sizes payload i rest ahead ≡ (entry_check skip ty (i * skip.granularity) group entry >>= λ _. entries_from skip ty sizes payload (i + 1) after later)
next_is skip ty sizes payload i size rest group after ahead later entry inside at front back first =
    let groups : granule_rows (drop i sizes) rest ≡ group ∷ granule_rows (drop (i + 1) sizes) after =
    ap (λ (some : List ℕ). granule_rows some rest) (drop_next sizes i size inside at) ∙ ap (λ (g : List Row). g ∷ granule_rows (drop (i + 1) sizes) (drop size rest)) (sym front) ∙ ap (λ (a : List Row). group ∷ granule_rows (drop (i + 1) sizes) a) (sym back) in
    let pairs = zip (granule_rows (drop (i + 1) sizes) after) (pieces_at payload later) in
    let granule : i * skip.granularity + skip.granularity ≡ (i + 1) * skip.granularity = sym (ap (λ k. k * skip.granularity) (let e : i + 1 ≡ suc i = omega arith in e) ∙ omega arith) in
    ap (λ (some : List (List Row)). entries_checks skip ty (i * skip.granularity) (zip some (pieces_at payload ahead))) groups
    ∙ ap (λ (some : List (List ℕ)). entries_checks skip ty (i * skip.granularity) (zip (group ∷ granule_rows (drop (i + 1) sizes) after) some)) first
    ∙ entries_next skip ty (i * skip.granularity) group entry pairs
    ∙ ap (λ g. entry_check skip ty (i * skip.granularity) group entry >>= λ _. entries_checks skip ty g pairs) granule

pub entry_differs : (skip : Skip) (ty : Ty) (sizes payload : List ℕ) (i size : ℕ) (rest group after : List Row) (ahead later entry : List ℕ) (whole : Result Unit Fault) (e : FileError) → entries_from skip ty sizes payload i rest ahead ≡ whole
    → i < length sizes → size ≡ get_or sizes i size → group ≡ take size rest → after ≡ drop size rest → pieces_at payload ahead ≡ entry ∷ pieces_at payload later
    → summarizes skip.kind ty (column_values skip.column group) entry ≡ false → IsFault (granule_fault (skip_data_name skip) (i * skip.granularity) why.Value) e → FailsAs e whole
entry_differs skip ty sizes payload i size rest group after ahead later entry whole e left inside at front back first differs fault =
    subst (FailsAs e) (sym (next_is skip ty sizes payload i size rest group after ahead later entry inside at front back first) ∙ left)
    (fails_then e (entry_check skip ty (i * skip.granularity) group entry) (λ _. entries_from skip ty sizes payload (i + 1) after later)
    (test_fails (summarizes skip.kind ty (column_values skip.column group) entry) (granule_fault (skip_data_name skip) (i * skip.granularity) why.Value) e differs fault))

pub entry_agrees : (skip : Skip) (ty : Ty) (sizes payload : List ℕ) (i size : ℕ) (rest group after : List Row) (ahead later entry : List ℕ) (whole : Result Unit Fault) → entries_from skip ty sizes payload i rest ahead ≡ whole
    → i < length sizes → size ≡ get_or sizes i size → group ≡ take size rest → after ≡ drop size rest → pieces_at payload ahead ≡ entry ∷ pieces_at payload later
    → summarizes skip.kind ty (column_values skip.column group) entry ≡ true → entries_from skip ty sizes payload (i + 1) after later ≡ whole
entry_agrees skip ty sizes payload i size rest group after ahead later entry whole left inside at front back first agrees =
    sym (passed (summarizes skip.kind ty (column_values skip.column group) entry) (granule_fault (skip_data_name skip) (i * skip.granularity) why.Value) (λ _. entries_from skip ty sizes payload (i + 1) after later) agrees)
    ∙ sym (next_is skip ty sizes payload i size rest group after ahead later entry inside at front back first) ∙ left

pub cut_next : (sizes : List ℕ) (i size : ℕ) (rest after : List Row) → i < length sizes → size ≡ get_or sizes i size → after ≡ drop size rest → sum (drop i sizes) ≡ length rest → sum (drop (i + 1) sizes) ≡ length after
cut_next sizes i size rest after inside at back cut =
    let whole : sum (drop i sizes) ≡ size + sum (drop (i + 1) sizes) = ap sum (drop_next sizes i size inside at) ∙ sum_by-cons (λ k. k) size (drop (i + 1) sizes) in
    omega (arith, whole, cut, ap length back, length-drop size rest)

-- ---- indexes, one by one

pub each_fails : {A : Type 0} (check : A → Result Unit Fault) (items : List A) (i : ℕ) (x : A) (whole : Result Unit Fault) (e : FileError) → each check (drop i items) ≡ whole → i < length items → x ≡ get_or items i x → FailsAs e (check x) → FailsAs e whole
each_fails check items i x whole e left inside at fails =
    subst (FailsAs e) (sym (ap (each check) (drop_next items i x inside at)) ∙ left) (fails_then e (check x) (λ _. each check (drop (i + 1) items)) fails)

pub each_holds : {A : Type 0} (check : A → Result Unit Fault) (items : List A) (i : ℕ) (x : A) (whole : Result Unit Fault) → each check (drop i items) ≡ whole → i < length items → x ≡ get_or items i x → check x ≡ Ok tt → each check (drop (i + 1) items) ≡ whole
each_holds check items i x whole left inside at holds =
    sym (then_of (check x) tt (λ _. each check (drop (i + 1) items)) holds) ∙ sym (ap (each check) (drop_next items i x inside at)) ∙ left

pub each_done : {A : Type 0} (check : A → Result Unit Fault) (items : List A) (i : ℕ) (whole : Result Unit Fault) → each check (drop i items) ≡ whole → length items ≤ i → whole ≡ Ok tt
each_done check items i whole left over = sym left ∙ ap (each check) (at_end items i over)
