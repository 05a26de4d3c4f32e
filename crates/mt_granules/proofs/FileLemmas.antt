-- Files in the order of their names: what a search by halves finds is what the folder holds.
use Rattle.std.proofs.Common.{◌≡◌, ℕ, zero, suc, ◌+◌, ◌<◌, ◌≤◌, Bool, true, false, not, ◌&&◌, List, [], ◌∷◌, length, drop, get_or, Option, Some, None, refl, ap, sym, ◌∙◌, arith, Bor}
use Rattle.std.specs.Prelude.{if◌then◌else◌, filter}
use Rattle.std.specs.Cmp.{IsTotalOrder, IsStrictWeakOrder}
use Rattle.std.specs.Cmp.Lexicographic.{slice_cmp}
use Rattle.std.specs.Ordering.{nat_cmp, is_lt, is_le, is_eq, ordering_reverse}
use Rattle.std.specs.List.Sorted.{IsSorted, IsStable, ties}
use Rattle.std.specs.declared.cmp.Ordering.{Ordering}
use Rattle.std.specs.declared.cmp.Ordering.TheVariants.{Less, Equal, Greater}
use Rattle.std.specs.BTreeMap.Comparable.{le_lt_trans}
use Rattle.std.proofs.Math.Path.{fun_ext}
use Rattle.std.proofs.lemmas.Cmp.{on_total, nat_list_cmp_total}
use Rattle.std.proofs.lemmas.List.{drop_all, drop_more, get_or-drop, get_or-map, get_or_default, length-drop, length-map}
use Rattle.std.proofs.lemmas.List.Sorted.{sorted_far, ranks_by}
use Rattle.mt_facts.proofs.Orderings.{less_from}
use Rattle.mt_fault.specs.declared.file.FileBytes.{FileBytes}
use Rattle.mt_defs.specs.Folder.{folder_of, names_agree}
use Rattle.mt_granules.specs.FileOrder.{IsLowerBound, referenced_files, name_cmp}

abbrev cmp : List ℕ → List ℕ → Ordering
cmp = slice_cmp nat_cmp

abbrev comes_before : FileBytes → FileBytes → Bool
comes_before a b = is_lt (name_cmp a b)

pub name_total : IsTotalOrder name_cmp
name_total = on_total (λ (file : FileBytes). file.name) nat_list_cmp_total

pub name_weak : IsStrictWeakOrder (λ (a b : FileBytes). is_lt (name_cmp a b))
name_weak = ranks_by name_total (λ v. v)

le_back : (o r : Ordering) → o ≡ ordering_reverse r → is_lt r ≡ false → is_le o ≡ true
le_back o Less e not_less = cc
le_back o Equal e not_less = ap is_le e
le_back o Greater e not_less = ap is_le e

-- a name that isn't above one that is below, is below too
below_on : (a b name : List ℕ) → is_lt (cmp b a) ≡ false → is_lt (cmp b name) ≡ true → is_lt (cmp a name) ≡ true
below_on a b name order less =
    ap is_lt (le_lt_trans nat_list_cmp_total a b name (le_back (cmp a b) (cmp b a) (nat_list_cmp_total.antisymm a b) order) (less_from (cmp b name) less))

above_on : (a b name : List ℕ) → is_lt (cmp b a) ≡ false → is_lt (cmp a name) ≡ false → is_lt (cmp b name) ≡ false
above_on a b name order not_less = by (is_lt (cmp b name)) refl
  where
    by : (r : Bool) → is_lt (cmp b name) ≡ r → r ≡ false
    by false e = refl
    by true e = let less = below_on a b name order e in cc

-- ---- the search

pub record IsBetween (name : List ℕ) (files : List FileBytes) (low high : ℕ) : Type 0 where
  pub ordered : low ≤ high
  pub within : high ≤ length files
  pub below : (k : ℕ) (d : FileBytes) → k < low → is_lt (cmp (get_or files k d).name name) ≡ true
  pub above : (k : ℕ) (d : FileBytes) → high ≤ k → k < length files → is_lt (cmp (get_or files k d).name name) ≡ false

pub starts_between : (name : List ℕ) (files : List FileBytes) (n : ℕ) → n ≡ length files → IsBetween name files 0 n
starts_between name files n is = record { ordered = omega arith; within = omega (arith, is); below = λ k d h. absurd (omega arith); above = λ k d h u. absurd (omega (arith, is)) }

pub goes_up : (name : List ℕ) (files : List FileBytes) (low high middle : ℕ) → IsSorted name_cmp files → low ≤ middle → middle < high → ((d : FileBytes) → is_lt (cmp (get_or files middle d).name name) ≡ true)
    → IsBetween name files low high → IsBetween name files (middle + 1) high
goes_up name files low high middle up from to less had = record {
  ordered = omega arith;
  within = had.within;
  below = λ k d h. below_on (get_or files k d).name (get_or files middle d).name name (sorted_far comes_before name_weak files up k middle d (omega arith) (omega (arith, had.within))) (less d);
  above = had.above;
}

pub goes_down : (name : List ℕ) (files : List FileBytes) (low high middle : ℕ) → IsSorted name_cmp files → low ≤ middle → middle < high → ((d : FileBytes) → is_lt (cmp (get_or files middle d).name name) ≡ false)
    → IsBetween name files low high → IsBetween name files low middle
goes_down name files low high middle up from to not_less had = record {
  ordered = from;
  within = omega (arith, had.within);
  below = had.below;
  above = λ k d h u. above_on (get_or files middle d).name (get_or files k d).name name (sorted_far comes_before name_weak files up middle k d h u) (not_less d);
}

pub bound_is : (name : List ℕ) (files : List FileBytes) (low high : ℕ) → high ≤ low → IsBetween name files low high → IsLowerBound name files low
bound_is name files low high done had = record {
  within = omega (arith, had.ordered, had.within);
  below = had.below;
  above = λ k d h u. had.above k d (omega (arith, h)) u;
}

-- ---- what is found there

lt_differs : (o : Ordering) → is_lt o ≡ true → is_eq o ≡ false
lt_differs Less e = refl
lt_differs Equal e = cc
lt_differs Greater e = cc

pass_by : (name : List ℕ) (files : List FileBytes) (file : FileBytes) → names_agree file.name name ≡ false → folder_of (file ∷ files) name ≡ folder_of files name
pass_by name files file e = ap (λ (b : Bool). if b then Some file.bytes else folder_of files name) e

skip : (name : List ℕ) (files : List FileBytes) (n : ℕ) → n ≤ length files → ((k : ℕ) (d : FileBytes) → k < n → is_lt (cmp (get_or files k d).name name) ≡ true) → folder_of files name ≡ folder_of (drop n files) name
skip name files zero h below = refl
skip name [] (suc n) h below = absurd (omega arith)
skip name (file ∷ files) (suc n) h below =
    pass_by name files file (lt_differs (cmp file.name name) (below 0 file (omega arith))) ∙ skip name files n (omega arith) (λ k d less. below (suc k) d (omega arith))

none_there : (name : List ℕ) (files : List FileBytes) → ((k : ℕ) (d : FileBytes) → k < length files → is_eq (cmp (get_or files k d).name name) ≡ false) → folder_of files name ≡ None
none_there name [] differ = refl
none_there name (file ∷ files) differ = pass_by name files file (differ 0 file (omega arith)) ∙ none_there name files (λ k d less. differ (suc k) d (omega arith))

pub not_found : (name : List ℕ) (files : List FileBytes) (index : ℕ) → IsLowerBound name files index → length files ≤ index → folder_of files name ≡ None
not_found name files index bound over =
    skip name files index bound.within bound.below ∙ ap (λ (fs : List FileBytes). folder_of fs name) (drop_all index files over)

at_bound : (name : List ℕ) (files : List FileBytes) (index : ℕ) (file : FileBytes) → IsLowerBound name files index → index < length files → file ≡ get_or files index file → folder_of files name ≡ folder_of (file ∷ drop (index + 1) files) name
at_bound name files index file bound inside at =
    skip name files index bound.within bound.below
    ∙ ap (λ (fs : List FileBytes). folder_of fs name) (drop_more files index file inside ∙ ap (λ (f : FileBytes). f ∷ drop (index + 1) files) (sym at))

pub found_there : (name : List ℕ) (files : List FileBytes) (index : ℕ) (file : FileBytes) → IsLowerBound name files index → index < length files → file ≡ get_or files index file → names_agree file.name name ≡ true → folder_of files name ≡ Some file.bytes
found_there name files index file bound inside at same =
    at_bound name files index file bound inside at ∙ ap (λ (b : Bool). if b then Some file.bytes else folder_of (drop (index + 1) files) name) same

eq_after : (a b name : List ℕ) → is_lt (cmp b a) ≡ false → is_lt (cmp a name) ≡ false → is_eq (cmp a name) ≡ false → is_eq (cmp b name) ≡ false
eq_after a b name order not_less differ = by (cmp b name) refl
  where
    by : (o : Ordering) → cmp b name ≡ o → is_eq o ≡ false
    by Less e = refl
    by Greater e = refl
    by Equal e =
        let same : cmp b a ≡ cmp name a = nat_list_cmp_total.congr b name a e in
        let back : is_lt (cmp name a) ≡ false = ap is_lt (sym same) ∙ order in
        not_above (cmp a name) (cmp name a) (nat_list_cmp_total.antisymm a name) not_less differ back
      where
        not_above : (o r : Ordering) → o ≡ ordering_reverse r → is_lt o ≡ false → is_eq o ≡ false → is_lt r ≡ false → is_eq Equal ≡ false
        not_above o Less e l q b = cc
        not_above o Equal e l q b = cc
        not_above o Greater e l q b = cc

pub other_there : (name : List ℕ) (files : List FileBytes) (index : ℕ) (file : FileBytes) → IsSorted name_cmp files → IsLowerBound name files index → index < length files → file ≡ get_or files index file → names_agree file.name name ≡ false → folder_of files name ≡ None
other_there name files index file up bound inside at differ =
    at_bound name files index file bound inside at ∙ pass_by name (drop (index + 1) files) file differ
    ∙ none_there name (drop (index + 1) files) (λ k d less.
    let here : get_or (drop (index + 1) files) k d ≡ get_or files (index + 1 + k) d = get_or-drop (index + 1) files k d in
    let order = sorted_far comes_before name_weak files up index (index + 1 + k) d (omega arith) (omega (arith, less, length-drop (index + 1) files)) in
    let same : get_or files index d ≡ file = same_at files index d file inside ∙ sym at in
    ap (λ (f : FileBytes). is_eq (cmp f.name name)) here
    ∙ eq_after (get_or files index d).name (get_or files (index + 1 + k) d).name name order (bound.above index d (omega arith) inside) (ap (λ (f : FileBytes). is_eq (cmp f.name name)) same ∙ differ))
  where
    same_at : (xs : List FileBytes) (i : ℕ) (d e : FileBytes) → i < length xs → get_or xs i d ≡ get_or xs i e
    same_at xs i d e h = get_or_default xs i d e h

-- ---- a stable sort changes no folder

abbrev first_of : List FileBytes → Option (List ℕ)
first_of [] = None
first_of (file ∷ files) = Some file.bytes

ties_name : (name : List ℕ) (f : FileBytes) → ties comes_before (record { name = name; bytes = [] }) f ≡ names_agree f.name name
ties_name name f = by (cmp f.name name) (cmp name f.name) (nat_list_cmp_total.antisymm name f.name)
  where
    by : (o r : Ordering) → r ≡ ordering_reverse o → (not (is_lt r) && not (is_lt o)) ≡ is_eq o
    by Less r e = ap (λ (q : Ordering). not (is_lt q) && false) e
    by Equal r e = ap (λ (q : Ordering). not (is_lt q) && true) e
    by Greater r e = ap (λ (q : Ordering). not (is_lt q) && true) e

-- ---- the same of references

at_index : (files : List (Bor FileBytes)) (k : ℕ) (d : FileBytes) (e : Bor FileBytes) → k < length files → get_or (referenced_files files) k d ≡ (get_or files k e).now
at_index files k d e h = get_or-map (λ (f : Bor FileBytes). f.now) files k e d h

pub reference_at : (files : List (Bor FileBytes)) (k : ℕ) (file : Bor FileBytes) → k < length files → file ≡ get_or files k file → file.now ≡ get_or (referenced_files files) k file.now
reference_at files k file h at = ap (λ (f : Bor FileBytes). f.now) at ∙ sym (at_index files k file.now file h)

pub files_many : (files : List (Bor FileBytes)) → length (referenced_files files) ≡ length files
files_many files = length-map files (λ (f : Bor FileBytes). f.now)

pub files_rise : (files : List (Bor FileBytes)) → IsSorted (λ a b. name_cmp a.now b.now) files → IsSorted name_cmp (referenced_files files)
files_rise files up = λ k d from to.
    let long = length-map files (λ (f : Bor FileBytes). f.now) in
    let e : Bor FileBytes = a_reference files (omega (arith, to, long)) in
    let here = at_index files k d e (omega (arith, to, long)) in
    let next = at_index files (k + 1) d e (omega (arith, to, long)) in
    ap (λ (a : FileBytes). is_lt (name_cmp a (get_or (referenced_files files) k d))) next ∙ ap (λ (b : FileBytes). is_lt (name_cmp (get_or files (k + 1) e).now b)) here
    ∙ up k e from (omega (arith, to, long))
  where
    a_reference : (files : List (Bor FileBytes)) → 0 < length files → Bor FileBytes
    a_reference [] h = absurd (omega arith)
    a_reference (f ∷ files) h = f

named_in : (name : List ℕ) (test : Bor FileBytes → Bool) → ((f : Bor FileBytes) → test f ≡ names_agree f.now.name name) → (files : List (Bor FileBytes)) → folder_of (referenced_files files) name ≡ first_of (referenced_files (filter test files))
named_in name test same [] = refl
named_in name test same (file ∷ files) =
    by (test file) refl (named_in name test same files)
  where
    by : (b : Bool) → test file ≡ b → folder_of (referenced_files files) name ≡ first_of (referenced_files (filter test files)) → folder_of (referenced_files (file ∷ files)) name ≡ first_of (referenced_files (filter test (file ∷ files)))
    by true e more = ap (λ (b : Bool). if b then Some file.now.bytes else folder_of (referenced_files files) name) (sym (same file) ∙ e) ∙ sym (ap (λ (b : Bool). first_of (referenced_files (if b then file ∷ filter test files else filter test files))) e)
    by false e more = ap (λ (b : Bool). if b then Some file.now.bytes else folder_of (referenced_files files) name) (sym (same file) ∙ e) ∙ more ∙ sym (ap (λ (b : Bool). first_of (referenced_files (if b then file ∷ filter test files else filter test files))) e)

pub files_stay : (files sorted : List (Bor FileBytes)) → IsStable (λ a b. name_cmp a.now b.now) files sorted → folder_of (referenced_files sorted) ≡ folder_of (referenced_files files)
files_stay files sorted stable = fun_ext (λ name.
    let one : Bor FileBytes = record { ref_ptr = (0, 0); now = record { name = name; bytes = [] } } in
    let tie : Bor FileBytes → Bool = λ f. ties comes_before (record { name = name; bytes = [] }) f.now in
    named_in name tie (λ f. ties_name name f.now) sorted ∙ ap (λ fs. first_of (referenced_files fs)) (stable one) ∙ sym (named_in name tie (λ f. ties_name name f.now) files))
