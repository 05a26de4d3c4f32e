-- Listings: how a name is found there, and what they say of a part's files.
use Rattle.std.proofs.Common.{◌≡◌, ℕ, zero, suc, ◌+◌, ◌<◌, ◌≤◌, Bool, true, false, List, [], ◌∷◌, ◌++◌, length, map, refl, ap, sym, subst, ◌∙◌, get_or, arith}
use Rattle.std.specs.Prelude.{Option, Some, None, is_some, option_map, if◌then◌else◌, cond, nat_lt, IfSome}
use Rattle.std.proofs.lemmas.Bool.{ltb-false, ltb-true}
use Rattle.std.specs.List.{cons_option, filter_map, list_all}
use Rattle.std.specs.Ordering.{nat_cmp, is_eq, is_lt, ordering_reverse}
use Rattle.std.specs.Cmp.Lexicographic.{slice_cmp}
use Rattle.std.specs.declared.cmp.Ordering.{Ordering}
use Rattle.std.specs.declared.cmp.Ordering.TheVariants.{Less, Equal, Greater}
use Rattle.std.specs.FinMap.{entries, find, get-entries, is_sorted}
use Rattle.std.specs.FinMap.Entries.{below_all}
use Rattle.std.proofs.lemmas.Cmp.{nat_list_cmp_total}
use Rattle.mt_facts.proofs.Orderings.{less_from}
use Rattle.std.proofs.lemmas.List.{get_or_default}
use Rattle.mt_types.proofs.StepLemmas.{both_true}
use Rattle.mt_shelf.specs.declared.file.Entry.{Entry}
use Rattle.mt_shelf.specs.Files.{Files, entries_below, entry_of, is_file_name}
use Rattle.mt_shelf.specs.Paths.{joined_path, name_below}
use Rattle.mt_shelf.proofs.Puts.{below_joined, joined_below}
use Rattle.mt_shelf.proofs.Listings.{Pair}
use Rattle.mt_defs.specs.Compact.{compact_marks_name}
use Rattle.mt_defs.specs.Folder.{folder_below, names_agree}
use Rattle.mt_defs.specs.Part.{is_compact}
use Rattle.mt_defs.proofs.NameLemmas.{name_is, same_name}
use Rattle.mt_files.specs.Listings.{listed_folder, size_in}
use Rattle.mt_files.specs.NamedFiles.{part_folder}
use Rattle.mt_files.proofs.FileLemmas.{other_name}

-- ---- names that rise

abbrev pub cmp : List ℕ → List ℕ → Ordering
cmp a b = slice_cmp nat_cmp a b

abbrev keyed : Entry → List ℕ × ℕ
keyed entry = (entry.name, entry.size)

below_at : (name : List ℕ) (es : List Entry) (j : ℕ) (d : Entry) → below_all (slice_cmp nat_cmp) name (map keyed es) ≡ true → j < length es → cmp name (get_or es j d).name ≡ Less
below_at name [] j d all inside = absurd (omega (arith, inside))
below_at name (e ∷ es) zero d all inside = less_from (cmp name e.name) (both_true (is_lt (cmp name e.name)) (below_all (slice_cmp nat_cmp) name (map keyed es)) all).0
below_at name (e ∷ es) (suc j) d all inside = below_at name es j d (both_true (is_lt (cmp name e.name)) (below_all (slice_cmp nat_cmp) name (map keyed es)) all).1 (omega (arith, inside))

rises : (es : List Entry) (i j : ℕ) (d e : Entry) → is_sorted (slice_cmp nat_cmp) (map keyed es) ≡ true → i < j → j < length es → cmp (get_or es i d).name (get_or es j e).name ≡ Less
rises [] i j d e sorted less inside = absurd (omega (arith, inside))
rises (x ∷ es) i zero d e sorted less inside = absurd (omega (arith, less))
rises (x ∷ es) zero (suc j) d e sorted less inside = below_at x.name es j e (both_true (below_all (slice_cmp nat_cmp) x.name (map keyed es)) (is_sorted (slice_cmp nat_cmp) (map keyed es)) sorted).0 (omega (arith, inside))
rises (x ∷ es) (suc i) (suc j) d e sorted less inside = rises es i j d e (both_true (below_all (slice_cmp nat_cmp) x.name (map keyed es)) (is_sorted (slice_cmp nat_cmp) (map keyed es)) sorted).1 (omega (arith, less)) (omega (arith, inside))

-- ---- the search

none_in : (es : List Entry) (name : List ℕ) → ((i : ℕ) (d : Entry) → i < length es → names_agree (get_or es i d).name name ≡ false) → size_in es name ≡ None
none_in [] name differ = refl
none_in (e ∷ es) name differ = ap (λ b. if b then Some e.size else size_in es name) (differ 0 e (omega arith)) ∙ none_in es name (λ i d inside. differ (suc i) d (omega (arith, inside)))

found_in : (es : List Entry) (name : List ℕ) (k : ℕ) (d : Entry) → k < length es → names_agree (get_or es k d).name name ≡ true → ((i : ℕ) (d : Entry) → i < k → names_agree (get_or es i d).name name ≡ false) → size_in es name ≡ Some (get_or es k d).size
found_in [] name k d inside same before = absurd (omega (arith, inside))
found_in (e ∷ es) name zero d inside same before = ap (λ b. if b then Some e.size else size_in es name) same
found_in (e ∷ es) name (suc k) d inside same before =
    ap (λ b. if b then Some e.size else size_in es name) (before 0 e (omega arith)) ∙ found_in es name k d (omega (arith, inside)) same (λ i d less. before (suc i) d (omega (arith, less)))

-- names before some index are less than a name, and those from another index on are greater
pub record Narrowed (es : List Entry) (name : List ℕ) (low high : ℕ) : Type 0 where
  pub order : low ≤ high
  pub within : high ≤ length es
  pub below : (i : ℕ) (d : Entry) → i < low → cmp (get_or es i d).name name ≡ Less
  pub above : (i : ℕ) (d : Entry) → high ≤ i → i < length es → cmp (get_or es i d).name name ≡ Greater

pub all_left : (es : List Entry) (name : List ℕ) (high : ℕ) → high ≡ length es → Narrowed es name 0 high
all_left es name high is = record {
  order = omega arith;
  within = omega (arith, is);
  below = λ i d less. absurd (omega (arith, less));
  above = λ i d least inside. absurd (omega (arith, least, inside, is));
}

pub none_left : (es : List Entry) (name : List ℕ) (low high : ℕ) → Narrowed es name low high → high ≤ low → size_in es name ≡ None
none_left es name low high n over = none_in es name (λ i d inside. by_side i d inside (nat_lt i low) refl)
  where
    by_side : (i : ℕ) (d : Entry) → i < length es → (b : Bool) → nat_lt i low ≡ b → names_agree (get_or es i d).name name ≡ false
    by_side i d inside true is = ap is_eq (n.below i d (ltb-true i low is))
    by_side i d inside false is = ap is_eq (n.above i d (let least = ltb-false i low is in omega (arith, least, over)) inside)

flips : (a b : List ℕ) (o : Ordering) → cmp a b ≡ o → cmp b a ≡ ordering_reverse o
flips a b o is = nat_list_cmp_total.antisymm b a ∙ ap ordering_reverse is

pub is_less_here : (es : List Entry) (name : List ℕ) (low high middle : ℕ) (d : Entry) → is_sorted (slice_cmp nat_cmp) (map keyed es) ≡ true → Narrowed es name low high → low ≤ middle → middle < high
    → cmp (get_or es middle d).name name ≡ Less → Narrowed es name (middle + 1) high
is_less_here es name low high middle d sorted n least less here =
    let within = n.within in
    record {
      order = omega (arith, less);
      within = within;
      below = λ i e before. by_side i e before (nat_lt i middle) refl;
      above = n.above;
    }
  where
    by_side : (i : ℕ) (e : Entry) → i < middle + 1 → (b : Bool) → nat_lt i middle ≡ b → cmp (get_or es i e).name name ≡ Less
    by_side i e before true is =
        nat_list_cmp_total.trans (get_or es i e).name (get_or es middle d).name name
        (rises es i middle e d sorted (ltb-true i middle is) (let within = n.within in omega (arith, less, within))) here
    by_side i e before false is =
        let past = ltb-false i middle is in
        let same : middle ≡ i = omega (arith, past, before) in
        let inside : middle < length es = let within = n.within in omega (arith, less, within) in
        subst (λ k. cmp (get_or es k e).name name ≡ Less) same (subst (λ (x : Entry). cmp x.name name ≡ Less) (get_or_default es middle d e inside) here)

pub is_greater_here : (es : List Entry) (name : List ℕ) (low high middle : ℕ) (d : Entry) → is_sorted (slice_cmp nat_cmp) (map keyed es) ≡ true → Narrowed es name low high → low ≤ middle → middle < high
    → cmp (get_or es middle d).name name ≡ Greater → Narrowed es name low middle
is_greater_here es name low high middle d sorted n least less here =
    let within = n.within in
    record {
      order = least;
      within = omega (arith, less, within);
      below = n.below;
      above = λ i e after inside. by_side i e after inside (nat_lt middle i) refl;
    }
  where
    by_side : (i : ℕ) (e : Entry) → middle ≤ i → i < length es → (b : Bool) → nat_lt middle i ≡ b → cmp (get_or es i e).name name ≡ Greater
    by_side i e after inside true is =
        flips name (get_or es i e).name Less
        (nat_list_cmp_total.trans name (get_or es middle d).name (get_or es i e).name (flips (get_or es middle d).name name Greater here) (rises es middle i d e sorted (ltb-true middle i is) inside))
    by_side i e after inside false is =
        let past = ltb-false middle i is in
        let same : middle ≡ i = omega (arith, past, after) in
        let inside : middle < length es = omega (arith, same, inside) in
        subst (λ k. cmp (get_or es k e).name name ≡ Greater) same (subst (λ (x : Entry). cmp x.name name ≡ Greater) (get_or_default es middle d e inside) here)

pub is_here : (es : List Entry) (name : List ℕ) (low high middle : ℕ) (d : Entry) → is_sorted (slice_cmp nat_cmp) (map keyed es) ≡ true → Narrowed es name low high → low ≤ middle → middle < high
    → cmp (get_or es middle d).name name ≡ Equal → size_in es name ≡ Some (get_or es middle d).size
is_here es name low high middle d sorted n least less here =
    let inside : middle < length es = let within = n.within in omega (arith, less, within) in
    let same : (get_or es middle d).name ≡ name = name_is (get_or es middle d).name name (ap is_eq here) in
    found_in es name middle d inside (ap is_eq here) (λ i e before.
    ap is_eq (subst (λ (m : List ℕ). cmp (get_or es i e).name m ≡ Less) same (rises es i middle e d sorted before inside)))

-- ---- the files

-- an entry's size is that of the part's file
sizes_below : (part name : List ℕ) (files : List Pair) → size_in (filter_map (entry_of part) files) name ≡ option_map length (find (slice_cmp nat_cmp) (joined_path part name) files)
sizes_below part name [] = refl
sizes_below part name (file ∷ files) = by_name (name_below part file.0) refl (sizes_below part name files)
  where
    later_size : Option ℕ
    later_size = size_in (filter_map (entry_of part) files) name

    by_name : (o : Option (List ℕ)) → name_below part file.0 ≡ o → later_size ≡ option_map length (find (slice_cmp nat_cmp) (joined_path part name) files)
        → size_in (cons_option (option_map (λ (n : List ℕ). let e : Entry = record { name = n; size = length file.1 } in e) o) (filter_map (entry_of part) files)) name
        ≡ option_map length (cond (names_agree (joined_path part name) file.0) (Some file.1) (find (slice_cmp nat_cmp) (joined_path part name) files))
    by_name None is later =
        let other : names_agree (joined_path part name) file.0 ≡ false = other_name (joined_path part name) file.0 (λ same.
        let there : None ≡ Some name = sym is ∙ ap (name_below part) (sym same) ∙ below_joined part name in cc) in
        later ∙ ap (λ b. option_map length (cond b (Some file.1) (find (slice_cmp nat_cmp) (joined_path part name) files))) (sym other)
    by_name (Some found) is later = by_test (names_agree found name) refl
      where
        path : file.0 ≡ joined_path part found
        path = joined_below part file.0 found is

        by_test : (b : Bool) → names_agree found name ≡ b → (if b then Some (length file.1) else later_size) ≡ option_map length (cond (names_agree (joined_path part name) file.0) (Some file.1) (find (slice_cmp nat_cmp) (joined_path part name) files))
        by_test true same =
            ap (λ b. option_map length (cond b (Some file.1) (find (slice_cmp nat_cmp) (joined_path part name) files)))
            (sym (same_name (joined_path part name) file.0 (ap (joined_path part) (sym (name_is found name same)) ∙ sym path)))
        by_test false differ =
            later ∙ ap (λ b. option_map length (cond b (Some file.1) (find (slice_cmp nat_cmp) (joined_path part name) files)))
            (sym (other_name (joined_path part name) file.0 (λ same.
            let below : Some found ≡ Some name = sym is ∙ ap (name_below part) (sym same) ∙ below_joined part name in
            let one : found ≡ name = cc in
            let e = sym (same_name found name one) ∙ differ in cc)))

pub size_of_file : (part name : List ℕ) (files : Files) → size_in (entries_below part files) name ≡ option_map length (part_folder part files name)
size_of_file part name files = sizes_below part name (entries files) ∙ ap (option_map length) (sym (get-entries files (joined_path part name)))

-- ---- the form of names

-- a listed name has the form of one
pub listed_form : (es : List Entry) (name : List ℕ) (size : ℕ) → list_all (λ (entry : Entry). is_file_name entry.name) es ≡ true → size_in es name ≡ Some size → is_file_name name ≡ true
listed_form [] name size form is = cc
listed_form (e ∷ es) name size form is = by_test (names_agree e.name name) refl (λ found. listed_form es name size parts.1 found) is
  where
    parts : (is_file_name e.name ≡ true) × (list_all (λ (entry : Entry). is_file_name entry.name) es ≡ true)
    parts = both_true (is_file_name e.name) (list_all (λ (entry : Entry). is_file_name entry.name) es) form

    by_test : (b : Bool) → names_agree e.name name ≡ b → (size_in es name ≡ Some size → is_file_name name ≡ true) → (if b then Some e.size else size_in es name) ≡ Some size → is_file_name name ≡ true
    by_test true same later found = ap is_file_name (sym (name_is e.name name same)) ∙ parts.0
    by_test false other later found = later found

-- ---- as the reading asks for it

pub known_size : (part name : List ℕ) (listing : List Entry) (size : ℕ) (stored : Option Files) → IfSome stored (λ files. listing ≡ entries_below part files) → size_in listing name ≡ Some size
    → IfSome stored (λ files. option_map length (part_folder part files name) ≡ Some size)
known_size part name listing size None is found = tt
known_size part name listing size (Some files) is found = sym (size_of_file part name files) ∙ ap (λ es. size_in es name) (sym is) ∙ found

no_file : (o : Option (List ℕ)) → option_map length o ≡ None → None ≡ o
no_file None e = refl
no_file (Some bytes) e = cc

pub known_absence : (part name : List ℕ) (listing : List Entry) (stored : Option Files) → IfSome stored (λ files. listing ≡ entries_below part files) → size_in listing name ≡ None
    → IfSome stored (λ files. None ≡ part_folder part files name)
known_absence part name listing None is none = tt
known_absence part name listing (Some files) is none = no_file (part_folder part files name) (sym (size_of_file part name files) ∙ ap (λ es. size_in es name) (sym is) ∙ none)

-- ---- what a listing tells of a folder

same_some : (o : Option (List ℕ)) → is_some (option_map (λ size. let none : List ℕ = [] in none) (option_map (length {A = ℕ}) o)) ≡ is_some o
same_some None = refl
same_some (Some bytes) = refl

-- a file is there where it is listed
pub listed_there : (part name : List ℕ) (files : Files) → is_some (listed_folder (entries_below part files) name) ≡ is_some (part_folder part files name)
listed_there part name files = ap (λ s. is_some (option_map (λ size. let none : List ℕ = [] in none) s)) (size_of_file part name files) ∙ same_some (part_folder part files name)

-- a folder's layout is known by the listing
pub layout_listed : (part prefix : List ℕ) (files : Files) → is_compact (folder_below (listed_folder (entries_below part files)) prefix) ≡ is_compact (folder_below (part_folder part files) prefix)
layout_listed part prefix files = listed_there part (prefix ++ compact_marks_name) files
