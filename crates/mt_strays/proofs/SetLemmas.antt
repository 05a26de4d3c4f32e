-- Sets of names, and the first name that isn't in one.
use Rattle.std.proofs.Common.{◌≡◌, ℕ, ◌+◌, ◌<◌, ◌≤◌, Bool, true, false, ◌||◌, List, [], ◌∷◌, ◌++◌, length, take, drop, refl, ap, sym, ◌∙◌, get_or}
use Rattle.std.specs.Prelude.{Some, if◌then◌else◌, Ok}
use Rattle.std.specs.Borrow.{Bor}
use Rattle.std.specs.List.{list_any}
use Rattle.std.specs.Str.{bytes_eq}
use Rattle.std.proofs.lemmas.List.{take_more, take_all}
use Rattle.std.proofs.lemmas.List.Folds.{list_any-append}
use Rattle.std.proofs.lemmas.Slice.Eq.{bytes_eq-Decides}
use Rattle.mt_facts.proofs.Lists.{drop_next}
use Rattle.mt_fault.specs.declared.fault.Why.TheVariants.{Stray}
use Rattle.mt_fault.specs.declared.error.FileError.{FileError}
use Rattle.mt_shelf.specs.declared.file.Entry.{Entry}
use Rattle.mt_defs.specs.Folder.{names_agree}
use Rattle.mt_strays.specs.declared.name_set.NameSet.{NameSet}
use Rattle.mt_fault.specs.Faults.{file_fault}
use Rattle.mt_files.specs.Faults.{none_found}
use Rattle.mt_files.specs.Listings.{entry_names}
use Rattle.mt_strays.specs.Strays.{first_unknown, is_known_name}
use Rattle.mt_strays.specs.NameSets.{HasNames, is_in_set}
use Rattle.mt_fault.specs.Results.{FailsAs}
use Rattle.mt_fault.specs.Results.{IsFault}
use Rattle.mt_fault.proofs.FaultLemmas.{fault_gives}
use Rattle.mt_defs.proofs.NameLemmas.{name_is, same_name}
use Rattle.mt_files.proofs.FileLemmas.{other_name}
use Rattle.mt_files.proofs.LoopLemmas.{at_end}

-- ---- the set

-- the name is one of those behind references
abbrev pub is_among : List (Bor (List ℕ)) → List ℕ → Bool
is_among keys name = list_any (λ (other : Bor (List ℕ)). bytes_eq name other.now) keys

-- the keys are the first names
abbrev pub Holds : List (Bor (List ℕ)) → List (List ℕ) → ℕ → Type 0
Holds keys names i = (name : List ℕ) → is_among keys name ≡ is_known_name (take i names) name

swapped : (a b : List ℕ) → bytes_eq a b ≡ names_agree b a
swapped a b = by_test (bytes_eq a b) refl
  where
    by_test : (t : Bool) → bytes_eq a b ≡ t → t ≡ names_agree b a
    by_test true is = sym (same_name b a (sym ((bytes_eq-Decides a b).0 is)))
    by_test false is = sym (other_name b a (λ same. let e = sym is ∙ (bytes_eq-Decides a b).1 (sym same) in let e : false ≡ true = e in cc))

pub holds_none : (keys : List (Bor (List ℕ))) (names : List (List ℕ)) → keys ≡ [] → Holds keys names 0
holds_none keys names none name = ap (λ ks. is_among ks name) none

one_more : (a b c : Bool) → a ≡ b → (a || (c || false)) ≡ (b || (c || false))
one_more a b c e = ap (λ x. x || (c || false)) e

twice : (a c : Bool) → (c ≡ true → a ≡ true) → a ≡ (a || (c || false))
twice true c e = refl
twice false true e = e refl
twice false false e = refl

holds_by : (keys new : List (Bor (List ℕ))) (known : List (List ℕ)) (key : Bor (List ℕ)) (seen : Bool) → is_among keys key.now ≡ seen → new ≡ (if seen then keys else keys ++ key ∷ []) → ((name : List ℕ) → is_among keys name ≡ is_known_name known name)
    → (name : List ℕ) → is_among new name ≡ is_known_name (known ++ key.now ∷ []) name
holds_by keys new known key true seen is holds name =
    ap (λ ks. is_among ks name) is
    ∙ twice (is_among keys name) (names_agree key.now name) (λ same. ap (is_among keys) (sym (name_is key.now name same)) ∙ seen)
    ∙ one_more (is_among keys name) (is_known_name known name) (names_agree key.now name) (holds name)
    ∙ sym (list_any-append (λ other. names_agree other name) known (key.now ∷ []))
holds_by keys new known key false seen is holds name =
    ap (λ ks. is_among ks name) is
    ∙ list_any-append (λ (other : Bor (List ℕ)). bytes_eq name other.now) keys (key ∷ [])
    ∙ ap (λ x. is_among keys name || (x || false)) (swapped name key.now)
    ∙ one_more (is_among keys name) (is_known_name known name) (names_agree key.now name) (holds name)
    ∙ sym (list_any-append (λ other. names_agree other name) known (key.now ∷ []))

pub holds_more : (keys new : List (Bor (List ℕ))) (names : List (List ℕ)) (i : ℕ) (key : Bor (List ℕ)) (d : List ℕ) → i < length names → key.now ≡ get_or names i d → new ≡ (if is_among keys key.now then keys else keys ++ key ∷ []) → Holds keys names i → Holds new names (i + 1)
holds_more keys new names i key d inside at is holds name =
    holds_by keys new (take i names) key (is_among keys key.now) refl is holds name
    ∙ ap (λ k. is_known_name k name) (ap (λ n. take i names ++ n ∷ []) at ∙ sym (take_more names i d inside))

pub holds_all : (keys : List (Bor (List ℕ))) (names : List (List ℕ)) (i : ℕ) → length names ≤ i → Holds keys names i → (name : List ℕ) → is_among keys name ≡ is_known_name names name
holds_all keys names i over holds name = holds name ∙ ap (λ k. is_known_name k name) (take_all i names over)

-- ---- the first name that isn't in it

-- what is left decides
abbrev pub Decides : NameSet → List Entry → ℕ → Type 0
Decides set listing i = (known : List (List ℕ)) → HasNames set known → first_unknown known (entry_names (drop i listing)) ≡ first_unknown known (entry_names listing)

next_name : (known : List (List ℕ)) (listing : List Entry) (i : ℕ) (entry : Entry) → i < length listing → entry ≡ get_or listing i entry
    → first_unknown known (entry_names (drop i listing)) ≡ (if is_known_name known entry.name then first_unknown known (entry_names (drop (i + 1) listing)) else Some entry.name)
next_name known listing i entry inside at = ap (λ es. first_unknown known (entry_names es)) (drop_next listing i entry inside at)

pub stray_found : (set : NameSet) (listing : List Entry) (i : ℕ) (entry : Entry) (name other : List ℕ) (e : FileError) → Decides set listing i → i < length listing → entry ≡ get_or listing i entry → name ≡ entry.name → is_in_set set name ≡ false
    → other ≡ entry.name → IsFault (file_fault other Stray) e
    → (known : List (List ℕ)) → HasNames set known → FailsAs e (none_found (first_unknown known (entry_names listing)) (λ name. file_fault name Stray))
stray_found set listing i entry name other e decides inside at is out same fault known has =
    let unknown : is_known_name known entry.name ≡ false = sym (has entry.name) ∙ ap (is_in_set set) (sym is) ∙ out in
    fault_gives (file_fault other Stray) e (none_found (first_unknown known (entry_names listing)) (λ name. file_fault name Stray)) fault
    (ap (λ o. none_found o (λ name. file_fault name Stray))
    (sym (decides known has) ∙ next_name known listing i entry inside at ∙ ap (λ b. if b then first_unknown known (entry_names (drop (i + 1) listing)) else Some entry.name) unknown ∙ ap Some (sym same)))

pub stray_later : (set : NameSet) (listing : List Entry) (i : ℕ) (entry : Entry) (name : List ℕ) → Decides set listing i → i < length listing → entry ≡ get_or listing i entry → name ≡ entry.name → is_in_set set name ≡ true → Decides set listing (i + 1)
stray_later set listing i entry name decides inside at is there known has =
    let known_name : is_known_name known entry.name ≡ true = sym (has entry.name) ∙ ap (is_in_set set) (sym is) ∙ there in
    sym (next_name known listing i entry inside at ∙ ap (λ b. if b then first_unknown known (entry_names (drop (i + 1) listing)) else Some entry.name) known_name) ∙ decides known has

pub no_stray : (set : NameSet) (listing : List Entry) (i : ℕ) → Decides set listing i → length listing ≤ i → (known : List (List ℕ)) → HasNames set known → none_found (first_unknown known (entry_names listing)) (λ name. file_fault name Stray) ≡ Ok tt
no_stray set listing i decides over known has =
    ap (λ o. none_found o (λ name. file_fault name Stray)) (sym (decides known has) ∙ ap (λ es. first_unknown known (entry_names es)) (at_end listing i over))
