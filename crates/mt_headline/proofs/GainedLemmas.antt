-- A draft that is published where no file stands: the part's folder is the draft's.
use Rattle.std.proofs.Common.{◌≡◌, ℕ, suc, Bool, true, false, cond, ◌&&◌, List, [], ◌∷◌, map, refl, ap, sym, ◌∙◌, arith, inl, inr}
use Rattle.std.specs.Prelude.{AllPairs, Option, Some, None, if◌then◌else◌}
use Rattle.std.specs.List.{list_any}
use Rattle.std.specs.Ordering.{nat_cmp}
use Rattle.std.specs.Cmp.Lexicographic.{slice_cmp}
use Rattle.std.specs.FinMap.{entries, find, get-entries, get-insert, insert}
use Rattle.std.proofs.lemmas.Bool.{cases_Bool, eq-eqb, or_parts}
use Rattle.std.proofs.lemmas.Cmp.{nat_list_cmp_total}
use Rattle.std.proofs.lemmas.List.{append_cancel_left}
use Rattle.mt_fault.specs.declared.file.FileBytes.{FileBytes}
use Rattle.mt_shelf.specs.Paths.{is_at_or_below, joined_path}
use Rattle.mt_shelf.specs.Files.{Files, gained_files, stands}
use Rattle.mt_shelf.specs.Held.{pair_of}
use Rattle.mt_shelf.proofs.Listings.{Pair}
use Rattle.mt_defs.specs.Folder.{folder_of, names_agree}
use Rattle.mt_defs.proofs.NameLemmas.{name_is, same_name}
use Rattle.mt_law_written.proofs.ApartLemmas.{EachLater, apart_each}
use Rattle.mt_law_written.proofs.LookupLemmas.{Apart, AreApart, other_name}
use Rattle.mt_law_written.proofs.OrderLemmas.{Differently}
use Rattle.mt_command.specs.Parts.{folder_at}

-- ---- a free target

pub at_or_below : (part name : List ℕ) → is_at_or_below part (joined_path part name) ≡ true
at_or_below [] name = refl
at_or_below (p ∷ part) name = ap (λ (b : Bool). b && is_at_or_below part (joined_path part name)) (eq-eqb p p refl) ∙ at_or_below part name

pub not_both : (b : Bool) → b ≡ true → b ≡ false → ⊥
not_both true is other = cc
not_both false is other = cc

nothing_found : (part name : List ℕ) (files : List Pair) → list_any (is_at_or_below part) (map (λ (file : Pair). file.0) files) ≡ false → find (slice_cmp nat_cmp) (joined_path part name) files ≡ None
nothing_found part name [] free = refl
nothing_found part name (file ∷ files) free =
    let both = or_parts (is_at_or_below part file.0) (list_any (is_at_or_below part) (map (λ (file : Pair). file.0) files)) free in
    let other : names_agree (joined_path part name) file.0 ≡ false =
    other_name (joined_path part name) file.0 (λ same. not_both (is_at_or_below part file.0) (ap (is_at_or_below part) (sym same) ∙ at_or_below part name) both.0) in
    ap (λ (b : Bool). cond b (Some file.1) (find (slice_cmp nat_cmp) (joined_path part name) files)) other ∙ nothing_found part name files both.1

pub free_below : (part : List ℕ) (files : Files) → stands part files ≡ false → (name : List ℕ) → folder_at part files name ≡ None
free_below part files free name = get-entries files (joined_path part name) ∙ nothing_found part name (entries files) free

-- ---- names of a draft

pub later_of : (files : List FileBytes) → AllPairs Differently files → EachLater Differently files
later_of [] pairs = tt
later_of (file ∷ files) pairs =
    (λ k d inside. pairs 0 (suc k) d (omega arith) (omega (arith, inside)), later_of files (λ i j d low inside. pairs (suc i) (suc j) d (omega (arith, low)) (omega (arith, inside))))

pub all_apart : (files : List FileBytes) → AllPairs Differently files → AreApart files
all_apart files pairs = apart_each files (later_of files pairs)

none_of : (file : FileBytes) (files : List FileBytes) (name : List ℕ) → Apart file files → file.name ≡ name → folder_of files name ≡ None
none_of file [] name apart same = refl
none_of file (other ∷ files) name apart same =
    let differ : names_agree other.name name ≡ false = other_name other.name name (λ e. not_both (names_agree file.name other.name) (same_name file.name other.name (same ∙ sym e)) apart.0) in
    ap (λ (b : Bool). if b then Some other.bytes else folder_of files name) differ ∙ none_of file files name apart.1 same

-- ---- the folder

abbrev or_else : Option (List ℕ) → Option (List ℕ) → Option (List ℕ)
or_else None later = later
or_else (Some bytes) later = Some bytes

joined_name : (part a b : List ℕ) → joined_path part a ≡ joined_path part b → a ≡ b
joined_name part a b same = let tails : 47 ∷ a ≡ 47 ∷ b = append_cancel_left part (47 ∷ a) (47 ∷ b) same in cc

abbrev with_one : Bool → FileBytes → Option (List ℕ) → Option (List ℕ)
with_one here file later = if here then Some file.bytes else later

-- one file before others of a draft
one_more : (part name : List ℕ) (file : FileBytes) (draft : List FileBytes) (before : Option (List ℕ)) → Apart file draft
    → or_else (folder_of draft name) (with_one (names_agree (joined_path part name) (joined_path part file.name)) file before) ≡ or_else (folder_of (file ∷ draft) name) before
one_more part name file draft before apart =
    elim (cases_Bool (names_agree file.name name)) [
      | inl same ↦
          let is : file.name ≡ name = name_is file.name name same in
          let here : names_agree (joined_path part name) (joined_path part file.name) ≡ true = same_name (joined_path part name) (joined_path part file.name) (ap (joined_path part) (sym is)) in
          ap (λ (o : Option (List ℕ)). or_else o (with_one (names_agree (joined_path part name) (joined_path part file.name)) file before)) (none_of file draft name apart is)
          ∙ ap (λ (b : Bool). with_one b file before) here
          ∙ ap (λ (b : Bool). or_else (with_one b file (folder_of draft name)) before) (sym same)
      | inr other ↦
          let differ : names_agree (joined_path part name) (joined_path part file.name) ≡ false =
          other_name (joined_path part name) (joined_path part file.name) (λ e. not_both (names_agree file.name name) (same_name file.name name (sym (joined_name part name file.name e))) other) in
          ap (λ (b : Bool). or_else (folder_of draft name) (with_one b file before)) differ
          ∙ ap (λ (b : Bool). or_else (with_one b file (folder_of draft name)) before) (sym other)
    ]

-- a name has what the draft puts there, or what was there
gained_below : (part : List ℕ) (draft : List FileBytes) (files : Files) (name : List ℕ) → AreApart draft
    → folder_at part (gained_files part (map pair_of draft) files) name ≡ or_else (folder_of draft name) (folder_at part files name)
gained_below part [] files name apart = refl
gained_below part (file ∷ draft) files name apart =
    gained_below part draft (insert files (joined_path part file.name) file.bytes) name apart.1
    ∙ ap (or_else (folder_of draft name)) (get-insert nat_list_cmp_total files (joined_path part file.name) file.bytes (joined_path part name))
    ∙ one_more part name file draft (folder_at part files name) apart.0

or_nothing : (o : Option (List ℕ)) → or_else o None ≡ o
or_nothing None = refl
or_nothing (Some bytes) = refl

-- a draft that is published at a free target is the folder of the part there
pub folder_gained : (part : List ℕ) (draft : List FileBytes) (files : Files) → AreApart draft → stands part files ≡ false → folder_at part (gained_files part (map pair_of draft) files) ≡ folder_of draft
folder_gained part draft files apart free i name =
    (gained_below part draft files name apart ∙ ap (or_else (folder_of draft name)) (free_below part files free name) ∙ or_nothing (folder_of draft name)) i
