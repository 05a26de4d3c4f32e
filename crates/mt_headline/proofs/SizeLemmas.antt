-- The listing of a part that was published: its files are not more than those of the draft, and there is one.
use Rattle.std.proofs.Common.{◌≡◌, ℕ, ◌+◌, ◌≤◌, Bool, true, false, cond, List, [], ◌∷◌, length, map, refl, ap, sym, ◌∙◌, subst, arith}
use Rattle.std.specs.Prelude.{Option, Some, None, IsSome, is_some, nat_lt, option_map, Result, Ok, Err}
use Rattle.std.specs.List.{cons_option, filter_map, list_any}
use Rattle.std.specs.Ordering.{nat_cmp}
use Rattle.std.specs.Cmp.Lexicographic.{slice_cmp}
use Rattle.std.specs.FinMap.{entries, entries-insert, entries_sorted, insert}
use Rattle.std.specs.declared.cmp.Ordering.{Ordering}
use Rattle.std.specs.declared.cmp.Ordering.TheVariants.{Less, Equal, Greater}
use Rattle.std.proofs.lemmas.Bool.{ltb-false, ltb-true, or_parts}
use Rattle.std.proofs.lemmas.Cmp.{nat_list_cmp_total}
use Rattle.std.proofs.lemmas.List.Sums.{sum_by-cons}
use Rattle.mt_shelf.specs.declared.file.Entry.{Entry}
use Rattle.mt_fault.specs.declared.file.FileBytes.{FileBytes}
use Rattle.mt_shelf.specs.Paths.{is_at_or_below, joined_path, name_below}
use Rattle.mt_shelf.specs.Files.{Files, entries_below, entry_of, gained_files, listing_of, stands}
use Rattle.mt_shelf.specs.Held.{by_order, pair_of, with_entry, with_entry_if}
use Rattle.mt_shelf.proofs.Puts.{below_joined, joined_below}
use Rattle.mt_shelf.proofs.Listings.{shown-put, Pair}
use Rattle.mt_files.specs.Listings.{size_in}
use Rattle.mt_command.specs.Parts.{folder_at, listed_bytes, listing_in, listed_part}
use Rattle.mt_command.specs.Targets.{folder_bytes, within_limit}
use Rattle.mt_command.specs.declared.limits.TheConstants.{MAX_FOLDER}
use Rattle.mt_headline.proofs.GainedLemmas.{at_or_below, not_both}
use Rattle.mt_headline.proofs.NameLemmas.{is_sized}

abbrev size_of : Entry → ℕ
size_of entry = entry.size

-- ---- sums of sizes

-- one entry more, or another size of one
entry_sum : (name : List ℕ) (size : ℕ) (listing : List Entry) → listed_bytes (with_entry name size listing) ≤ size + listed_bytes listing
entry_sum name size [] = omega arith
entry_sum name size (entry ∷ listing) = by (slice_cmp nat_cmp name entry.name) (entry_sum name size listing)
  where
    new : Entry
    new = record { name = name; size = size }

    set : Entry
    set = record { name = entry.name; size = size }

    by : (o : Ordering) → listed_bytes (with_entry name size listing) ≤ size + listed_bytes listing → listed_bytes (by_order o (new ∷ entry ∷ listing) (set ∷ listing) (entry ∷ with_entry name size listing)) ≤ size + listed_bytes (entry ∷ listing)
    by Less later = let all : listed_bytes (new ∷ entry ∷ listing) ≡ size + listed_bytes (entry ∷ listing) = sum_by-cons size_of new (entry ∷ listing) in omega (arith, all)
    by Equal later =
        let all : listed_bytes (set ∷ listing) ≡ size + listed_bytes listing = sum_by-cons size_of set listing in
        let before : listed_bytes (entry ∷ listing) ≡ entry.size + listed_bytes listing = sum_by-cons size_of entry listing in
        omega (arith, all, before)
    by Greater later =
        let all : listed_bytes (entry ∷ with_entry name size listing) ≡ entry.size + listed_bytes (with_entry name size listing) = sum_by-cons size_of entry (with_entry name size listing) in
        let before : listed_bytes (entry ∷ listing) ≡ entry.size + listed_bytes listing = sum_by-cons size_of entry listing in
        omega (arith, later, all, before)

-- the listing of one file more
inserted : (part name bytes : List ℕ) (files : Files) → entries_below part (insert files (joined_path part name) bytes) ≡ with_entry name (length bytes) (entries_below part files)
inserted part name bytes files =
    ap (filter_map (entry_of part)) (entries-insert nat_list_cmp_total files (joined_path part name) bytes)
    ∙ shown-put part (joined_path part name) bytes (entries files) (entries_sorted files)
    ∙ ap (λ (o : Option (List ℕ)). with_entry_if o (length bytes) (entries_below part files)) (below_joined part name)

inserted_sum : (part name bytes : List ℕ) (files : Files) → listed_bytes (entries_below part (insert files (joined_path part name) bytes)) ≤ length bytes + listed_bytes (entries_below part files)
inserted_sum part name bytes files = subst (λ (listing : List Entry). listed_bytes listing ≤ length bytes + listed_bytes (entries_below part files)) (sym (inserted part name bytes files)) (entry_sum name (length bytes) (entries_below part files))

gained_sum : (part : List ℕ) (draft : List FileBytes) (files : Files) → listed_bytes (entries_below part (gained_files part (map pair_of draft) files)) ≤ folder_bytes draft + listed_bytes (entries_below part files)
gained_sum part [] files = omega arith
gained_sum part (file ∷ draft) files =
    let rest = gained_sum part draft (insert files (joined_path part file.name) file.bytes) in
    let here = inserted_sum part file.name file.bytes files in
    let all = sum_by-cons (λ (f : FileBytes). length f.bytes) file draft in
    omega (arith, rest, here, all)

-- ---- a free target

nothing_named : (part path : List ℕ) → is_at_or_below part path ≡ false → name_below part path ≡ None
nothing_named part path free = by (name_below part path) refl
  where
    by : (o : Option (List ℕ)) → name_below part path ≡ o → o ≡ None
    by None is = refl
    by (Some name) is = absurd (not_both (is_at_or_below part path) (ap (is_at_or_below part) (joined_below part path name is) ∙ at_or_below part name) free)

nothing_listed : (part : List ℕ) (files : List Pair) → list_any (is_at_or_below part) (map (λ (file : Pair). file.0) files) ≡ false → filter_map (entry_of part) files ≡ []
nothing_listed part [] free = refl
nothing_listed part (file ∷ files) free =
    let both = or_parts (is_at_or_below part file.0) (list_any (is_at_or_below part) (map (λ (file : Pair). file.0) files)) free in
    let entry : List ℕ → Entry = λ name. record { name = name; size = length file.1 } in
    ap (λ (o : Option (List ℕ)). cons_option (option_map entry o) (filter_map (entry_of part) files)) (nothing_named part file.0 both.0) ∙ nothing_listed part files both.1

-- the published files are within the limit where the draft is
pub few_gained : (part : List ℕ) (draft : List FileBytes) (files : Files) → stands part files ≡ false → folder_bytes draft ≤ MAX_FOLDER → listed_bytes (entries_below part (gained_files part (map pair_of draft) files)) ≤ MAX_FOLDER
few_gained part draft files free few =
    let sum = gained_sum part draft files in
    let nothing : listed_bytes (entries_below part files) ≡ 0 = ap listed_bytes (nothing_listed part (entries files) free) in
    omega (arith, sum, nothing, few)

-- ---- the listing

-- a limit that is kept
pub ok_of : {A B : Type 0} (above : Bool) (status : B) (x : A) → (let r : Result A B = cond above (Err status) (Ok x) in r) ≡ Ok x → above ≡ false
ok_of true status x e = cc
ok_of false status x e = refl

ok_from : {A B : Type 0} (above : Bool) (status : B) (x : A) → above ≡ false → (let r : Result A B = cond above (Err status) (Ok x) in r) ≡ Ok x
ok_from true status x e = cc
ok_from false status x e = refl

above_not : (m n : ℕ) → n ≤ m → nat_lt m n ≡ false
above_not m n few = by (nat_lt m n) refl
  where
    by : (b : Bool) → nat_lt m n ≡ b → b ≡ false
    by true is = let above = ltb-true m n is in absurd (omega (arith, above, few))
    by false is = refl

-- a folder within the limit
pub few_of : (folder : List FileBytes) → within_limit folder ≡ Ok folder → folder_bytes folder ≤ MAX_FOLDER
few_of folder within = let few = ltb-false MAX_FOLDER (folder_bytes folder) (ok_of (nat_lt MAX_FOLDER (folder_bytes folder)) _ folder within) in omega (arith, few)

-- the files of a part of which there is one, within the limit
pub listed_within : (part name bytes : List ℕ) (files : Files) → folder_at part files name ≡ Some bytes → listed_bytes (entries_below part files) ≤ MAX_FOLDER → listing_in part files ≡ Ok (entries_below part files)
listed_within part name bytes files there few = by (entries_below part files) (is_sized part files name ∙ ap is_some there) few
  where
    by : (listing : List Entry) → IsSome (size_in listing name) → listed_bytes listing ≤ MAX_FOLDER → listed_part part (listing_of listing) ≡ Ok listing
    by [] sized few = cc
    by (entry ∷ listing) sized few = ok_from (nat_lt MAX_FOLDER (listed_bytes (entry ∷ listing))) _ (entry ∷ listing) (above_not MAX_FOLDER (listed_bytes (entry ∷ listing)) few)
