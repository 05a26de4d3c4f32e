-- A part that is published leaves every other part as it was, where neither path is at or below the other.
use Rattle.std.proofs.Common.{◌≡◌, ℕ, Bool, true, false, ◌&&◌, ◌==◌, List, [], ◌∷◌, length, Option, Some, None, refl, ap, sym, ◌∙◌}
use Rattle.std.specs.Prelude.{if◌then◌else◌}
use Rattle.std.specs.List.{filter_map}
use Rattle.std.specs.FinMap.{entries, entries-insert, entries_sorted, get, get-insert, insert}
use Rattle.std.proofs.lemmas.Bool.{eq-eqb}
use Rattle.std.proofs.lemmas.Cmp.{nat_list_cmp_total}
use Rattle.mt_shelf.specs.declared.file.Entry.{Entry}
use Rattle.mt_shelf.specs.Paths.{is_at_or_below, joined_path, name_below}
use Rattle.mt_shelf.specs.Files.{Draft, Files, entries_below, entry_of, gained_files, listing_of}
use Rattle.mt_shelf.specs.Held.{with_entry_if}
use Rattle.mt_shelf.proofs.Puts.{joined_below}
use Rattle.mt_shelf.proofs.Listings.{shown-put}
use Rattle.mt_table.specs.declared.definition.Table.{Table}
use Rattle.mt_defs.specs.Folder.{Folder}
use Rattle.mt_definition.specs.declared.accepted.Accepted.{Accepted}
use Rattle.mt_check.specs.FolderChecks.{folder_checks}
use Rattle.mt_command.specs.Outcomes.{Outcomes, ◌>>=◌, gives, refused_by}
use Rattle.mt_command.specs.Parts.{folder_at, listed_names, listed_part, part_steps}
use Rattle.mt_command.specs.declared.status.Status.TheVariants.{AtFault}
use Rattle.mt_law_written.proofs.LookupLemmas.{other_name}
use Rattle.mt_headline.proofs.GainedLemmas.{at_or_below, not_both}

-- ---- paths

second : (a b : Bool) → a ≡ true → (a && b) ≡ false → b ≡ false
second true b is e = e
second false b is e = cc

first_of : (a b : ℕ) (xs ys : List ℕ) → a ∷ xs ≡ b ∷ ys → a ≡ b
first_of a b xs ys e = cc

rest_of : (a b : ℕ) (xs ys : List ℕ) → a ∷ xs ≡ b ∷ ys → xs ≡ ys
rest_of a b xs ys e = cc

-- no path lies below two parts that are apart
below_one : (part other name below : List ℕ) → is_at_or_below part other ≡ false → is_at_or_below other part ≡ false → joined_path part name ≡ joined_path other below → ⊥
below_one [] [] name below one two same = cc
below_one [] (c ∷ other) name below one two same = not_both (c == 47) (eq-eqb c 47 (sym (first_of 47 c name (joined_path other below) same))) one
below_one (c ∷ part) [] name below one two same = not_both (c == 47) (eq-eqb c 47 (first_of c 47 (joined_path part name) below same)) two
below_one (c ∷ part) (d ∷ other) name below one two same =
    let is : c ≡ d = first_of c d (joined_path part name) (joined_path other below) same in
    below_one part other name below (second (c == d) (is_at_or_below part other) (eq-eqb c d is) one) (second (d == c) (is_at_or_below other part) (eq-eqb d c (sym is)) two)
    (rest_of c d (joined_path part name) (joined_path other below) same)

none_below : (target other name : List ℕ) → is_at_or_below target other ≡ false → is_at_or_below other target ≡ false → name_below other (joined_path target name) ≡ None
none_below target other name one two = by (name_below other (joined_path target name)) refl
  where
    by : (o : Option (List ℕ)) → name_below other (joined_path target name) ≡ o → o ≡ None
    by None is = refl
    by (Some below) is = absurd (below_one target other name below one two (joined_below other (joined_path target name) below is))

-- ---- the files, the folder and the listing

pub file_stays : (target path : List ℕ) (draft : Draft) (files : Files) → is_at_or_below target path ≡ false → get (gained_files target draft files) path ≡ get files path
file_stays target path [] files other = refl
file_stays target path (file ∷ draft) files other =
    file_stays target path draft (insert files (joined_path target file.0) file.1) other
    ∙ get-insert nat_list_cmp_total files (joined_path target file.0) file.1 path
    ∙ ap (λ (b : Bool). if b then Some file.1 else get files path)
    (other_name path (joined_path target file.0) (λ same. not_both (is_at_or_below target path) (ap (is_at_or_below target) same ∙ at_or_below target file.0) other))

pub folder_stays : (target other : List ℕ) (draft : Draft) (files : Files) → is_at_or_below target other ≡ false → is_at_or_below other target ≡ false → (name : List ℕ) → folder_at other (gained_files target draft files) name ≡ folder_at other files name
folder_stays target other [] files one two name = refl
folder_stays target other (file ∷ draft) files one two name =
    folder_stays target other draft (insert files (joined_path target file.0) file.1) one two name
    ∙ get-insert nat_list_cmp_total files (joined_path target file.0) file.1 (joined_path other name)
    ∙ ap (λ (b : Bool). if b then Some file.1 else folder_at other files name) (other_name (joined_path other name) (joined_path target file.0) (λ same. below_one target other file.0 name one two (sym same)))

pub listing_stays : (target other : List ℕ) (draft : Draft) (files : Files) → is_at_or_below target other ≡ false → is_at_or_below other target ≡ false → entries_below other (gained_files target draft files) ≡ entries_below other files
listing_stays target other [] files one two = refl
listing_stays target other (file ∷ draft) files one two =
    listing_stays target other draft (insert files (joined_path target file.0) file.1) one two
    ∙ ap (filter_map (entry_of other)) (entries-insert nat_list_cmp_total files (joined_path target file.0) file.1)
    ∙ shown-put other (joined_path target file.0) file.1 (entries files) (entries_sorted files)
    ∙ ap (λ (o : Option (List ℕ)). with_entry_if o (length file.1) (entries_below other files)) (none_below target other file.0 one two)

-- ---- the steps

-- the steps of a part with this folder and this listing
abbrev steps_by : Table → List ℕ → Folder → List Entry → Outcomes Accepted
steps_by table part folder listing = gives (listed_part part (listing_of listing)) >>= λ _. refused_by (AtFault part) (λ answer. folder_checks table folder (listed_names listing) ≡ answer)

pub steps_stay : (table : Table) (target other : List ℕ) (draft : Draft) (files : Files) → is_at_or_below target other ≡ false → is_at_or_below other target ≡ false → part_steps table other (gained_files target draft files) ≡ part_steps table other files
steps_stay table target other draft files one two =
    ap (steps_by table other (folder_at other (gained_files target draft files))) (listing_stays target other draft files one two)
    ∙ ap (λ (folder : Folder). steps_by table other folder (entries_below other files)) (λ i name. folder_stays target other draft files one two name i)
