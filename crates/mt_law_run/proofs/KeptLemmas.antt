-- What a run leaves alone.
use Rattle.std.proofs.Common.{◌≡◌, ◌⊎◌, inl, inr, ℕ, Bool, false, cond, List, [], ◌∷◌, map, Option, Some, None, Result, Ok, Err, refl, ap, sym, ◌∙◌}
use Rattle.std.specs.FinMap.{entries, find, get, get-entries}
use Rattle.std.specs.List.{list_any}
use Rattle.std.specs.Ordering.{nat_cmp}
use Rattle.std.specs.Cmp.Lexicographic.{slice_cmp}
use Rattle.std.proofs.lemmas.Bool.{cases_Bool, or_parts}
use Rattle.mt_fault.specs.declared.file.FileBytes.{FileBytes}
use Rattle.mt_shelf.specs.Files.{Draft, Files, entries_below, gained_files, stands}
use Rattle.mt_shelf.specs.Held.{pair_of}
use Rattle.mt_shelf.specs.Paths.{is_at_or_below}
use Rattle.mt_defs.specs.Folder.{names_agree}
use Rattle.mt_table.specs.declared.definition.Table.{Table}
use Rattle.mt_defs.proofs.NameLemmas.{name_is}
use Rattle.mt_headline.proofs.ApartLemmas.{file_stays}
use Rattle.mt_command.specs.Parts.{folder_at}
use Rattle.mt_command.specs.Plans.{Plan, World, Gains, Performs, input_of}
use Rattle.mt_command.specs.Status.{◌>>=◌}
use Rattle.mt_command.specs.Tables.{table_in, table_of, table_text}
use Rattle.mt_command.specs.Targets.{with_folder}
use Rattle.mt_command.specs.declared.status.Status.{Status}
use Rattle.mt_law_run.specs.Published.{KeepsOthers}
use Rattle.mt_law_run.proofs.KnownLemmas.{both, files_after}

-- what the law of parts says
pub record StayLaws : Type 0 where
  pub file : (target path : List ℕ) (draft : Draft) (files : Files) → is_at_or_below target path ≡ false
      → get (gained_files target draft files) path ≡ get files path
  pub folder : (target other : List ℕ) (draft : Draft) (files : Files) → is_at_or_below target other ≡ false → is_at_or_below other target ≡ false
      → folder_at other (gained_files target draft files) ≡ folder_at other files
  pub listing : (target other : List ℕ) (draft : Draft) (files : Files) → is_at_or_below target other ≡ false → is_at_or_below other target ≡ false
      → entries_below other (gained_files target draft files) ≡ entries_below other files

module _ (laws : StayLaws) (target : List ℕ) (files : Files) (new : World) where
  keeps_all : new.files ≡ Some files → KeepsOthers target files new
  keeps_all same = record { after = files; files_are = same; file = λ path apart. refl; folder = λ other one two. refl; listing = λ other one two. refl }

  keeps_with : (outcome : Result (List FileBytes) Status) → new.files ≡ Some (with_folder target outcome files) → KeepsOthers target files new
  keeps_with (Err status) same = keeps_all same
  keeps_with (Ok folder) same =
      record {
        after = gained_files target (map pair_of folder) files;
        files_are = same;
        file = λ path apart. laws.file target path (map pair_of folder) files apart;
        folder = λ other one two. laws.folder target other (map pair_of folder) files one two;
        listing = λ other one two. laws.listing target other (map pair_of folder) files one two;
      }

  -- a plan that publishes a folder at the target, or refuses
  pub keeps : (plan : Plan) (old : World) (status : Status) (input : List ℕ) (outcome : Result (List FileBytes) Status) → old.files ≡ Some files
      → input_of plan old ≡ Some input → plan.files files input ≡ with_folder target outcome files
      → Performs (Some plan) old new status → KeepsOthers target files new
  keeps plan old status input outcome known read is (meets, cause) = by (files_after plan old new status meets.left)
    where
      by : Gains plan old new ⊎ (new.files ≡ old.files) → KeepsOthers target files new
      by (inl gains) =
          keeps_with outcome (both plan old files input known read (λ f i. new.files ≡ Some (plan.files f i)) gains ∙ ap (λ (f : Files). Some f) is)
      by (inr same) = keeps_all (same ∙ known)

-- a plan that changes no file
pub files_stay : (plan : Plan) (old new : World) (status : Status) (files : Files) (input : List ℕ) → old.files ≡ Some files → input_of plan old ≡ Some input
    → plan.files files input ≡ files → Performs (Some plan) old new status → new.files ≡ old.files
files_stay plan old new status files input known read is (meets, cause) = by (files_after plan old new status meets.left)
  where
    by : Gains plan old new ⊎ (new.files ≡ old.files) → new.files ≡ old.files
    by (inl gains) = both plan old files input known read (λ f i. new.files ≡ Some (plan.files f i)) gains ∙ ap (λ (f : Files). Some f) is ∙ sym known
    by (inr same) = same

-- ---- the table's file

-- a file isn't at or below a free target
found_apart : (part path bytes : List ℕ) (files : List (List ℕ × List ℕ))
    → list_any (is_at_or_below part) (map (λ (file : List ℕ × List ℕ). file.0) files) ≡ false → find (slice_cmp nat_cmp) path files ≡ Some bytes
    → is_at_or_below part path ≡ false
found_apart part path bytes [] free e = cc
found_apart part path bytes (file ∷ files) free e =
    let both = or_parts (is_at_or_below part file.0) (list_any (is_at_or_below part) (map (λ (file : List ℕ × List ℕ). file.0) files)) free in
    elim (cases_Bool (names_agree path file.0)) [
      | inl same ↦ ap (is_at_or_below part) (name_is path file.0 same) ∙ both.0
      | inr other ↦ found_apart part path bytes files both.1 (sym (ap (λ (b : Bool). cond b (Some file.1) (find (slice_cmp nat_cmp) path files)) other) ∙ e)
    ]

table_apart : (path part : List ℕ) (table : Table) (files : Files) → table_in path files ≡ Ok table → stands part files ≡ false
    → is_at_or_below part path ≡ false
table_apart path part table files known free = by (get files path) refl known
  where
    by : (o : Option (List ℕ)) → get files path ≡ o → (table_text o >>= table_of) ≡ Ok table → is_at_or_below part path ≡ false
    by None is e = cc
    by (Some bytes) is e = found_apart part path bytes (entries files) free (sym (get-entries files path) ∙ is)

-- so it stays, whatever is published there
pub table_stays : (path part : List ℕ) (table : Table) (draft : Draft) (files : Files) → table_in path files ≡ Ok table → stands part files ≡ false
    → table_in path (gained_files part draft files) ≡ Ok table
table_stays path part table draft files known free =
    ap (λ (o : Option (List ℕ)). table_text o >>= table_of) (file_stays part path draft files (table_apart path part table files known free)) ∙ known
