-- The part that a command publishes: what its checks read, and that its listing is within the limit.
use Rattle.std.proofs.Common.{◌≡◌, ℕ, ◌≤◌, false, List, map, ap, sym, ◌∙◌, subst, inl, inr}
use Rattle.std.specs.Prelude.{AllPairs, Result, Ok, Err}
use Rattle.mt_fault.specs.declared.fault.Fault.{Fault}
use Rattle.mt_shelf.specs.declared.file.Entry.{Entry}
use Rattle.mt_fault.specs.declared.file.FileBytes.{FileBytes}
use Rattle.mt_shelf.specs.Files.{Files, entries_below, gained_files, stands}
use Rattle.mt_shelf.specs.Held.{pair_of}
use Rattle.mt_table.specs.declared.definition.Table.{Table}
use Rattle.mt_defs.specs.Folder.{Folder, folder_of}
use Rattle.mt_defs.specs.Metadata.{columns_name, columns_text, column_at}
use Rattle.mt_defs.specs.Part.{StandsForIn}
use Rattle.mt_defs.specs.Projections.{base_of}
use Rattle.mt_defs.specs.Rows.{Row}
use Rattle.mt_definition.specs.declared.accepted.Accepted.{Accepted}
use Rattle.mt_command.specs.Parts.{folder_at, listing_in, part_checks, part_steps}
use Rattle.mt_command.specs.Targets.{folder_bytes, free_target}
use Rattle.mt_command.specs.declared.limits.TheConstants.{MAX_FOLDER}
use Rattle.mt_command.specs.declared.status.Status.{Status}
use Rattle.mt_law_written.proofs.OrderLemmas.{Differently}
use Rattle.mt_headline.proofs.GainedLemmas.{all_apart, folder_gained}
use Rattle.mt_headline.proofs.SizeLemmas.{few_gained, listed_within, ok_of}

-- ---- a free target

pub is_free : (part : List ℕ) (files : Files) → free_target part files ≡ Ok tt → stands part files ≡ false
is_free part files free = ok_of (stands part files) _ tt free

-- ---- the steps

-- a part of which there is a listing has the outcomes of its checks
pub steps_accept : (table : Table) (part : List ℕ) (files : Files) (listing : List Entry) (accepted : Accepted) → listing_in part files ≡ Ok listing → part_checks table part files (Ok accepted) → part_steps table part files (Ok accepted)
steps_accept table part files listing accepted listed checks = inl (listing, sym listed, checks)

-- checks have one answer
pub same_accepted : (a b : Accepted) → (let r : Result Accepted Fault = Ok a in r) ≡ Ok b → a ≡ b
same_accepted a b e = cc

pub not_both : (accepted : Accepted) (fault : Fault) → (let r : Result Accepted Fault = Ok accepted in r) ≡ Err fault → ⊥
not_both accepted fault e = cc

pub steps_checks : (table : Table) (part : List ℕ) (files : Files) (accepted : Accepted) → part_steps table part files (Ok accepted) → part_checks table part files (Ok accepted)
steps_checks table part files accepted (inl (listing, listed, checks)) = checks
steps_checks table part files accepted (inr (status, listed, bad)) = cc

-- and where the checks have no fault, no refusal
pub steps_refuse : (table : Table) (part : List ℕ) (files : Files) (listing : List Entry) (status : Status) → listing_in part files ≡ Ok listing → ((fault : Fault) → part_checks table part files (Err fault) → ⊥) → part_steps table part files (Err status) → ⊥
steps_refuse table part files listing status listed none (inl (other, is, (fault, checks, named))) = none fault checks
steps_refuse table part files listing status listed none (inr (other, is, same)) = never other listing (is ∙ listed)
  where
    never : (status : Status) (listing : List Entry) → (let r : Result (List Entry) Status = Err status in r) ≡ Ok listing → ⊥
    never status listing e = cc

-- ---- the part

-- the files, with a draft written below a part
abbrev pub with_draft : List ℕ → List FileBytes → Files → Files
with_draft part draft files = gained_files part (map pair_of draft) files

-- what is known of a part that was published
pub record IsPublished (table : Table) (rows : List Row) (granules part : List ℕ) (files : Files) : Type 0 where
  pub stands_for : StandsForIn table (folder_at part files) rows granules
  pub listed : listing_in part files ≡ Ok (entries_below part files)

-- a draft that is a folder for some rows, published at a free target
pub draft_published : (table : Table) (rows : List Row) (granules part : List ℕ) (draft : List FileBytes) (files : Files) → AllPairs Differently draft → stands part files ≡ false → folder_bytes draft ≤ MAX_FOLDER
    → StandsForIn table (folder_of draft) rows granules → IsPublished table rows granules part (with_draft part draft files)
draft_published table rows granules part draft files differ free few is =
    let same : folder_at part (with_draft part draft files) ≡ folder_of draft = folder_gained part draft files (all_apart draft differ) free in
    let metadata = is.holds.metadata in
    let there = ap (λ (folder : Folder). folder columns_name) same ∙ metadata.lists_columns in
    record {
      stands_for = subst (λ (folder : Folder). StandsForIn table folder rows granules) (sym same) is;
      listed = listed_within part columns_name (columns_text (map (column_at (base_of table).columns) is.holds.order)) (with_draft part draft files) there (few_gained part draft files free few);
    }
