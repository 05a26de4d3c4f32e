-- A part on a shelf that is accepted, as the part of certain rows and with no other outcome.
use Rattle.std.proofs.Common.{◌≡◌, inl, inr, ℕ, false, List, map, Option, Some, None, Result, Ok, refl, subst, sym}
use Rattle.std.specs.Prelude.{◌↔◌}
use Rattle.mt_table.specs.declared.definition.Table.{Table}
use Rattle.mt_shelf.specs.declared.file.Entry.{Entry}
use Rattle.mt_fault.specs.declared.file.FileBytes.{FileBytes}
use Rattle.mt_shelf.specs.Files.{Draft, Files, entries_below, gained_files, listing_of}
use Rattle.mt_shelf.specs.Held.{pair_of}
use Rattle.mt_shelf.specs.Paths.{is_at_or_below}
use Rattle.mt_defs.specs.Rows.{Row}
use Rattle.mt_defs.specs.Sorting.{sorted_rows}
use Rattle.mt_defs.specs.Writer.{written_folder}
use Rattle.mt_definition.specs.declared.accepted.Accepted.{Accepted}
use Rattle.mt_command.specs.Parts.{listed_part, part_steps}
use Rattle.mt_command.specs.Targets.{free_target, within_limit}
use Rattle.mt_command.specs.declared.status.Status.{Status}
use Rattle.mt_headline.specs.Storable.{AreStorable}
use Rattle.mt_merging.specs.Inputs.{some_files}
use Rattle.mt_trial.specs.Steps.{with_part}
use Rattle.mt_trial.proofs.OnlyLemmas.{IsOnly}

-- ---- what the laws of parts say

-- what is published of storable rows is accepted
abbrev pub AreAccepted : Type 0
AreAccepted =
    (table : Table) (rows : List Row) (part : List ℕ) (files : Files) → AreStorable table rows → free_target part files ≡ Ok tt
    → within_limit (written_folder table (sorted_rows table.sort rows)) ≡ Ok (written_folder table (sorted_rows table.sort rows))
    → (accepted : Accepted) × part_steps table part (gained_files part (map pair_of (written_folder table (sorted_rows table.sort rows))) files) (Ok accepted) × (accepted.rows ≡ sorted_rows table.sort rows)

-- the steps of a part have one outcome
abbrev pub HaveOneOutcome : Type 0
HaveOneOutcome = (table : Table) (part : List ℕ) (files : Files) (one other : Result Accepted Status) → part_steps table part files one → part_steps table part files other → one ≡ other

-- what is published elsewhere changes no outcome
abbrev pub KeepSteps : Type 0
KeepSteps =
    (table : Table) (target other : List ℕ) (draft : Draft) (files : Files) (outcome : Result Accepted Status) → is_at_or_below target other ≡ false → is_at_or_below other target ≡ false
    → part_steps table other (gained_files target draft files) outcome ↔ part_steps table other files outcome

pub record PartLaws : Type 0 where
  pub accepted : AreAccepted
  pub one : HaveOneOutcome
  pub steps : KeepSteps

-- ---- a part

pub record HasPart (table : Table) (part : List ℕ) (rows : List Row) (files : Files) : Type 0 where
  pub accepted : Accepted
  pub same : accepted.rows ≡ rows
  pub given : part_steps table part files (Ok accepted)
  pub only : IsOnly (part_steps table part files) accepted

there_by : (part : List ℕ) (found : Option (List Entry)) (listing : List Entry) → Ok listing ≡ listed_part part found → some_files part found ≡ Ok tt
there_by part None listing e = cc
there_by part (Some list) listing e = refl

pub is_there : (table : Table) (part : List ℕ) (rows : List Row) (files : Files) → HasPart table part rows files → some_files part (listing_of (entries_below part files)) ≡ Ok tt
is_there table part rows files has = by has.given
  where
    by : part_steps table part files (Ok has.accepted) → some_files part (listing_of (entries_below part files)) ≡ Ok tt
    by (inl (listing, listed, checks)) = there_by part (listing_of (entries_below part files)) listing listed
    by (inr (status, listed, same)) = cc

pub part_published : (laws : PartLaws) (table : Table) (rows : List Row) (part : List ℕ) (files : Files) → AreStorable table rows → free_target part files ≡ Ok tt
    → within_limit (written_folder table (sorted_rows table.sort rows)) ≡ Ok (written_folder table (sorted_rows table.sort rows)) → HasPart table part (sorted_rows table.sort rows) (with_part part (written_folder table (sorted_rows table.sort rows)) files)
part_published laws table rows part files storable free small =
    let (accepted, given, same) = laws.accepted table rows part files storable free small in
    record { accepted = accepted; same = same; given = given; only = λ outcome. (λ is. laws.one table part _ outcome (Ok accepted) is given, λ same. subst (part_steps table part _) (sym same) given) }

pub part_stays : (laws : PartLaws) (table : Table) (part target : List ℕ) (rows : List Row) (folder : List FileBytes) (files : Files) → is_at_or_below target part ≡ false → is_at_or_below part target ≡ false
    → HasPart table part rows files → HasPart table part rows (with_part target folder files)
part_stays laws table part target rows folder files one two has =
    let given = (laws.steps table target part (map pair_of folder) files (Ok has.accepted) one two).1 has.given in
    record { accepted = has.accepted; same = has.same; given = given; only = λ outcome. (λ is. laws.one table part _ outcome (Ok has.accepted) is given, λ same. subst (part_steps table part _) (sym same) given) }
