-- Of a part that stands for rows each command has one outcome: its text of these rows.
use Rattle.std.proofs.Common.{◌≡◌, ◌⊎◌, inl, inr, ℕ, List, Some, Result, Ok, Err, refl, ap, sym, subst}
use Rattle.std.specs.Prelude.{◌↔◌}
use Rattle.mt_shelf.specs.declared.file.Entry.{Entry}
use Rattle.mt_shelf.specs.Files.{Files, entries_below}
use Rattle.mt_table.specs.declared.definition.Table.{Table}
use Rattle.mt_tsv.specs.Printing.{rows_text}
use Rattle.mt_defs.specs.Metadata.{columns_name}
use Rattle.mt_defs.specs.Part.{StandsForIn}
use Rattle.mt_definition.specs.declared.accepted.Accepted.{Accepted}
use Rattle.mt_query.specs.declared.query.Query.{Query}
use Rattle.mt_query.specs.declared.why.QueryWhy.{QueryWhy}
use Rattle.mt_query.specs.Queries.{Asks}
use Rattle.mt_fold.specs.Answer.{answer_text}
use Rattle.mt_headline.proofs.SizeLemmas.{listed_within}
use Rattle.mt_command.specs.Commands.{PrintsTextOf}
use Rattle.mt_command.specs.Outcomes.{Outcomes, gives, refused_by}
use Rattle.mt_command.specs.Parts.{folder_at, listing_in, part_checks, part_steps, table_part_steps}
use Rattle.mt_command.specs.Plans.{World}
use Rattle.mt_command.specs.Tables.{table_in}
use Rattle.mt_command.specs.declared.status.Status.{Status}
use Rattle.mt_command.specs.declared.status.Status.TheVariants.{AtFault}
use Rattle.mt_select.specs.Select.{query_asked, select_steps}
use Rattle.mt_show.specs.Show.{show_steps}
use Rattle.mt_trial.proofs.PartLemmas.{HaveOneOutcome}
use Rattle.mt_reading.specs.Reading.{accepted_line, check_steps, rows_steps}
use Rattle.mt_law_run.specs.Endings.{FellShort, Printed}
use Rattle.mt_law_run.specs.Parts.{HasPart, shown_text}
use Rattle.mt_law_run.proofs.KnownLemmas.{CameTo, came_to}
use Rattle.mt_law_run.proofs.OnlyLemmas.{IsOnly, given_only, then_only}

-- ---- what the laws below say

-- the checks of a part accept exactly what its folder stands for
abbrev pub AcceptsExactly : Type 0
AcceptsExactly =
    (table : Table) (part : List ℕ) (files : Files) (held : Accepted) → part_checks table part files (Ok held) ↔ StandsForIn table (folder_at part files) held.rows held.granules

-- a text asks one thing of a table
abbrev pub AsksOneThing : Type 0
AsksOneThing = (text : List ℕ) (table : Table) (a b : Result Query QueryWhy) → Asks text table a → Asks text table b → a ≡ b

-- ---- the part

-- its files are listed
listed : (files : Files) (path part : List ℕ) (table : Table) (held : Accepted) → HasPart files path part table held
    → listing_in part files ≡ Ok (entries_below part files)
listed files path part table held has =
    let metadata = has.stands.holds.metadata in
    listed_within part columns_name _ files metadata.lists_columns has.small

-- it is accepted, and has no other outcome
pub record IsRead (path part : List ℕ) (files : Files) (table : Table) (held : Accepted) : Type 0 where
  pub table_is : table_in path files ≡ Ok table
  pub listing : List Entry
  pub listed : listing_in part files ≡ Ok listing
  pub only : IsOnly (part_steps table part files) held

pub is_read : AcceptsExactly → HaveOneOutcome → (files : Files) (path part : List ℕ) (table : Table) (held : Accepted) → HasPart files path part table held
    → IsRead path part files table held
is_read accepts one files path part table held has =
    let checks = (accepts table part files held).1 has.stands in
    let is = listed files path part table held has in
    record {
      table_is = has.table_is;
      listing = entries_below part files;
      listed = is;
      only = λ outcome steps. one table part files outcome (Ok held) steps (inl (entries_below part files, sym is, checks));
    }

-- ---- the steps

module _ (path part : List ℕ) (table : Table) (held : Accepted) (files : Files) (read : IsRead path part files table held) where
  table_only : IsOnly (gives (table_in path files)) table
  table_only = given_only (table_in path files) table read.table_is

  both_only : IsOnly (table_part_steps path part files) (table, held)
  both_only =
      then_only (gives (table_in path files)) _ table (table, held) table_only
      (then_only (part_steps table part files) _ held (table, held) read.only (given_only (Ok (table, held)) (table, held) refl))

  pub check_only : IsOnly (check_steps path part files) (accepted_line held)
  check_only =
      then_only (table_part_steps path part files) _ (table, held) (accepted_line held) both_only (given_only (Ok (accepted_line held)) (accepted_line held) refl)

  pub rows_only : IsOnly (rows_steps path part files) (rows_text table.columns held.rows)
  rows_only =
      then_only (table_part_steps path part files) _ (table, held) (rows_text table.columns held.rows) both_only
      (given_only (Ok (rows_text table.columns held.rows)) (rows_text table.columns held.rows) refl)

  checks_only : IsOnly (refused_by (AtFault part) (part_checks table part files)) held
  checks_only outcome checks = read.only outcome (inl (read.listing, sym read.listed, checks))

  pub show_only : IsOnly (show_steps path part files) (shown_text table part files held)
  show_only =
      let text = shown_text table part files held in
      then_only (gives (table_in path files)) _ table text table_only
      (then_only (gives (listing_in part files)) _ read.listing text (given_only (listing_in part files) read.listing read.listed)
      (then_only (refused_by (AtFault part) (part_checks table part files)) _ held text checks_only (given_only (Ok text) text refl)))

  module _ (asks_one : AsksOneThing) (text : List ℕ) (query : Query) (asks : Asks text table (Ok query)) where
    query_only : IsOnly (query_asked table text) query
    query_only (Ok other) asked = same (asks_one text table (Ok other) (Ok query) asked asks)
      where
        same : (let r : Result Query QueryWhy = Ok other in r) ≡ Ok query → (let r : Result Query Status = Ok other in r) ≡ Ok query
        same e = let is : other ≡ query = cc in ap Ok is
    query_only (Err status) (why, asked, named) = absurd (never (asks_one text table (Err why) (Ok query) asked asks))
      where
        never : (let r : Result Query QueryWhy = Err why in r) ≡ Ok query → ⊥
        never e = cc

    pub select_only : IsOnly (select_steps path part text files) (answer_text table query held.rows)
    select_only =
        then_only (gives (table_in path files)) _ table (answer_text table query held.rows) table_only
        (then_only (query_asked table text) _ query (answer_text table query held.rows) query_only
        (then_only (part_steps table part files) _ held (answer_text table query held.rows) read.only
        (given_only (Ok (answer_text table query held.rows)) (answer_text table query held.rows) refl)))

-- ---- the run

-- a command whose steps have one text as their outcome prints it, unless the run falls short
pub prints : (steps : Files → Outcomes (List ℕ)) (old new : World) (status : Status) (files : Files) (text : List ℕ) → old.files ≡ Some files
    → IsOnly (steps files) text → PrintsTextOf steps old new status → FellShort old new status ⊎ Printed old new status text
prints steps old new status files text known only runs = by (came_to old new status files known steps runs)
  where
    by : FellShort old new status ⊎ ((outcome : Result (List ℕ) Status) × steps files outcome × CameTo old new status outcome)
        → FellShort old new status ⊎ Printed old new status text
    by (inl fell) = inl fell
    by (inr (outcome, is, came)) = inr (subst (CameTo old new status) (only outcome is) came)
