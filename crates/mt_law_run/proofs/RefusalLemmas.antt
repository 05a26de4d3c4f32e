-- What a part's outcome says: what it stands for, or the step that refused.
use Rattle.std.proofs.Common.{◌≡◌, ◌≢◌, ◌⊎◌, inl, inr, ℕ, ◌≤◌, Bool, true, false, List, [], ◌∷◌, length, Option, Some, None, Result, Ok, Err, refl, ap, sym, ◌∙◌, subst, arith}
use Rattle.std.specs.Prelude.{nat_lt}
use Rattle.std.specs.FinMap.{get}
use Rattle.std.proofs.lemmas.Bool.{le-ltb, ltb-false}
use Rattle.mt_fault.specs.declared.fault.Fault.{Fault}
use Rattle.mt_shelf.specs.declared.file.Entry.{Entry}
use Rattle.mt_shelf.specs.Files.{Files, entries_below, listing_of}
use Rattle.mt_table.specs.declared.definition.Table.{Table}
use Rattle.mt_table_text.specs.TextReading.{table_reading}
use Rattle.mt_tsv.specs.Printing.{rows_text}
use Rattle.mt_defs.specs.Part.{StandsFor}
use Rattle.mt_defs.specs.Rows.{Row}
use Rattle.mt_definition.specs.declared.accepted.Accepted.{Accepted}
use Rattle.mt_query.specs.declared.query.Query.{Query}
use Rattle.mt_query.specs.declared.why.QueryWhy.{QueryWhy}
use Rattle.mt_query.specs.Queries.{Asks}
use Rattle.mt_fold.specs.Answer.{answer_text}
use Rattle.mt_headline.proofs.PublishedLemmas.{not_both}
use Rattle.mt_command.specs.Commands.{PrintsTextOf}
use Rattle.mt_command.specs.Outcomes.{Outcomes, ◌>>=◌, gives, refused_by}
use Rattle.mt_command.specs.Parts.{folder_at, listed_bytes, listing_in, part_checks, listed_part, part_steps, table_part_steps}
use Rattle.mt_command.specs.Plans.{World}
use Rattle.mt_command.specs.Tables.{table_in, table_of, table_text}
use Rattle.mt_command.specs.declared.limits.TheConstants.{MAX_FOLDER, MAX_TABLE_TEXT}
use Rattle.mt_command.specs.declared.status.Status.{Status}
use Rattle.mt_command.specs.declared.status.Status.TheVariants.{AtFault, BadQuery, BadTable, Done, TooMuch}
use Rattle.mt_command.specs.declared.status.What.TheVariants as what
use Rattle.mt_select.specs.Select.{answer_steps, query_asked, select_steps}
use Rattle.mt_show.specs.Show.{listed_text, part_text, show_steps}
use Rattle.mt_trial.proofs.OnlyLemmas.{same_value}
use Rattle.mt_reading.specs.Reading.{accepted_line, check_steps, rows_steps}
use Rattle.mt_law_run.specs.Endings.{FellShort, Printed}
use Rattle.mt_law_run.specs.Parts.{FirstFault, HasFiles, HasPart, IsAtFault, Read, StandsForNone, shown_text}
use Rattle.mt_law_run.proofs.KnownLemmas.{CameTo, came_to}
use Rattle.mt_law_run.proofs.NeverLemmas.{Never, NeverEnds, so_if, so_read, so_then}
use Rattle.mt_law_run.proofs.OnlyLemmas.{came_by, came_to_refuse, no_refusal}
use Rattle.mt_law_run.proofs.ReadLemmas.{AcceptsExactly, AsksOneThing}

-- ---- the listing

few_listed : (part : List ℕ) (listing given : List Entry) → listed_part part (listing_of listing) ≡ Ok given → listed_bytes listing ≤ MAX_FOLDER
few_listed part [] given is = cc
few_listed part (entry ∷ listing) given is = by (nat_lt MAX_FOLDER (listed_bytes (entry ∷ listing))) refl
  where
    by : (much : Bool) → nat_lt MAX_FOLDER (listed_bytes (entry ∷ listing)) ≡ much → listed_bytes (entry ∷ listing) ≤ MAX_FOLDER
    by true much = let never : listed_part part (Some (entry ∷ listing)) ≡ Err (TooMuch what.Part MAX_FOLDER) = rw much refl in cc
    by false few = let less = ltb-false MAX_FOLDER (listed_bytes (entry ∷ listing)) few in omega (arith, less)

-- a part of which some file is there, within the limit, is listed
pub some_listed : (part : List ℕ) (files : Files) → entries_below part files ≢ [] → listed_bytes (entries_below part files) ≤ MAX_FOLDER
    → listing_in part files ≡ Ok (entries_below part files)
some_listed part files some few = by (entries_below part files) some few
  where
    by : (listing : List Entry) → listing ≢ [] → listed_bytes listing ≤ MAX_FOLDER → listed_part part (listing_of listing) ≡ Ok listing
    by [] some few = absurd (some refl)
    by (entry ∷ listing) some few = let test = le-ltb MAX_FOLDER (listed_bytes (entry ∷ listing)) few in rw test refl

-- ---- what the outcome of a command's steps says of the part

-- the part was accepted, and the outcome is the text of this
abbrev pub Gave : (path part : List ℕ) → Files → (text : List ℕ) → (Table → Accepted → List ℕ) → Type 0
Gave path part files text text_of =
    (table : Table) × (accepted : Accepted) × (table_in path files ≡ Ok table) × part_steps table part files (Ok accepted) × (text ≡ text_of table accepted)

-- whatever the text is of
abbrev pub WasAccepted : (path part : List ℕ) → Files → Type 0
WasAccepted path part files = (table : Table) × (accepted : Accepted) × (table_in path files ≡ Ok table) × part_steps table part files (Ok accepted)

pub was_accepted : (path part : List ℕ) (files : Files) (text : List ℕ) (text_of : Table → Accepted → List ℕ) → Gave path part files text text_of
    → WasAccepted path part files
was_accepted path part files text text_of (table, accepted, known, steps, is) = (table, accepted, known, steps)

-- the table's file was refused, or the part
abbrev pub Refused : (path part : List ℕ) → Files → Status → Type 0
Refused path part files status =
    (table_in path files ≡ Err status) ⊎ ((table : Table) × (table_in path files ≡ Ok table) × part_steps table part files (Err status))

module _ (path part : List ℕ) (files : Files) where
  -- the steps after the first, as the definitions have them
  abbrev with_accepted : Table → Accepted → Outcomes (Table × Accepted)
  with_accepted table accepted = gives (Ok (table, accepted))

  abbrev with_table : Table → Outcomes (Table × Accepted)
  with_table table = part_steps table part files >>= with_accepted table

  abbrev line_of : Table × Accepted → Outcomes (List ℕ)
  line_of read = gives (Ok (accepted_line read.1))

  abbrev lines_of : Table × Accepted → Outcomes (List ℕ)
  lines_of read = gives (Ok (rows_text read.0.columns read.1.rows))

  abbrev shape_of : Table → Accepted → Outcomes (List ℕ)
  shape_of table accepted = gives (Ok (shown_text table part files accepted))

  abbrev answer_of : Table → Query → Accepted → Outcomes (List ℕ)
  answer_of table query accepted = gives (Ok (answer_text table query accepted.rows))

  abbrev asked_of : List ℕ → Table → Outcomes (List ℕ)
  asked_of query_text table = query_asked table query_text >>= λ query. answer_steps table query part files

  both_gave : (table : Table) (accepted : Accepted) → table_part_steps path part files (Ok (table, accepted))
      → (table_in path files ≡ Ok table) × part_steps table part files (Ok accepted)
  both_gave table accepted came =
      let first = came_by (gives (table_in path files)) with_table (table, accepted) came in
      let second = came_by (part_steps first.0 part files) (with_accepted first.0) (table, accepted) first.2 in
      let same : (table, accepted) ≡ (first.0, second.0) = same_value (table, accepted) (first.0, second.0) second.2 in
      let is_table : first.0 ≡ table = sym (ap (λ (p : Table × Accepted). p.0) same) in
      let is_accepted : second.0 ≡ accepted = sym (ap (λ (p : Table × Accepted). p.1) same) in (
        sym first.1 ∙ ap (λ (t : Table). let r : Result Table Status = Ok t in r) is_table,
        subst (λ (a : Accepted). part_steps table part files (Ok a)) is_accepted (subst (λ (t : Table). part_steps t part files (Ok second.0)) is_table second.1),
      )

  both_refused : (status : Status) → table_part_steps path part files (Err status) → Refused path part files status
  both_refused status came = by (came_to_refuse (gives (table_in path files)) with_table status came)
    where
      after : (table : Table)
          → part_steps table part files (Err status) ⊎ ((accepted : Accepted) × part_steps table part files (Ok accepted) × with_accepted table accepted (Err status)) → part_steps table part files (Err status)
      after table (inl refused) = refused
      after table (inr (accepted, is, bad)) = absurd (no_refusal status (table, accepted) bad)

      by : gives (table_in path files) (Err status) ⊎ ((table : Table) × gives (table_in path files) (Ok table) × with_table table (Err status))
          → Refused path part files status
      by (inl refused) = inl (sym refused)
      by (inr (table, known, next)) = inr (table, sym known, after table (came_to_refuse (part_steps table part files) (with_accepted table) status next))

  pub check_gave : (text : List ℕ) → check_steps path part files (Ok text) → Gave path part files text (λ table accepted. accepted_line accepted)
  check_gave text came =
      let (read, both, is) = came_by (table_part_steps path part files) line_of text came in
      let (known, steps) = both_gave read.0 read.1 both in
      (read.0, read.1, known, steps, same_value text _ is)

  pub rows_gave : (text : List ℕ) → rows_steps path part files (Ok text) → Gave path part files text (λ table accepted. rows_text table.columns accepted.rows)
  rows_gave text came =
      let (read, both, is) = came_by (table_part_steps path part files) lines_of text came in
      let (known, steps) = both_gave read.0 read.1 both in
      (read.0, read.1, known, steps, same_value text _ is)

  pub show_gave : (text : List ℕ) → show_steps path part files (Ok text)
      → Gave path part files text (λ table accepted. shown_text table part files accepted)
  show_gave text came =
      let (table, known, later) = came_by (gives (table_in path files)) (λ table. part_text table part files) text came in
      let (listing, listed, last) = came_by (gives (listing_in part files)) (λ _. listed_text table part files) text later in
      let (accepted, checks, is) = came_by (refused_by (AtFault part) (part_checks table part files)) (shape_of table) text last in
      (table, accepted, sym known, inl (listing, listed, checks), same_value text _ is)

  pub select_gave : (query_text text : List ℕ) → select_steps path part query_text files (Ok text)
      → (query : Query) × (g : Gave path part files text (λ table accepted. answer_text table query accepted.rows)) × Asks query_text g.0 (Ok query)
  select_gave query_text text came =
      let (table, known, later) = came_by (gives (table_in path files)) (asked_of query_text) text came in
      let (query, asked, last) = came_by (query_asked table query_text) (λ query. answer_steps table query part files) text later in
      let (accepted, steps, is) = came_by (part_steps table part files) (answer_of table query) text last in
      (query, (table, accepted, sym known, steps, same_value text _ is), asked)

  -- ---- and where they refuse

  pub check_refused : (status : Status) → check_steps path part files (Err status) → Refused path part files status
  check_refused status came = by (came_to_refuse (table_part_steps path part files) line_of status came)
    where
      by : table_part_steps path part files (Err status) ⊎ ((read : Table × Accepted) × table_part_steps path part files (Ok read) × line_of read (Err status))
          → Refused path part files status
      by (inl refused) = both_refused status refused
      by (inr (read, is, bad)) = absurd (no_refusal status (accepted_line read.1) bad)

  pub rows_refused : (status : Status) → rows_steps path part files (Err status) → Refused path part files status
  rows_refused status came = by (came_to_refuse (table_part_steps path part files) lines_of status came)
    where
      by : table_part_steps path part files (Err status) ⊎ ((read : Table × Accepted) × table_part_steps path part files (Ok read) × lines_of read (Err status)) → Refused path part files status
      by (inl refused) = both_refused status refused
      by (inr (read, is, bad)) = absurd (no_refusal status (rows_text read.0.columns read.1.rows) bad)

  pub show_refused : (status : Status) → show_steps path part files (Err status) → Refused path part files status
  show_refused status came = by (came_to_refuse (gives (table_in path files)) (λ table. part_text table part files) status came)
    where
      at_last : (table : Table) (listing : List Entry) → gives (listing_in part files) (Ok listing)
          → refused_by (AtFault part) (part_checks table part files) (Err status) ⊎ ((accepted : Accepted) × refused_by (AtFault part) (part_checks table part files) (Ok accepted) × shape_of table accepted (Err status)) → part_steps table part files (Err status)
      at_last table listing listed (inl refused) = inl (listing, listed, refused)
      at_last table listing listed (inr (accepted, is, bad)) = absurd (no_refusal status (shown_text table part files accepted) bad)

      after : (table : Table)
          → gives (listing_in part files) (Err status) ⊎ ((listing : List Entry) × gives (listing_in part files) (Ok listing) × listed_text table part files (Err status)) → part_steps table part files (Err status)
      after table (inl refused) = inr (status, refused, refl)
      after table (inr (listing, listed, next)) =
          at_last table listing listed (came_to_refuse (refused_by (AtFault part) (part_checks table part files)) (shape_of table) status next)

      by : gives (table_in path files) (Err status) ⊎ ((table : Table) × gives (table_in path files) (Ok table) × part_text table part files (Err status))
          → Refused path part files status
      by (inl refused) = inl (sym refused)
      by (inr (table, known, next)) =
          inr (table, sym known, after table (came_to_refuse (gives (listing_in part files)) (λ _. listed_text table part files) status next))

  -- a query that is refused comes before the part
  pub select_refused : (query_text : List ℕ) (status : Status) → select_steps path part query_text files (Err status)
      → Refused path part files status ⊎ ((table : Table) × (why : QueryWhy) × (table_in path files ≡ Ok table) × Asks query_text table (Err why) × (status ≡ BadQuery why))
  select_refused query_text status came = by (came_to_refuse (gives (table_in path files)) (asked_of query_text) status came)
    where
      at_last : (table : Table) (query : Query)
          → part_steps table part files (Err status) ⊎ ((accepted : Accepted) × part_steps table part files (Ok accepted) × answer_of table query accepted (Err status)) → part_steps table part files (Err status)
      at_last table query (inl refused) = refused
      at_last table query (inr (accepted, is, bad)) = absurd (no_refusal status (answer_text table query accepted.rows) bad)

      after : (table : Table) → table_in path files ≡ Ok table
          → query_asked table query_text (Err status) ⊎ ((query : Query) × query_asked table query_text (Ok query) × answer_steps table query part files (Err status))
          → Refused path part files status ⊎ ((table : Table) × (why : QueryWhy) × (table_in path files ≡ Ok table) × Asks query_text table (Err why) × (status ≡ BadQuery why))
      after table known (inl (why, asked, same)) = inr (table, why, known, asked, same)
      after table known (inr (query, asked, next)) =
          inl (inr (table, known, at_last table query (came_to_refuse (part_steps table part files) (answer_of table query) status next)))

      by : gives (table_in path files) (Err status) ⊎ ((table : Table) × gives (table_in path files) (Ok table) × asked_of query_text table (Err status))
          → Refused path part files status ⊎ ((table : Table) × (why : QueryWhy) × (table_in path files ≡ Ok table) × Asks query_text table (Err why) × (status ≡ BadQuery why))
      by (inl refused) = inl (inl (sym refused))
      by (inr (table, known, next)) =
          after table (sym known) (came_to_refuse (query_asked table query_text) (λ query. answer_steps table query part files) status next)

  pub select_at_fault : (query_text word : List ℕ) (fault : Fault) → select_steps path part query_text files (Err (AtFault word fault))
      → Refused path part files (AtFault word fault)
  select_at_fault query_text word fault came = by (select_refused query_text (AtFault word fault) came)
    where
      by : Refused path part files (AtFault word fault) ⊎ ((table : Table) × (why : QueryWhy) × (table_in path files ≡ Ok table) × Asks query_text table (Err why) × (AtFault word fault ≡ BadQuery why)) → Refused path part files (AtFault word fault)
      by (inl refused) = refused
      by (inr (table, why, known, asked, same)) = cc

-- ---- a run that is Done

-- what was accepted stands
has_part : AcceptsExactly → (path part : List ℕ) (files : Files) (table : Table) (held : Accepted) → table_in path files ≡ Ok table
    → part_steps table part files (Ok held) → HasPart files path part table held
has_part accepts path part files table held known (inl (listing, listed, checks)) =
    record { table_is = known; small = few_listed part (entries_below part files) listing (sym listed); stands = (accepts table part files held).0 checks }
has_part accepts path part files table held known (inr (status, listed, bad)) = cc

module _ (accepts : AcceptsExactly) (path part : List ℕ) (files : Files) where
  pub read_by : (old new : World) (text : List ℕ) (text_of : Table → Accepted → List ℕ) → Printed old new Done text → Gave path part files text text_of
      → Read path part files old new text_of
  read_by old new text text_of printed (table, held, known, steps, is) = record { table = table; held = held; has = has_part accepts path part files table held known steps; printed = subst (Printed old new Done) is printed }

  -- the same of a query's answer
  pub selected_by : (old new : World) (query_text text : List ℕ) → Printed old new Done text
      → (query : Query) × (g : Gave path part files text (λ table held. answer_text table query held.rows)) × Asks query_text g.0 (Ok query)
      → (query : Query) × (read : Read path part files old new (λ table held. answer_text table query held.rows)) × Asks query_text read.table (Ok query)
  selected_by old new query_text text printed (query, (table, held, known, steps, is), asked) =
      (query, record { table = table; held = held; has = has_part accepts path part files table held known steps; printed = subst (Printed old new Done) is printed }, asked)

pub done_printed : (steps : Files → Outcomes (List ℕ)) (old new : World) (files : Files) → old.files ≡ Some files → NeverEnds (steps files)
    → PrintsTextOf steps old new Done → (text : List ℕ) × steps files (Ok text) × Printed old new Done text
done_printed steps old new files known never runs = by (came_to old new Done files known steps runs)
  where
    by : FellShort old new Done ⊎ ((outcome : Result (List ℕ) Status) × steps files outcome × CameTo old new Done outcome)
        → (text : List ℕ) × steps files (Ok text) × Printed old new Done text
    by (inl fell) = absurd fell
    by (inr (Ok text, is, printed)) = (text, is, printed)
    by (inr (Err status, is, same)) = absurd (never (Err status) is (sym same))

-- ---- a run that found a part at fault

-- a status that names a part at fault
abbrev IsFault : List ℕ → Fault → Status → Type 0
IsFault word fault status = status ≡ AtFault word fault

-- neither a table's file nor a listing is refused so
table_plain : (path word : List ℕ) (fault : Fault) (files : Files) → Never (IsFault word fault) (table_in path files)
unfolding table_of
table_plain path word fault files =
    so_then (IsFault word fault) (table_text (get files path)) table_of (text_plain (get files path)) (λ text. so_read (IsFault word fault) BadTable (table_reading text) (λ why e. cc))
  where
    text_plain : (o : Option (List ℕ)) → Never (IsFault word fault) (table_text o)
    text_plain None = λ e. cc
    text_plain (Some text) = so_if (IsFault word fault) (nat_lt MAX_TABLE_TEXT (length text)) (Err (TooMuch what.Table MAX_TABLE_TEXT)) (Ok text) (λ e. cc) tt

listing_plain : (part word : List ℕ) (fault : Fault) (files : Files) → Never (IsFault word fault) (listing_in part files)
listing_plain part word fault files = by (listing_of (entries_below part files))
  where
    by : (o : Option (List Entry)) → Never (IsFault word fault) (listed_part part o)
    by None = λ e. cc
    by (Some listing) = so_if (IsFault word fault) (nat_lt MAX_FOLDER (listed_bytes listing)) (Err (TooMuch what.Part MAX_FOLDER)) (Ok listing) (λ e. cc) tt

never_so : {A : Type 0} (P : Status → Type 0) (r : Result A Status) (status : Status) → Never P r → r ≡ Err status → P status → ⊥
never_so P r status never is so = subst (Never P) is never so

module _ (path part : List ℕ) (files : Files) (accepts : AcceptsExactly) where
  at_fault_by : (word : List ℕ) (fault : Fault) → Refused path part files (AtFault word fault) → IsAtFault path part files word fault
  at_fault_by word fault (inl refused) =
      absurd (never_so (IsFault word fault) (table_in path files) (AtFault word fault) (table_plain path word fault files) refused refl)
  at_fault_by word fault (inr (table, known, inr (status, refused, same))) =
      let this : status ≡ AtFault word fault = cc in
      absurd (never_so (IsFault word fault) (listing_in part files) status (listing_plain part word fault files) (sym refused) this)
  at_fault_by word fault (inr (table, known, inl (listing, listed, (other, checks, same)))) =
      let is_word : word ≡ part = cc in
      let is_fault : other ≡ fault = cc in
      let first = subst (λ (f : Fault). part_checks table part files (Err f)) is_fault checks in
      let none : (rows : List Row) (granules : List ℕ) → part_checks table part files (Ok (record { rows = rows; granules = granules })) → ⊥ = λ rows granules also. not_both (record { rows = rows; granules = granules }) fault (sym also ∙ first) in
      record { table = table; table_is = known; named = is_word; first = first; none = λ rows stands. none rows stands.0 ((accepts table part files (record { rows = rows; granules = stands.0 })).1 stands.1) }

  pub at_fault : (steps : Files → Outcomes (List ℕ)) (old new : World) (word : List ℕ) (fault : Fault) → old.files ≡ Some files
      → (steps files (Err (AtFault word fault)) → Refused path part files (AtFault word fault)) → PrintsTextOf steps old new (AtFault word fault)
      → IsAtFault path part files word fault
  at_fault steps old new word fault known refuses runs = by (came_to old new (AtFault word fault) files known steps runs)
    where
      by : FellShort old new (AtFault word fault) ⊎ ((outcome : Result (List ℕ) Status) × steps files outcome × CameTo old new (AtFault word fault) outcome)
          → IsAtFault path part files word fault
      by (inl fell) = absurd fell
      by (inr (Ok text, is, printed)) = let never : AtFault word fault ≡ Done = printed.done in cc
      by (inr (Err status, is, same)) = at_fault_by word fault (refuses (subst (λ s. steps files (Err s)) (sym same) is))

-- ---- a run over a part that stands for no rows

module _ (path part : List ℕ) (table : Table) (files : Files) (has : HasFiles files path part table) where
  fault_by : (status : Status) → Refused path part files status → FirstFault table part files status
  fault_by status (inl refused) = let never : Err status ≡ Ok table = sym refused ∙ has.table_is in cc
  fault_by status (inr (other, known, inr (named, refused, same))) = let never : Err named ≡ Ok (entries_below part files) = refused ∙ some_listed part files has.some has.small in cc
  fault_by status (inr (other, known, inl (listing, listed, (fault, checks, same)))) =
      let this : other ≡ table = same_value other table (sym known ∙ has.table_is) in
      record { fault = fault; is = same; first = subst (λ (t : Table). part_checks t part files (Err fault)) this checks }

  pub none_refused : AcceptsExactly → StandsForNone table part files → (steps : Files → Outcomes (List ℕ)) (old new : World) (status : Status)
      → old.files ≡ Some files
      → ((text : List ℕ) → steps files (Ok text) → WasAccepted path part files) → ((refusal : Status) → steps files (Err refusal) → Refused path part files refusal) → PrintsTextOf steps old new status
      → FellShort old new status ⊎ FirstFault table part files status
  none_refused accepts none steps old new status known gave refuses runs = by (came_to old new status files known steps runs)
    where
      stood : WasAccepted path part files → ⊥
      stood (other, accepted, known, given) =
          let this : other ≡ table = same_value other table (sym known ∙ has.table_is) in
          none accepted.rows (subst (λ (t : Table). StandsFor t (folder_at part files) accepted.rows) this (accepted.granules, (has_part accepts path part files other accepted known given).stands))

      by : FellShort old new status ⊎ ((outcome : Result (List ℕ) Status) × steps files outcome × CameTo old new status outcome)
          → FellShort old new status ⊎ FirstFault table part files status
      by (inl fell) = inl fell
      by (inr (Ok text, is, printed)) = absurd (stood (gave text is))
      by (inr (Err refusal, is, same)) = inr (subst (FirstFault table part files) (sym same) (fault_by refusal (refuses refusal is)))

  -- a query that is read isn't refused
  pub select_plain : AsksOneThing → (query_text : List ℕ) (query : Query) → Asks query_text table (Ok query) → (refusal : Status)
      → select_steps path part query_text files (Err refusal) → Refused path part files refusal
  select_plain asks_one query_text query asks refusal came = by (select_refused path part files query_text refusal came)
    where
      never : (why : QueryWhy) → (let r : Result Query QueryWhy = Err why in r) ≡ Ok query → ⊥
      never why e = cc

      by : Refused path part files refusal ⊎ ((other : Table) × (why : QueryWhy) × (table_in path files ≡ Ok other) × Asks query_text other (Err why) × (refusal ≡ BadQuery why)) → Refused path part files refusal
      by (inl refused) = refused
      by (inr (other, why, known, asked, same)) =
          let this : other ≡ table = same_value other table (sym known ∙ has.table_is) in
          absurd (never why (asks_one query_text table (Err why) (Ok query) (subst (λ (t : Table). Asks query_text t (Err why)) this asked) asks))
