-- The checks of skip indexes hold exactly where the folder has each index.
use Rattle.std.proofs.Common.{◌≡◌, ℕ, ◌+◌, ◌≤◌, Bool, true, List, [], ◌∷◌, length, refl, sym, ap, ◌∙◌, arith, inl, inr}
use Rattle.std.specs.Prelude.{All, ◌↔◌, if◌then◌else◌, Result, Ok}
use Rattle.std.proofs.lemmas.Bool.{cases_Bool}
use Rattle.std.specs.List.{zip}
use Rattle.std.proofs.lemmas.List.Elements.{All-weaker}
use Rattle.mt_types.specs.declared.ty.Ty.{Ty}
use Rattle.mt_types.specs.declared.value.Value.{Value}
use Rattle.mt_types.proofs.StepLemmas.{ok_then, passed, required, then_of}
use Rattle.mt_fault.specs.declared.fault.Fault.{Fault}
use Rattle.mt_fault.specs.declared.fault.Why.TheVariants as why
use Rattle.mt_table.specs.Rows.{Pointwise}
use Rattle.mt_table.specs.declared.definition.Table.{Table}
use Rattle.mt_table.specs.declared.skip.Skip.{Skip}
use Rattle.mt_table.specs.declared.skip.SkipKind.{SkipKind}
use Rattle.mt_table.proofs.PointwiseLemmas.{Pointwise-length}
use Rattle.mt_defs.specs.Folder.{Folder}
use Rattle.mt_defs.specs.Metadata.{column_at}
use Rattle.mt_defs.specs.Part.{is_compact, marks_ending}
use Rattle.mt_defs.specs.Rows.{Row, column_values}
use Rattle.mt_defs.specs.SkipIndexes.{HasSkipIndex, MayHaveSkipIndex, Summarizes, entry_rows, skip_data_name, summarizes}
use Rattle.mt_fault.specs.Faults.{granule_fault}
use Rattle.mt_definition.specs.declared.accepted.Accepted.{Accepted}
use Rattle.mt_check.specs.FolderChecks.{each, entries_checks, index_checks, skip_checks}
use Rattle.mt_files.specs.SkipMarks.{has_files, index_entries}
use Rattle.mt_law_checked.proofs.EachLaw.{each_passed, each_passes}
use Rattle.mt_law_checked.proofs.SkipHeldLaw.{AreHeld, index_held}
use Rattle.mt_law_checked.proofs.SkipReadLaw.{index_read}
use Rattle.mt_law_checked.proofs.ThereLaw.{data_there, index_lacks, lacks_files}

-- what is said of the test of entries: `summaries_are_tested`
abbrev pub AreTested : Type 0
AreTested = (kind : SkipKind) (ty : Ty) (values : List Value) (entry : List ℕ) → (summarizes kind ty values entry ≡ true) ↔ Summarizes kind ty values entry

-- ---- the entries

abbrev Agree : Skip → Ty → List (List Row) → List (List ℕ) → Type 0
Agree skip ty = Pointwise (λ group entry. Summarizes skip.kind ty (column_values skip.column group) entry)

abbrev after_entry : Skip → Ty → ℕ → List (List Row × List ℕ) → Unit {0} → Result Unit Fault
after_entry skip ty granule entries _ = entries_checks skip ty (granule + skip.granularity) entries

entries_agree : AreTested → (skip : Skip) (ty : Ty) (granule : ℕ) (groups : List (List Row)) (entries : List (List ℕ)) → length groups ≡ length entries → entries_checks skip ty granule (zip groups entries) ≡ Ok tt → Agree skip ty groups entries
unfolding entries_checks
entries_agree tested skip ty granule [] [] long passes = tt
entries_agree tested skip ty granule [] (entry ∷ entries) long passes = absurd (omega (arith, long))
entries_agree tested skip ty granule (group ∷ groups) [] long passes = absurd (omega (arith, long))
entries_agree tested skip ty granule (group ∷ groups) (entry ∷ entries) long passes =
    required (summarizes skip.kind ty (column_values skip.column group) entry) (granule_fault (skip_data_name skip) granule why.Value) (after_entry skip ty granule (zip groups entries)) tt passes (λ is rest.
    ((tested skip.kind ty (column_values skip.column group) entry).0 is, entries_agree tested skip ty (granule + skip.granularity) groups entries (omega (arith, long)) rest))

entries_pass : AreTested → (skip : Skip) (ty : Ty) (granule : ℕ) (groups : List (List Row)) (entries : List (List ℕ)) → Agree skip ty groups entries → entries_checks skip ty granule (zip groups entries) ≡ Ok tt
unfolding entries_checks
entries_pass tested skip ty granule [] [] agree = refl
entries_pass tested skip ty granule [] (entry ∷ entries) agree = absurd agree
entries_pass tested skip ty granule (group ∷ groups) [] agree = absurd agree
entries_pass tested skip ty granule (group ∷ groups) (entry ∷ entries) agree =
    passed (summarizes skip.kind ty (column_values skip.column group) entry) (granule_fault (skip_data_name skip) granule why.Value) (after_entry skip ty granule (zip groups entries)) ((tested skip.kind ty (column_values skip.column group) entry).1 agree.0)
    ∙ entries_pass tested skip ty (granule + skip.granularity) groups entries agree.1

-- ---- an index

-- where there is a granule there is an entry
some_entries : (skip : Skip) (rows : List Row) (granules : List ℕ) → 1 ≤ length granules → 1 ≤ length (entry_rows skip rows granules)
some_entries skip rows [] some = absurd (omega (arith, some))
some_entries skip rows (count ∷ granules) some = omega arith

module _ (tested : AreTested) (table : Table) (folder : Folder) (accepted : Accepted) where
  abbrev ending : List ℕ
  ending = marks_ending (is_compact folder)

  abbrev groups_of : Skip → List (List Row)
  groups_of skip = entry_rows skip accepted.rows accepted.granules

  abbrev ty_of : Skip → Ty
  ty_of skip = (column_at table.columns skip.column).ty

  abbrev Has : Skip → Type 0
  Has skip = HasSkipIndex table skip ending accepted.rows accepted.granules folder

  abbrev entries_after : Skip → List (List ℕ) → Result Unit Fault
  entries_after skip entries = entries_checks skip (ty_of skip) 0 (zip (groups_of skip) entries)

  index_is_held : 1 ≤ length accepted.granules → (skip : Skip) → index_checks table folder accepted skip ≡ Ok tt → Has skip
  index_is_held some skip passes =
      ok_then (index_entries folder ending skip (length (groups_of skip))) (entries_after skip) tt passes (λ entries reads agree.
      let held = index_held folder ending skip (length (groups_of skip)) entries (some_entries skip accepted.rows accepted.granules some) reads in
      record {
        entries = entries;
        data_file = held.holds.data_file;
        marks = held.holds.marks;
        has_data = held.holds.has_data;
        has_marks = held.holds.has_marks;
        framed = held.holds.framed;
        few_offsets = held.holds.few_offsets;
        positions = held.holds.positions;
        order = held.holds.order;
        summaries = entries_agree tested skip (ty_of skip) 0 (groups_of skip) entries (sym held.many) agree;
      })

  index_passes : (skip : Skip) → Has skip → index_checks table folder accepted skip ≡ Ok tt
  index_passes skip has =
      let held : AreHeld folder ending skip (length (groups_of skip)) has.entries =
      record {
        holds = record { data_file = has.data_file; marks = has.marks; has_data = has.has_data; has_marks = has.has_marks; framed = has.framed; few_offsets = has.few_offsets; positions = has.positions; order = has.order };
        many = sym (Pointwise-length _ (groups_of skip) has.entries has.summaries);
      } in
      then_of (index_entries folder ending skip (length (groups_of skip))) has.entries (entries_after skip) (index_read folder ending skip (length (groups_of skip)) has.entries held)
      ∙ entries_pass tested skip (ty_of skip) 0 (groups_of skip) has.entries has.summaries

  -- ---- and whether it is there

  abbrev May : Skip → Type 0
  May = MayHaveSkipIndex table ending accepted.rows accepted.granules folder

  abbrev check_by : Skip → Bool → Result Unit Fault
  check_by skip there = if there then index_checks table folder accepted skip else Ok tt

  skip_held : 1 ≤ length accepted.granules → (skip : Skip) → skip_checks table folder accepted skip ≡ Ok tt → May skip
  skip_held some skip passes =
      elim (cases_Bool (has_files folder ending skip)) [
        | inl there ↦ inr (index_is_held some skip (sym (ap (check_by skip) there) ∙ passes))
        | inr none ↦ inl (index_lacks folder ending skip none)
      ]

  skip_passes : (skip : Skip) → May skip → skip_checks table folder accepted skip ≡ Ok tt
  skip_passes skip (inl lacks) = ap (check_by skip) (lacks_files folder ending skip lacks)
  skip_passes skip (inr has) = ap (check_by skip) (data_there folder ending skip has.data_file has.has_data) ∙ index_passes skip has

  -- ---- all of them

  pub skips_held : 1 ≤ length accepted.granules → (skips : List Skip) → each (skip_checks table folder accepted) skips ≡ Ok tt → All May skips
  skips_held some skips passes = All-weaker (λ skip. skip_checks table folder accepted skip ≡ Ok tt) May (skip_held some) skips (each_passed (skip_checks table folder accepted) skips passes)

  pub skips_pass : (skips : List Skip) → All May skips → each (skip_checks table folder accepted) skips ≡ Ok tt
  skips_pass skips has = each_passes (skip_checks table folder accepted) skips (All-weaker May (λ skip. skip_checks table folder accepted skip ≡ Ok tt) skip_passes skips has)
