-- The payload of a mark of `Payloads`.
use Rattle.std.proofs.Common.{◌≡◌, ℕ, ◌+◌, ◌-◌, ◌<◌, ◌≤◌, List, [], ◌∷◌, suc, refl, length, take, drop, get_or, ◌∙◌, ap, sym, subst, arith}
use Rattle.std.specs.Prelude.{All, Ok, None}
use Rattle.std.specs.List.{sum}
use Rattle.std.proofs.lemmas.List.{get_or_default}
use Rattle.mt_facts.proofs.Numbers.{length_within_sum}
use Rattle.mt_frame.specs.declared.frames.Frames.{Frames}
use Rattle.mt_marks.specs.declared.marks.Marks.{Marks}
use Rattle.mt_marks.specs.Entries.{entries_in, entries_of}
use Rattle.mt_marks.specs.MarkReading.{rules_reading}
use Rattle.mt_marks.proofs.RawLemmas.{all_rows}
use Rattle.mt_defs.specs.declared.mark.Mark.{Mark}
use Rattle.mt_defs.specs.Frames.{Block, IsFileOf, payload_of}
use Rattle.mt_granules.specs.declared.payloads.Payloads.{Payloads}
use Rattle.mt_granules.specs.PayloadReading.{granules_of, mark_count, positions_of}
use Rattle.mt_granules.specs.PayloadView.{payloads_in}
use Rattle.mt_granules.specs.Walking.{HasPayload}
use Rattle.mt_granules.proofs.RuleLemmas.{all_entries, entries_rows}
use Rattle.mt_granules.proofs.MarkLemmas.{StandsAt, index_there, payload_stands}

pub marks_within : (payloads : Payloads) (index : ℕ) → index < mark_count payloads.marks → index + 1 < length payloads.marks.places
marks_within payloads index h = let there = index_there payloads.marks index payloads.complete h in omega (arith, there, h)

module _ (payloads : Payloads) (places : List Mark) (index : ℕ) (d : Mark) (start end : ℕ) (same : places ≡ payloads.marks.places) (h : index < mark_count payloads.marks)
    (start_is : start ≡ get_or (positions_of payloads.frames payloads.marks) index 0) (end_is : end ≡ get_or (positions_of payloads.frames payloads.marks) (index + 1) 0) where
  abbrev mark : Mark
  mark = get_or payloads.marks.places index d

  stands : StandsAt payloads.file.now payloads.frames payloads.marks index (mark) (get_or (positions_of payloads.frames payloads.marks) index 0) (get_or (positions_of payloads.frames payloads.marks) (index + 1) 0)
  stands = payload_stands payloads.file.now payloads.frames payloads.marks index (mark) payloads.bytes payloads.framed payloads.ruled payloads.complete h
      (get_or_default payloads.marks.places index d (mark) (let within = marks_within payloads index h in omega (arith, within)))

  here : mark ≡ get_or places index d
  here = ap (λ (ms : List Mark). get_or ms index d) (sym same)

  pub climbs : start ≤ end
  climbs = omega (arith, start_is, end_is, (stands).climbs)

  pub within : (get_or places index d).offset ≤ length payloads.file.now
  within = subst (λ (m : Mark). m.offset ≤ length payloads.file.now) (here) (stands).within

  -- the frames from the mark on
  module _ (frames : List ℕ) (frames_are : frames ≡ drop (get_or places index d).offset payloads.file.now) where
    pub has_payload : HasPayload frames (get_or places index d).inner (end - start)
    has_payload =
        subst (λ (f : List ℕ). HasPayload f (get_or places index d).inner (end - start)) (sym frames_are)
        (subst (λ (m : Mark). HasPayload (drop m.offset payloads.file.now) m.inner (end - start)) (here)
        (subst (λ (n : ℕ). HasPayload (drop (mark).offset payloads.file.now) (mark).inner (end - n)) (sym start_is)
        (subst (λ (n : ℕ). HasPayload (drop (mark).offset payloads.file.now) (mark).inner (n - get_or (positions_of payloads.frames payloads.marks) index 0)) (sym end_is) (stands).has)))

    pub payload_is : (bytes : List ℕ) → ((blocks : List Block) → IsFileOf blocks frames → bytes ≡ take (end - start) (drop (get_or places index d).inner (payload_of blocks)))
        → bytes ≡ get_or (payloads_in payloads).payloads index []
    payload_is bytes gives =
        let has = (stands).has in
        let is : IsFileOf has.blocks frames = subst (λ (f : List ℕ). IsFileOf has.blocks f) (ap (λ (m : Mark). drop m.offset payloads.file.now) (here) ∙ sym frames_are) has.is_file in
        gives has.blocks is
        ∙ ap (λ (m : Mark). take (end - start) (drop m.inner (payload_of has.blocks))) (sym (here))
        ∙ ap (λ (n : ℕ). take (n - start) (drop (mark).inner (payload_of has.blocks))) end_is
        ∙ ap (λ (n : ℕ). take (get_or (positions_of payloads.frames payloads.marks) (index + 1) 0 - n) (drop (mark).inner (payload_of has.blocks))) start_is
        ∙ (stands).payload has.blocks has.is_file

-- ---- granules

joined_rows : (per : ℕ) (places : List Mark) (rows : List ℕ) → (all_rows (entries_in per places rows) ≡ rows) × (length (entries_in per places rows) ≡ length rows)
joined_rows per places [] = (refl, refl)
joined_rows per places (r ∷ rows) = let more = joined_rows per (drop per places) rows in (ap (λ (ns : List ℕ). r ∷ ns) more.0, ap suc more.1)

-- each granule has a row
pub granules_some : (frames : Frames) (marks : Marks) → rules_reading frames 0 0 None (entries_of marks) ≡ Ok tt → All (λ n. 1 ≤ n) (granules_of marks)
granules_some frames marks rules =
    let entries = all_entries frames 0 0 None (entries_of marks) rules in
    let same = joined_rows marks.per_granule marks.places marks.rows in
    subst (λ (rows : List ℕ). All (λ n. 1 ≤ n) (take (length marks.rows - 1) rows)) same.0
    (subst (λ (n : ℕ). All (λ n. 1 ≤ n) (take (n - 1) (all_rows (entries_of marks)))) same.1 (entries_rows frames 0 None (entries_of marks) entries.0 entries.1))

pub granules_few : (payloads : Payloads) → length (granules_of payloads.marks) ≤ sum (granules_of payloads.marks)
granules_few payloads = length_within_sum (granules_of payloads.marks) (granules_some payloads.frames payloads.marks payloads.ruled)
