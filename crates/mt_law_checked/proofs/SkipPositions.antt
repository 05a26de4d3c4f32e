-- The positions of the marks of a skip index: they are read exactly where they begin at 0 and neither they nor the offsets fall.
use Rattle.std.proofs.Common.{◌≡◌, ℕ, ◌+◌, ◌≤◌, true, false, List, [], ◌∷◌, map, refl, sym, ap, ◌∙◌, subst, arith, Option, Some, None}
use Rattle.std.specs.Prelude.{Result, Ok, Err, nat_le, ◌==◌}
use Rattle.std.proofs.lemmas.Bool.{and_from, and_parts, leb-true, le-leb, eqb-true, eq-eqb}
use Rattle.mt_fault.specs.declared.fault.Why.{Why}
use Rattle.mt_fault.specs.declared.fault.Why.TheVariants as why
use Rattle.mt_types.specs.Steps.{◌>>=◌, ok_or, onto, require}
use Rattle.mt_types.proofs.StepLemmas.{ok_one, ok_then, onto_ok, passed, required, then_of}
use Rattle.mt_table.specs.Rows.{Pointwise}
use Rattle.mt_defs.specs.declared.frame.Frame.{Frame}
use Rattle.mt_defs.specs.declared.mark.Mark.{Mark}
use Rattle.mt_marks.specs.Positions.{position_from}
use Rattle.mt_marks.specs.declared.rules.Former.{Former}
use Rattle.mt_marks.specs.MarkReading.{is_placed, mark_reading, offset_before, payload_len, position_before}
use Rattle.mt_fault.specs.Faults.{blame, granule_fault}
use Rattle.mt_granules.proofs.RuleLemmas.{Rises}
use Rattle.mt_granules.proofs.MarksFileLemmas.{found as some_found}
use Rattle.mt_files.specs.SkipMarks.{positions_reading}
use Rattle.mt_files.proofs.PositionLemmas.{later_of}

-- the marks' positions
abbrev pub Denote : ℕ → List Frame → List Mark → List ℕ → Type 0
Denote end frames = Pointwise (λ mark position. position_from 0 end frames mark ≡ Some position)

-- the first position of all is 0
abbrev pub Begins : Option Former → List ℕ → Type 0
Begins None [] = Unit {0}
Begins None (position ∷ positions) = position ≡ 0
Begins (Some before) positions = Unit {0}

-- marks after one, with their positions
pub record Climbs (end : ℕ) (frames : List Frame) (before : Option Former) (marks : List Mark) (positions : List ℕ) : Type 0 where
  pub denote : Denote end frames marks positions
  pub begins : Begins before positions
  pub top : ℕ
  pub rise : Rises (position_before before) positions top
  pub foot : ℕ
  pub offsets : Rises (offset_before before) (map (λ (m : Mark). m.offset) marks) foot

-- ---- one mark

record IsRuled (end : ℕ) (frames : List Frame) (before : Option Former) (mark : Mark) (here : Former) : Type 0 where
  order : offset_before before ≤ mark.offset
  denotes : position_from 0 end frames mark ≡ Some here.position
  placed : is_placed before false (payload_len frames) here.position ≡ true
  climbs : position_before before ≤ here.position
  offset_is : here.offset ≡ mark.offset

granule_ok : {A : Type 0} (file : List ℕ) (granule : ℕ) (reading : Result A Why) (x : A) → blame (granule_fault file granule) reading ≡ Ok x → reading ≡ Ok x
granule_ok {A} file granule (Ok y) x e = ap (λ (a : A). let r : Result A Why = Ok a in r) (sym (ok_one y x e))
granule_ok file granule (Err w) x e = cc

abbrev after_all : Mark → ℕ → Unit {0} → Result Former Why
after_all mark position _ = Ok (record { offset = mark.offset; position = position })

abbrev after_place : Option Former → Mark → ℕ → Unit {0} → Result Former Why
after_place before mark position _ = require (nat_le (position_before before) position) why.Order >>= after_all mark position

abbrev after_position : List Frame → Option Former → Mark → ℕ → Result Former Why
after_position frames before mark position = require (is_placed before false (payload_len frames) position) why.Place >>= after_place before mark position

abbrev after_order : ℕ → List Frame → Option Former → Mark → Unit {0} → Result Former Why
after_order end frames before mark _ = ok_or why.Place (position_from 0 end frames mark) >>= after_position frames before mark

mark_ruled : (end : ℕ) (frames : List Frame) (before : Option Former) (mark : Mark) (here : Former) → mark_reading end frames false before mark ≡ Ok here → IsRuled end frames before mark here
unfolding mark_reading
mark_ruled end frames before mark here e =
    required (nat_le (offset_before before) mark.offset) why.Order (after_order end frames before mark) here e (λ order e.
    ok_then (ok_or why.Place (position_from 0 end frames mark)) (after_position frames before mark) here e (λ position found e.
    required (is_placed before false (payload_len frames) position) why.Place (after_place before mark position) here e (λ placed e.
    required (nat_le (position_before before) position) why.Order (after_all mark position) here e (λ climbs e.
    subst (IsRuled end frames before mark) (sym (ok_one _ _ e))
    (record {
      order = leb-true (offset_before before) mark.offset order;
      denotes = some_found (position_from 0 end frames mark) why.Place position found;
      placed = placed;
      climbs = leb-true (position_before before) position climbs;
      offset_is = refl;
    })))))

mark_passes : (end : ℕ) (frames : List Frame) (before : Option Former) (mark : Mark) (position : ℕ) → offset_before before ≤ mark.offset → position_from 0 end frames mark ≡ Some position → is_placed before false (payload_len frames) position ≡ true → position_before before ≤ position
    → mark_reading end frames false before mark ≡ Ok (record { offset = mark.offset; position = position })
unfolding mark_reading
mark_passes end frames before mark position order denotes placed climbs =
    passed (nat_le (offset_before before) mark.offset) why.Order (after_order end frames before mark) (le-leb (offset_before before) mark.offset order)
    ∙ then_of (ok_or why.Place (position_from 0 end frames mark)) position (after_position frames before mark) (ap (ok_or why.Place) denotes)
    ∙ passed (is_placed before false (payload_len frames) position) why.Place (after_place before mark position) placed
    ∙ passed (nat_le (position_before before) position) why.Order (after_all mark position) (le-leb (position_before before) position climbs)

begins_there : (before : Option Former) (end position : ℕ) (positions : List ℕ) → is_placed before false end position ≡ true → Begins before (position ∷ positions)
begins_there None end position positions e = eqb-true position 0 (and_parts (position == 0) true e).0
begins_there (Some before) end position positions e = tt

place_there : (before : Option Former) (end position : ℕ) (positions : List ℕ) → Begins before (position ∷ positions) → is_placed before false end position ≡ true
place_there None end position positions begins = and_from (position == 0) true (eq-eqb position 0 begins) refl
place_there (Some before) end position positions begins = refl

-- ---- all marks

pub positions_climb : (file : List ℕ) (per end : ℕ) (frames : List Frame) (granule : ℕ) (before : Option Former) (marks : List Mark) (positions : List ℕ) → positions_reading file per end frames granule before marks ≡ Ok positions
    → Climbs end frames before marks positions
unfolding positions_reading
positions_climb file per end frames granule before [] positions e =
    subst (Climbs end frames before []) (sym (ok_one _ _ e))
    (record { denote = tt; begins = begins_none before; top = position_before before; rise = omega arith; foot = offset_before before; offsets = omega arith })
  where
    begins_none : (before : Option Former) → Begins before []
    begins_none None = tt
    begins_none (Some before) = tt
positions_climb file per end frames granule before (mark ∷ marks) positions e =
    ok_then (blame (granule_fault file granule) (mark_reading end frames false before mark)) (later_of file per end frames granule marks) positions e (λ here read e.
    onto_ok here.position (positions_reading file per end frames (granule + per) (Some here) marks) positions e (λ later is all.
    let ruled = mark_ruled end frames before mark here (granule_ok file granule (mark_reading end frames false before mark) here read) in
    let more = positions_climb file per end frames (granule + per) (Some here) marks later is in
    subst (Climbs end frames before (mark ∷ marks)) (sym all)
    (record {
      denote = (ruled.denotes, more.denote);
      begins = begins_there before (payload_len frames) here.position later ruled.placed;
      top = more.top;
      rise = (ruled.climbs, more.rise);
      foot = more.foot;
      offsets = (ruled.order, subst (λ n. Rises n (map (λ (m : Mark). m.offset) marks) more.foot) ruled.offset_is more.offsets);
    })))

pub positions_read : (file : List ℕ) (per end : ℕ) (frames : List Frame) (granule : ℕ) (before : Option Former) (marks : List Mark) (positions : List ℕ) → Climbs end frames before marks positions
    → positions_reading file per end frames granule before marks ≡ Ok positions
unfolding positions_reading
positions_read file per end frames granule before [] [] climbs = refl
positions_read file per end frames granule before [] (position ∷ positions) climbs = absurd climbs.denote
positions_read file per end frames granule before (mark ∷ marks) [] climbs = absurd climbs.denote
positions_read file per end frames granule before (mark ∷ marks) (position ∷ positions) climbs =
    let here : Former = record { offset = mark.offset; position = position } in
    let passes = mark_passes end frames before mark position climbs.offsets.0 climbs.denote.0 (place_there before (payload_len frames) position positions climbs.begins) climbs.rise.0 in
    let more = positions_read file per end frames (granule + per) (Some here) marks positions (record { denote = climbs.denote.1; begins = tt; top = climbs.top; rise = climbs.rise.1; foot = climbs.foot; offsets = climbs.offsets.1 }) in
    then_of (blame (granule_fault file granule) (mark_reading end frames false before mark)) here (later_of file per end frames granule marks) (ap (blame (granule_fault file granule)) passes)
    ∙ ap (onto position) more
