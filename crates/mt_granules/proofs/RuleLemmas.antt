-- What the rules of marks fix: each mark's position; positions and offsets that never fall, from the start to the end.
use Rattle.std.proofs.Common.{◌≡◌, ℕ, suc, ◌+◌, ◌-◌, ◌^◌, ◌≤◌, List, [], ◌∷◌, ◌++◌, length, map, take, refl, ap, sym, ◌∙◌, subst, Option, Some, Bool, true, false, arith}
use Rattle.std.specs.Prelude.{Result, Ok, nat_le, nat_lt, All}
use Rattle.std.proofs.lemmas.Bool.{leb-true, le-leb, and_parts}
use Rattle.std.proofs.lemmas.List.Elements.{All-nil, All-cons}
use Rattle.mt_fault.specs.declared.fault.Why.{Why}
use Rattle.mt_fault.specs.declared.fault.Why.TheVariants as why
use Rattle.mt_table.specs.Rows.{Pointwise}
use Rattle.mt_defs.specs.declared.mark.Mark.{Mark}
use Rattle.mt_frame.specs.declared.frames.Frames.{Frames}
use Rattle.mt_types.specs.Steps.{◌>>=◌, require, at, ok_or}
use Rattle.mt_types.proofs.StepLemmas.{ok_then, at_ok_then, ok_one, required, passed, then_of}
use Rattle.mt_marks.specs.declared.rules.Former.{Former}
use Rattle.mt_marks.specs.Entries.{Entry}
use Rattle.mt_marks.specs.MarkReading.{offset_before, position_before, is_placed, payload_len, mark_reading, last_reading, rules_reading, are_rows, is_last}
use Rattle.mt_marks.specs.Positions.{position_of}
use Rattle.mt_marks.proofs.RawLemmas.{all_marks, all_rows}
use Rattle.mt_granules.proofs.MarksFileLemmas.{found}
use Rattle.mt_marks.proofs.EntryLemmas.{last_next, last_none, rules_none}

-- a mark that keeps the rules, and its position
pub record IsRuled (frames : Frames) (last : Bool) (former : Option Former) (mark : Mark) (position : ℕ) : Type 0 where
  pub order : offset_before former ≤ mark.offset
  pub denotes : position_of frames mark ≡ Some position
  pub placed : is_placed former last (payload_len frames.list) position ≡ true
  pub climbs : position_before former ≤ position

-- a mark as the one before the next
abbrev pub as_former : Mark → ℕ → Former
as_former mark position = record { offset = mark.offset; position = position }

found_ok : {A E : Type 0} (o : Option A) (w : E) (x : A) → o ≡ Some x → ok_or w o ≡ Ok x
found_ok {A} {E} o w x e = ap (λ (p : Option A). ok_or w p) e

-- a mark that is read
pub ruled : (frames : Frames) (last : Bool) (former : Option Former) (mark : Mark) (here : Former) → mark_reading frames.end frames.list last former mark ≡ Ok here
    → (here ≡ as_former mark here.position) × IsRuled frames last former mark here.position
unfolding mark_reading
ruled frames last former mark here e =
    required (nat_le (offset_before former) mark.offset) _ _ _ e (λ order e.
    ok_then (ok_or why.Place (position_of frames mark)) _ _ e (λ n is e.
    required (is_placed former last (payload_len frames.list) n) _ _ _ e (λ placed e.
    required (nat_le (position_before former) n) _ _ _ e (λ climbs e.
    let same : here ≡ as_former mark n = ok_one _ _ e in
    subst (λ (f : Former). (f ≡ as_former mark f.position) × IsRuled frames last former mark f.position) (sym same)
    (refl, record { order = leb-true _ _ order; denotes = found (position_of frames mark) why.Place n is; placed = placed; climbs = leb-true _ _ climbs })))))

pub ruled_read : (frames : Frames) (last : Bool) (former : Option Former) (mark : Mark) (position : ℕ) → IsRuled frames last former mark position → mark_reading frames.end frames.list last former mark ≡ Ok (as_former mark position)
unfolding mark_reading
ruled_read frames last former mark position is =
    passed (nat_le (offset_before former) mark.offset) _ _ (le-leb _ _ is.order)
    ∙ then_of (ok_or why.Place (position_of frames mark)) position _ (found_ok (position_of frames mark) why.Place position is.denotes)
    ∙ passed (is_placed former last (payload_len frames.list) position) _ _ is.placed
    ∙ passed (nat_le (position_before former) position) _ _ (le-leb _ _ is.climbs)

-- ---- an entry's marks

-- marks that keep the rules one after another, their positions, and the last of them
abbrev pub AreRuled : Frames → Bool → Option Former → List Mark → List ℕ → Option Former → Type 0
AreRuled frames last former [] [] after = after ≡ former
AreRuled frames last former [] (n ∷ ns) after = ⊥
AreRuled frames last former (m ∷ ms) [] after = ⊥
AreRuled frames last former (m ∷ ms) (n ∷ ns) after = IsRuled frames last former m n × AreRuled frames last (Some (as_former m n)) ms ns after

pub all_ruled : (frames : Frames) (last : Bool) (former : Option Former) (ms : List Mark) (after : Option Former) → last_reading frames last former ms ≡ Ok after → (ns : List ℕ) × AreRuled frames last former ms ns after
all_ruled frames last former [] after e = ([], ok_one _ _ (sym (last_none frames last former) ∙ e))
all_ruled frames last former (m ∷ ms) after e =
    ok_then (mark_reading frames.end frames.list last former m) (λ here. last_reading frames last (Some here) ms) after (sym (last_next frames last former m ms) ∙ e) (λ here is e.
    let r = ruled frames last former m here is in
    let rs = all_ruled frames last (Some (as_former m here.position)) ms after (ap (λ (f : Former). last_reading frames last (Some f) ms) (sym r.0) ∙ e) in
    (here.position ∷ rs.0, (r.1, rs.1)))

pub all_read : (frames : Frames) (last : Bool) (former : Option Former) (ms : List Mark) (ns : List ℕ) (after : Option Former) → AreRuled frames last former ms ns after → last_reading frames last former ms ≡ Ok after
all_read frames last former [] [] after are = last_none frames last former ∙ ap (λ (f : Option Former). let r : Result (Option Former) Why = Ok f in r) (sym are)
all_read frames last former [] (n ∷ ns) after are = absurd are
all_read frames last former (m ∷ ms) [] after are = absurd are
all_read frames last former (m ∷ ms) (n ∷ ns) after are =
    last_next frames last former m ms ∙ then_of (mark_reading frames.end frames.list last former m) (as_former m n) (λ here. last_reading frames last (Some here) ms) (ruled_read frames last former m n are.0)
    ∙ all_read frames last (Some (as_former m n)) ms ns after are.1

-- ---- all entries

-- entries that keep the rules one after another, and the positions of each one's marks
abbrev pub AreEntries : Frames → ℕ → Option Former → List Entry → List (List ℕ) → Type 0
AreEntries frames total former [] [] = Unit {0}
AreEntries frames total former [] (ns ∷ ps) = ⊥
AreEntries frames total former (e ∷ es) [] = ⊥
AreEntries frames total former (e ∷ es) (ns ∷ ps) =
    (are_rows (is_last es) e.rows (total + e.rows) ≡ true)
    × ((after : Option Former) × AreRuled frames (is_last es) former e.marks ns after × AreEntries frames (total + e.rows) after es ps)

rules_next : (frames : Frames) (granule total : ℕ) (former : Option Former) (e : Entry) (es : List Entry) → rules_reading frames granule total former (e ∷ es)
    ≡ (at granule (require (are_rows (is_last es) e.rows (total + e.rows)) why.Rows) >>= λ _. (at granule (last_reading frames (is_last es) former e.marks) >>= λ here. rules_reading frames (granule + 1) (total + e.rows) here es))
unfolding rules_reading
rules_next frames granule total former e es = refl

holds : {E : Type 0} (b : Bool) (w : E) (u : Unit {0}) → require b w ≡ Ok u → b ≡ true
holds true w u e = refl
holds false w u e = cc

pub all_entries : (frames : Frames) (granule total : ℕ) (former : Option Former) (es : List Entry) → rules_reading frames granule total former es ≡ Ok tt → (ps : List (List ℕ)) × AreEntries frames total former es ps
all_entries frames granule total former [] e = ([], tt)
all_entries frames granule total former (x ∷ es) e =
    at_ok_then granule (require (are_rows (is_last es) x.rows (total + x.rows)) why.Rows) (λ _. (at granule (last_reading frames (is_last es) former x.marks) >>= λ here. rules_reading frames (granule + 1) (total + x.rows) here es)) tt (sym (rules_next frames granule total former x es) ∙ e) (λ u rows_ok e.
    at_ok_then granule (last_reading frames (is_last es) former x.marks) (λ here. rules_reading frames (granule + 1) (total + x.rows) here es) tt e (λ here is e.
    let r = all_ruled frames (is_last es) former x.marks here is in
    let more = all_entries frames (granule + 1) (total + x.rows) here es e in
    (r.0 ∷ more.0, (holds (are_rows (is_last es) x.rows (total + x.rows)) why.Rows u rows_ok, (here, r.1, more.1)))))

pub entries_read : (frames : Frames) (granule total : ℕ) (former : Option Former) (es : List Entry) (ps : List (List ℕ)) → AreEntries frames total former es ps → rules_reading frames granule total former es ≡ Ok tt
entries_read frames granule total former [] [] are = rules_none frames granule total former
entries_read frames granule total former [] (ns ∷ ps) are = absurd are
entries_read frames granule total former (x ∷ es) [] are = absurd are
entries_read frames granule total former (x ∷ es) (ns ∷ ps) are =
    rules_next frames granule total former x es
    ∙ ap (λ (b : Bool). at granule (require b why.Rows) >>= λ _. (at granule (last_reading frames (is_last es) former x.marks) >>= λ here. rules_reading frames (granule + 1) (total + x.rows) here es)) are.0
    ∙ ap (λ (r : Result (Option Former) Why). at granule r >>= λ here. rules_reading frames (granule + 1) (total + x.rows) here es) (all_read frames (is_last es) former x.marks ns are.1.0 are.1.1)
    ∙ entries_read frames (granule + 1) (total + x.rows) are.1.0 es ps are.1.2

-- ---- what it says of all marks together

-- numbers that never fall, from one to another
abbrev pub Rises : ℕ → List ℕ → ℕ → Type 0
Rises a [] total = a ≤ total
Rises a (b ∷ ps) total = (a ≤ b) × Rises b ps total

abbrev pub joined : List (List ℕ) → List ℕ
joined [] = []
joined (ns ∷ ps) = ns ++ joined ps

abbrev pub Denote : Frames → List Mark → List ℕ → Type 0
Denote frames = Pointwise (λ m n. position_of frames m ≡ Some n)

-- marks one after another, with the numbers before and after them
pub record Climb (frames : Frames) (former : Option Former) (ms : List Mark) (ns : List ℕ) : Type 0 where
  pub denote : Denote frames ms ns
  pub top : ℕ
  pub positions : Rises (position_before former) ns top
  pub foot : ℕ
  pub offsets : Rises (offset_before former) (map (λ (m : Mark). m.offset) ms) foot

pub climb_none : (frames : Frames) (former : Option Former) → Climb frames former [] []
climb_none frames former = record { denote = tt; top = position_before former; positions = omega arith; foot = offset_before former; offsets = omega arith }

climb_next : (frames : Frames) (last : Bool) (former : Option Former) (m : Mark) (n : ℕ) (ms : List Mark) (ns : List ℕ) → IsRuled frames last former m n → Climb frames (Some (as_former m n)) ms ns → Climb frames former (m ∷ ms) (n ∷ ns)
climb_next frames last former m n ms ns is more = record { denote = (is.denotes, more.denote); top = more.top; positions = (is.climbs, more.positions); foot = more.foot; offsets = (is.order, more.offsets) }

climb_entry : (frames : Frames) (last : Bool) (former : Option Former) (ms : List Mark) (ns : List ℕ) (after : Option Former) (others : List Mark) (more : List ℕ) → AreRuled frames last former ms ns after → Climb frames after others more
    → Climb frames former (ms ++ others) (ns ++ more)
climb_entry frames last former [] [] after others more are climb = subst (λ (f : Option Former). Climb frames f others more) are climb
climb_entry frames last former [] (n ∷ ns) after others more are climb = absurd are
climb_entry frames last former (m ∷ ms) [] after others more are climb = absurd are
climb_entry frames last former (m ∷ ms) (n ∷ ns) after others more are climb =
    climb_next frames last former m n (ms ++ others) (ns ++ more) are.0 (climb_entry frames last (Some (as_former m n)) ms ns after others more are.1 climb)

pub climb_all : (frames : Frames) (total : ℕ) (former : Option Former) (es : List Entry) (ps : List (List ℕ)) → AreEntries frames total former es ps → Climb frames former (all_marks es) (joined ps)
climb_all frames total former [] [] are = climb_none frames former
climb_all frames total former [] (ns ∷ ps) are = absurd are
climb_all frames total former (x ∷ es) [] are = absurd are
climb_all frames total former (x ∷ es) (ns ∷ ps) are =
    climb_entry frames (is_last es) former x.marks ns are.1.0 (all_marks es) (joined ps) are.1.1 (climb_all frames (total + x.rows) are.1.0 es ps are.1.2)

-- ---- what it says of the rows

-- each entry but the last has a row
pub entries_rows : (frames : Frames) (total : ℕ) (former : Option Former) (es : List Entry) (ps : List (List ℕ)) → AreEntries frames total former es ps → All (λ n. 1 ≤ n) (take (length es - 1) (all_rows es))
entries_rows frames total former [] ps are = All-nil (λ n. 1 ≤ n)
entries_rows frames total former (x ∷ es) [] are = absurd are
entries_rows frames total former (x ∷ []) (ns ∷ ps) are = All-nil (λ n. 1 ≤ n)
entries_rows frames total former (x ∷ y ∷ es) (ns ∷ ps) are =
    let some : 1 ≤ x.rows = leb-true 1 x.rows (and_parts (nat_le 1 x.rows) (nat_lt (total + x.rows) (2 ^ 64)) are.0).0 in
    subst (λ (k : ℕ). All (λ n. 1 ≤ n) (take k (all_rows (x ∷ y ∷ es)))) (let z : suc (length (y ∷ es) - 1) ≡ length (x ∷ y ∷ es) - 1 = omega arith in z)
    (All-cons (λ n. 1 ≤ n) x.rows (take (length (y ∷ es) - 1) (all_rows (y ∷ es))) some (entries_rows frames (total + x.rows) are.1.0 (y ∷ es) ps are.1.2))
