-- Marks at the right positions keep the rules.
use Rattle.std.proofs.Common.{◌≡◌, ℕ, zero, suc, ◌+◌, ◌^◌, ◌<◌, ◌≤◌, Bool, true, false, List, [], ◌∷◌, ◌++◌, length, map, get_or, refl, ap, sym, subst, arith, Option, Some, None}
use Rattle.std.specs.Prelude.{All, nat_le, nat_lt, ◌==◌, replicate}
use Rattle.std.specs.List.{sum}
use Rattle.std.specs.List.Sorted.{IsNonDecreasingBy}
use Rattle.std.proofs.lemmas.Bool.{le-leb, lt-ltb, eq-eqb, and_from}
use Rattle.std.proofs.lemmas.List.Elements.{All-nil, All-cons, All-head, All-tail}
use Rattle.mt_facts.proofs.Numbers.{sum_cons}
use Rattle.mt_table.specs.Rows.{Pointwise}
use Rattle.mt_defs.specs.declared.mark.Mark.{Mark}
use Rattle.mt_frame.specs.declared.frames.Frames.{Frames}
use Rattle.mt_marks.specs.Entries.{Entry}
use Rattle.mt_marks.specs.declared.rules.Former.{Former}
use Rattle.mt_marks.specs.MarkReading.{offset_before, position_before, is_placed, payload_len}
use Rattle.mt_marks.proofs.RawLemmas.{all_marks, all_rows}
use Rattle.mt_granules.proofs.MarksBytesLemmas.{entry_lists}
use Rattle.mt_granules.proofs.MarksFileLemmas.{HaveMarks}
use Rattle.mt_granules.proofs.RuleLemmas.{as_former, AreRuled, AreEntries, Rises, joined, Denote}

-- the first mark of all is at the start
abbrev pub Begins : Option Former → List ℕ → Type 0
Begins None [] = Unit {0}
Begins None (n ∷ ns) = n ≡ 0
Begins (Some f) ns = Unit {0}

-- each mark of the last entry is at the end
abbrev pub AtEnd : ℕ → List (List ℕ) → Type 0
AtEnd end [] = Unit {0}
AtEnd end (ns ∷ []) = All (λ n. n ≡ end) ns
AtEnd end (ns ∷ os ∷ ps) = AtEnd end (os ∷ ps)

-- rows of entries: some in each but the last, and fewer than 2^64 in all
abbrev pub RowsFit : ℕ → List ℕ → Type 0
RowsFit total [] = Unit {0}
RowsFit total (r ∷ []) = r ≡ 0
RowsFit total (r ∷ s ∷ rows) = (1 ≤ r) × (total + r < 2 ^ 64) × RowsFit (total + r) (s ∷ rows)

placed_ok : (former : Option Former) (last : Bool) (end n : ℕ) (ns : List ℕ) → Begins former (n ∷ ns) → (last ≡ true → n ≡ end) → is_placed former last end n ≡ true
placed_ok None true end n ns begins ends = and_from (n == 0) (n == end) (eq-eqb n 0 begins) (eq-eqb n end (ends refl))
placed_ok None false end n ns begins ends = and_from (n == 0) true (eq-eqb n 0 begins) refl
placed_ok (Some f) true end n ns begins ends = eq-eqb n end (ends refl)
placed_ok (Some f) false end n ns begins ends = refl

-- ---- an entry

record AreBuilt (frames : Frames) (last : Bool) (former : Option Former) (ms : List Mark) (ns : List ℕ) (more offsets : List ℕ) (top foot : ℕ) : Type 0 where
  after : Option Former
  are : AreRuled frames last former ms ns after
  positions : Rises (position_before after) more top
  offsets_rise : Rises (offset_before after) offsets foot
  begun : 1 ≤ length ms → (rest : List ℕ) → Begins after rest

build : (frames : Frames) (last : Bool) (former : Option Former) (ms : List Mark) (ns more offsets : List ℕ) (top foot : ℕ) → Denote frames ms ns → Rises (position_before former) (ns ++ more) top
    → Rises (offset_before former) (map (λ (m : Mark). m.offset) ms ++ offsets) foot → Begins former ns → (last ≡ true → All (λ n. n ≡ payload_len frames.list) ns) → AreBuilt frames last former ms ns more offsets top foot
build frames last former [] [] more offsets top foot denote up on begins ends = record { after = former; are = refl; positions = up; offsets_rise = on; begun = λ some rest. absurd (omega arith) }
build frames last former [] (n ∷ ns) more offsets top foot denote up on begins ends = absurd denote
build frames last former (m ∷ ms) [] more offsets top foot denote up on begins ends = absurd denote
build frames last former (m ∷ ms) (n ∷ ns) more offsets top foot denote up on begins ends =
    let rest = build frames last (Some (as_former m n)) ms ns more offsets top foot denote.1 up.1 on.1 tt (λ e. All-tail (λ n. n ≡ payload_len frames.list) n ns (ends e)) in
    record {
      after = rest.after;
      are = (record { order = on.0; denotes = denote.0; placed = placed_ok former last (payload_len frames.list) n ns begins (λ e. All-head (λ n. n ≡ payload_len frames.list) n ns (ends e)); climbs = up.0 }, rest.are);
      positions = rest.positions;
      offsets_rise = rest.offsets_rise;
      begun = λ some others. begun_on ms ns rest.after rest.are (rest.begun) others;
    }
  where
    begun_on : (ms : List Mark) (ns : List ℕ) (after : Option Former) → AreRuled frames last (Some (as_former m n)) ms ns after → (1 ≤ length ms → (rest : List ℕ) → Begins after rest) → (others : List ℕ) → Begins after others
    begun_on [] [] after are begun others = subst (λ (f : Option Former). Begins f others) (sym are) tt
    begun_on [] (k ∷ ns) after are begun others = absurd are
    begun_on (k ∷ ms) ns after are begun others = begun (omega arith) others

-- ---- all entries

begins_front : (former : Option Former) (ns more : List ℕ) → Begins former (ns ++ more) → 1 ≤ length ns → Begins former ns
begins_front None [] more begins some = tt
begins_front None (n ∷ ns) more begins some = begins
begins_front (Some f) ns more begins some = tt

denote_long : (frames : Frames) (ms : List Mark) (ns : List ℕ) → Denote frames ms ns → length ns ≡ length ms
denote_long frames [] [] p = refl
denote_long frames [] (n ∷ ns) p = absurd p
denote_long frames (m ∷ ms) [] p = absurd p
denote_long frames (m ∷ ms) (n ∷ ns) p = ap suc (denote_long frames ms ns p.1)

offsets_append : (ms others : List Mark) → map (λ (m : Mark). m.offset) (ms ++ others) ≡ map (λ (m : Mark). m.offset) ms ++ map (λ (m : Mark). m.offset) others
offsets_append [] others = refl
offsets_append (m ∷ ms) others = ap (λ (l : List ℕ). m.offset ∷ l) (offsets_append ms others)

pub build_entries : (frames : Frames) (per total : ℕ) (former : Option Former) (es : List Entry) (ps : List (List ℕ)) (top foot : ℕ) → 1 ≤ per → HaveMarks per es → Pointwise (Denote frames) (entry_lists es) ps
    → Rises (position_before former) (joined ps) top → Rises (offset_before former) (map (λ (m : Mark). m.offset) (all_marks es)) foot → Begins former (joined ps) → AtEnd (payload_len frames.list) ps → RowsFit total (all_rows es)
    → AreEntries frames total former es ps
build_entries frames per total former [] [] top foot some have denote up on begins ends rows = tt
build_entries frames per total former [] (ns ∷ ps) top foot some have denote up on begins ends rows = absurd denote
build_entries frames per total former (x ∷ es) [] top foot some have denote up on begins ends rows = absurd denote
build_entries frames per total former (x ∷ []) (ns ∷ []) top foot some have denote up on begins ends rows =
    let long = denote_long frames x.marks ns denote.0 in
    let built = build frames true former x.marks ns [] [] top foot denote.0 up (subst (λ (l : List ℕ). Rises (offset_before former) l foot) (offsets_append x.marks []) on)
    (begins_front former ns [] begins (omega (arith, long, have.0, some))) (λ e. ends) in
    (eq-eqb x.rows 0 rows, (built.after, built.are, tt))
build_entries frames per total former (x ∷ []) (ns ∷ os ∷ ps) top foot some have denote up on begins ends rows = absurd denote.1
build_entries frames per total former (x ∷ y ∷ es) (ns ∷ []) top foot some have denote up on begins ends rows = absurd denote.1
build_entries frames per total former (x ∷ y ∷ es) (ns ∷ os ∷ ps) top foot some have denote up on begins ends rows =
    let long = denote_long frames x.marks ns denote.0 in
    let built = build frames false former x.marks ns (joined (os ∷ ps)) (map (λ (m : Mark). m.offset) (all_marks (y ∷ es))) top foot denote.0 up (subst (λ (l : List ℕ). Rises (offset_before former) l foot) (offsets_append x.marks (all_marks (y ∷ es))) on)
    (begins_front former ns (joined (os ∷ ps)) begins (omega (arith, long, have.0, some))) (λ e. absurd cc) in (
      and_from (nat_le 1 x.rows) (nat_lt (total + x.rows) (2 ^ 64)) (le-leb 1 x.rows rows.0) (lt-ltb (total + x.rows) (2 ^ 64) rows.1),
      (built.after, built.are, build_entries frames per (total + x.rows) built.after (y ∷ es) (os ∷ ps) top foot some have.1 denote.1 built.positions built.offsets_rise (built.begun (omega (arith, have.0, some)) (joined (os ∷ ps))) ends rows.2),
    )

-- ---- what that takes

pub rows_fit : (total : ℕ) (granules : List ℕ) → All (λ n. 1 ≤ n) granules → total + sum granules < 2 ^ 64 → RowsFit total (granules ++ 0 ∷ [])
rows_fit total [] are small = refl
rows_fit total (n ∷ []) are small = let both = sum_cons n [] in (All-head (λ n. 1 ≤ n) n [] are, omega (arith, small, both), refl)
rows_fit total (n ∷ m ∷ granules) are small =
    let both = sum_cons n (m ∷ granules) in
    (All-head (λ n. 1 ≤ n) n (m ∷ granules) are, omega (arith, small, both), rows_fit (total + n) (m ∷ granules) (All-tail (λ n. 1 ≤ n) n (m ∷ granules) are) (omega (arith, small, both)))

pub at_end : (end : ℕ) (front : List (List ℕ)) (last : List ℕ) → All (λ n. n ≡ end) last → AtEnd end (front ++ last ∷ [])
at_end end [] last are = are
at_end end (ns ∷ []) last are = are
at_end end (ns ∷ os ∷ front) last are = at_end end (os ∷ front) last are

pub all_copies : (end n : ℕ) → All (λ k. k ≡ end) (replicate n end)
all_copies end zero = All-nil (λ k. k ≡ end)
all_copies end (suc n) = All-cons (λ k. k ≡ end) end (replicate n end) refl (all_copies end n)

-- offsets that never fall, one after another
pub offsets_rise : (a : ℕ) (ms : List Mark) → ((d : Mark) → 1 ≤ length ms → a ≤ (get_or ms 0 d).offset) → IsNonDecreasingBy (λ (mark : Mark). mark.offset) ms → (foot : ℕ) × Rises a (map (λ (m : Mark). m.offset) ms) foot
offsets_rise a [] above up = (a, omega arith)
offsets_rise a (m ∷ ms) above up =
    let more = offsets_rise m.offset ms (λ d some. up 0 1 d (omega arith) (omega arith)) (λ i j d le h. up (suc i) (suc j) d (omega arith) (omega arith)) in
    (more.0, (above m (omega arith), more.1))
