-- What entries that keep the rules say of rows, positions and offsets, and back.
use Rattle.std.proofs.Common.{◌≡◌, ℕ, zero, suc, ◌+◌, ◌-◌, ◌^◌, ◌<◌, ◌≤◌, Bool, true, false, List, [], ◌∷◌, ◌++◌, length, map, take, get_or, refl, ap, sym, ◌∙◌, subst, arith, append_assoc, append-nil, Option, Some, None}
use Rattle.std.specs.Prelude.{nat_le, nat_lt, ◌==◌, ◌||◌, not, replicate}
use Rattle.std.specs.List.{sum}
use Rattle.std.specs.List.Sorted.{IsNonDecreasingBy}
use Rattle.std.proofs.lemmas.Bool.{ltb-true, eqb-true, and_parts}
use Rattle.mt_facts.proofs.Numbers.{sum_cons}
use Rattle.mt_table.specs.Rows.{Pointwise}
use Rattle.mt_defs.specs.declared.mark.Mark.{Mark}
use Rattle.mt_frame.specs.declared.frames.Frames.{Frames}
use Rattle.mt_marks.specs.Entries.{Entry}
use Rattle.mt_marks.specs.declared.rules.Former.{Former}
use Rattle.mt_marks.specs.MarkReading.{is_placed, payload_len, is_last}
use Rattle.mt_marks.proofs.RawLemmas.{all_rows}
use Rattle.mt_granules.proofs.MarksBytesLemmas.{entry_lists}
use Rattle.mt_granules.proofs.MarksFileLemmas.{HaveMarks}
use Rattle.mt_granules.proofs.CutLemmas.{AreRuns, RisesTo, flat}
use Rattle.mt_granules.proofs.RuleLemmas.{as_former, AreRuled, AreEntries, Rises, joined, Denote}

-- ---- rows

one_less : (n : ℕ) → suc (suc n) - 1 ≡ suc (suc n - 1)
one_less n = omega arith

-- the last entry has no rows
pub rows_end : (frames : Frames) (total : ℕ) (former : Option Former) (es : List Entry) (ps : List (List ℕ)) → AreEntries frames total former es ps → 1 ≤ length es → all_rows es ≡ take (length es - 1) (all_rows es) ++ 0 ∷ []
rows_end frames total former [] ps are some = absurd (omega arith)
rows_end frames total former (x ∷ es) [] are some = absurd are
rows_end frames total former (x ∷ []) (ns ∷ ps) are some = ap (λ (n : ℕ). n ∷ []) (eqb-true x.rows 0 are.0)
rows_end frames total former (x ∷ y ∷ es) (ns ∷ ps) are some =
    ap (λ (l : List ℕ). x.rows ∷ l) (rows_end frames (total + x.rows) are.1.0 (y ∷ es) ps are.1.2 (omega arith))
    ∙ ap (λ (k : ℕ). take k (all_rows (x ∷ y ∷ es)) ++ 0 ∷ []) (sym (one_less (length es)))

-- the rows of all granules fit 64 bits
pub rows_small : (frames : Frames) (total : ℕ) (former : Option Former) (es : List Entry) (ps : List (List ℕ)) → AreEntries frames total former es ps → total < 2 ^ 64 → total + sum (take (length es - 1) (all_rows es)) < 2 ^ 64
rows_small frames total former [] ps are small = omega (arith, small)
rows_small frames total former (x ∷ es) [] are small = absurd are
rows_small frames total former (x ∷ []) (ns ∷ ps) are small = omega (arith, small)
rows_small frames total former (x ∷ y ∷ es) (ns ∷ ps) are small =
    let here = ltb-true (total + x.rows) (2 ^ 64) (and_parts (nat_le 1 x.rows) (nat_lt (total + x.rows) (2 ^ 64)) are.0).1 in
    let more = rows_small frames (total + x.rows) are.1.0 (y ∷ es) ps are.1.2 here in
    subst (λ (k : ℕ). total + sum (take k (all_rows (x ∷ y ∷ es))) < 2 ^ 64) (sym (one_less (length es)))
    (omega (arith, more, sum_cons x.rows (take (suc (length es) - 1) (all_rows (y ∷ es)))))

-- ---- positions

ruled_denote : (frames : Frames) (last : Bool) (former : Option Former) (ms : List Mark) (ns : List ℕ) (after : Option Former) → AreRuled frames last former ms ns after → Denote frames ms ns × (length ns ≡ length ms)
ruled_denote frames last former [] [] after are = (tt, refl)
ruled_denote frames last former [] (n ∷ ns) after are = absurd are
ruled_denote frames last former (m ∷ ms) [] after are = absurd are
ruled_denote frames last former (m ∷ ms) (n ∷ ns) after are = let more = ruled_denote frames last (Some (as_former m n)) ms ns after are.1 in ((are.0.denotes, more.0), ap suc more.1)

pub entries_denote : (frames : Frames) (total : ℕ) (former : Option Former) (es : List Entry) (ps : List (List ℕ)) → AreEntries frames total former es ps → Pointwise (Denote frames) (entry_lists es) ps
entries_denote frames total former [] [] are = tt
entries_denote frames total former [] (ns ∷ ps) are = absurd are
entries_denote frames total former (x ∷ es) [] are = absurd are
entries_denote frames total former (x ∷ es) (ns ∷ ps) are =
    ((ruled_denote frames (is_last es) former x.marks ns are.1.0 are.1.1).0, entries_denote frames (total + x.rows) are.1.0 es ps are.1.2)

last_placed : (former : Option Former) (end n : ℕ) → is_placed former true end n ≡ true → n ≡ end
last_placed None end n e = eqb-true n end (and_parts (n == 0) (n == end) e).1
last_placed (Some f) end n e = eqb-true n end e

all_at_end : (frames : Frames) (former : Option Former) (ms : List Mark) (ns : List ℕ) (after : Option Former) → AreRuled frames true former ms ns after → ns ≡ replicate (length ms) (payload_len frames.list)
all_at_end frames former [] [] after are = refl
all_at_end frames former [] (n ∷ ns) after are = absurd are
all_at_end frames former (m ∷ ms) [] after are = absurd are
all_at_end frames former (m ∷ ms) (n ∷ ns) after are =
    ap (λ (k : ℕ). k ∷ ns) (last_placed former (payload_len frames.list) n are.0.placed) ∙ ap (λ (l : List ℕ). payload_len frames.list ∷ l) (all_at_end frames (Some (as_former m n)) ms ns after are.1)

-- the positions of the granules' marks, before those of the end
pub record EndsAt (per end n : ℕ) (ps : List (List ℕ)) : Type 0 where
  pub front : List (List ℕ)
  pub split : ps ≡ front ++ replicate per end ∷ []
  pub many : length front ≡ n
  pub are : AreRuns per front

pub ends_at : (frames : Frames) (per total : ℕ) (former : Option Former) (es : List Entry) (ps : List (List ℕ)) → AreEntries frames total former es ps → HaveMarks per es → 1 ≤ length es → EndsAt per (payload_len frames.list) (length es - 1) ps
ends_at frames per total former [] ps are have some = absurd (omega arith)
ends_at frames per total former (x ∷ es) [] are have some = absurd are
ends_at frames per total former (x ∷ []) (ns ∷ []) are have some = record {
  front = [];
  split = ap (λ (l : List ℕ). l ∷ []) (all_at_end frames former x.marks ns are.1.0 are.1.1 ∙ ap (λ (k : ℕ). replicate k (payload_len frames.list)) have.0);
  many = refl;
  are = tt;
}
ends_at frames per total former (x ∷ []) (ns ∷ os ∷ ps) are have some = absurd are.1.2
ends_at frames per total former (x ∷ y ∷ es) (ns ∷ ps) are have some =
    let more = ends_at frames per (total + x.rows) are.1.0 (y ∷ es) ps are.1.2 have.1 (omega arith) in
    record {
      front = ns ∷ more.front;
      split = ap (λ (l : List (List ℕ)). ns ∷ l) more.split;
      many = ap suc more.many ∙ sym (one_less (length es));
      are = ((ruled_denote frames false former x.marks ns are.1.0 are.1.1).1 ∙ have.0, more.are);
    }

-- the first position is 0
pub begins_at : (frames : Frames) (total : ℕ) (es : List Entry) (ps : List (List ℕ)) (per : ℕ) → AreEntries frames total None es ps → HaveMarks per es → 1 ≤ per → 1 ≤ length es → (rest : List ℕ) × (joined ps ≡ 0 ∷ rest)
begins_at frames total [] ps per are have some many = absurd (omega arith)
begins_at frames total (x ∷ es) [] per are have some many = absurd are
begins_at frames total (x ∷ es) (ns ∷ ps) per are have some many = first x.marks ns are.1.1 (omega (arith, have.0, some))
  where
    first : (ms : List Mark) (ns : List ℕ) → AreRuled frames (is_last es) None ms ns are.1.0 → 1 ≤ length ms → (rest : List ℕ) × (joined (ns ∷ ps) ≡ 0 ∷ rest)
    first [] ns ruled h = absurd (omega arith)
    first (m ∷ ms) [] ruled h = absurd ruled
    first (m ∷ ms) (n ∷ ns) ruled h =
        (ns ++ joined ps, ap (λ (k : ℕ). k ∷ (ns ++ joined ps)) (eqb-true n 0 (and_parts (n == 0) (not (is_last es) || (n == payload_len frames.list)) ruled.0.placed).0))

pub rises_to : (a top total : ℕ) (xs rest : List ℕ) → Rises a (xs ++ total ∷ rest) top → RisesTo a (xs ++ total ∷ []) total
rises_to a top total [] rest r = (r.0, refl)
rises_to a top total (x ∷ xs) rest r = (r.0, rises_to x top total xs rest r.1)

pub joined_flat : (ps : List (List ℕ)) → joined ps ≡ flat ps
joined_flat [] = refl
joined_flat (ns ∷ ps) = ap (λ (l : List ℕ). ns ++ l) (joined_flat ps)

pub joined_last : (front : List (List ℕ)) (last : List ℕ) → joined (front ++ last ∷ []) ≡ flat front ++ last
joined_last [] last = append-nil last
joined_last (ns ∷ front) last = ap (λ (l : List ℕ). ns ++ l) (joined_last front last) ∙ sym (append_assoc ns (flat front) last)

-- ---- offsets

rises_from : (a top : ℕ) (ns : List ℕ) (i : ℕ) (d : ℕ) → Rises a ns top → i < length ns → a ≤ get_or ns i d
rises_from a top [] i d r h = absurd (omega arith)
rises_from a top (n ∷ ns) zero d r h = r.0
rises_from a top (n ∷ ns) (suc i) d r h = let more = rises_from n top ns i d r.1 (omega arith) in omega (arith, more, r.0)

far : (a top : ℕ) (ms : List Mark) (i j : ℕ) (d : Mark) → Rises a (map (λ (m : Mark). m.offset) ms) top → i ≤ j → j < length ms → (get_or ms i d).offset ≤ (get_or ms j d).offset
far a top [] i j d r le h = absurd (omega arith)
far a top (m ∷ ms) zero zero d r le h = omega arith
far a top (m ∷ ms) zero (suc j) d r le h = offset_above m.offset top ms j d r.1 (omega arith)
  where
    offset_above : (b top : ℕ) (ms : List Mark) (j : ℕ) (d : Mark) → Rises b (map (λ (m : Mark). m.offset) ms) top → j < length ms → b ≤ (get_or ms j d).offset
    offset_above b top [] j d r h = absurd (omega arith)
    offset_above b top (n ∷ ns) zero d r h = r.0
    offset_above b top (n ∷ ns) (suc j) d r h = let more = offset_above n.offset top ns j d r.1 (omega arith) in omega (arith, more, r.0)
far a top (m ∷ ms) (suc i) zero d r le h = absurd (omega arith)
far a top (m ∷ ms) (suc i) (suc j) d r le h = far m.offset top ms i j d r.1 (omega arith) (omega arith)

pub never_fall : (a top : ℕ) (ms : List Mark) → Rises a (map (λ (m : Mark). m.offset) ms) top → IsNonDecreasingBy (λ (mark : Mark). mark.offset) ms
never_fall a top ms r = λ i j d le h. far a top ms i j d r le h
