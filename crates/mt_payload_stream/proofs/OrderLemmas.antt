-- Marks that keep the rules are in order, each with each later one.
use Rattle.std.proofs.Common.{◌≡◌, ℕ, zero, suc, ◌<◌, ◌≤◌, List, [], ◌∷◌, length, map, get_or, refl, ap, arith, Some}
use Rattle.mt_table.specs.Rows.{Pointwise}
use Rattle.mt_defs.specs.declared.mark.Mark.{Mark}
use Rattle.mt_frame.specs.declared.frames.Frames.{Frames}
use Rattle.mt_marks.specs.Positions.{position_of}
use Rattle.mt_granules.proofs.RuleLemmas.{Rises}

rises_from : (a top : ℕ) (ns : List ℕ) (j : ℕ) → Rises a ns top → j < length ns → a ≤ get_or ns j 0
rises_from a top [] j r h = absurd (omega arith)
rises_from a top (n ∷ ns) zero r h = r.0
rises_from a top (n ∷ ns) (suc j) r h = let more = rises_from n top ns j r.1 (omega arith) in omega (arith, more, r.0)

-- numbers that never fall, each with each later one
pub rises_between : (a top : ℕ) (ns : List ℕ) (i j : ℕ) → Rises a ns top → i ≤ j → j < length ns → get_or ns i 0 ≤ get_or ns j 0
rises_between a top [] i j r le h = absurd (omega arith)
rises_between a top (n ∷ ns) zero zero r le h = omega arith
rises_between a top (n ∷ ns) zero (suc j) r le h = rises_from n top ns j r.1 (omega arith)
rises_between a top (n ∷ ns) (suc i) zero r le h = absurd (omega arith)
rises_between a top (n ∷ ns) (suc i) (suc j) r le h = rises_between n top ns i j r.1 (omega arith) (omega arith)

pub offset_at : (ms : List Mark) (i : ℕ) (d : Mark) → i < length ms → get_or (map (λ (m : Mark). m.offset) ms) i 0 ≡ (get_or ms i d).offset
offset_at [] i d h = absurd (omega arith)
offset_at (m ∷ ms) zero d h = refl
offset_at (m ∷ ms) (suc i) d h = offset_at ms i d (omega arith)

pub offsets_len : (ms : List Mark) → length (map (λ (m : Mark). m.offset) ms) ≡ length ms
offsets_len [] = refl
offsets_len (m ∷ ms) = ap (λ (n : ℕ). suc n) (offsets_len ms)

-- the position of the mark of an index
pub denotes_there : (frames : Frames) (ms : List Mark) (ns : List ℕ) (i : ℕ) (d : Mark) → Pointwise (λ m n. position_of frames m ≡ Some n) ms ns → i < length ms → (position_of frames (get_or ms i d) ≡ Some (get_or ns i 0))
denotes_there frames [] ns i d p h = absurd (omega arith)
denotes_there frames (m ∷ ms) [] i d p h = absurd p
denotes_there frames (m ∷ ms) (n ∷ ns) zero d p h = p.0
denotes_there frames (m ∷ ms) (n ∷ ns) (suc i) d p h = denotes_there frames ms ns i d p.1 (omega arith)
