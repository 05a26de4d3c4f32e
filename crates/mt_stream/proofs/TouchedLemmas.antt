-- What is still owed falls by each frame that is read.
use Rattle.std.proofs.Common.{◌≡◌, ℕ, ◌+◌, ◌<◌, ◌≤◌, Bool, true, false, ◌||◌, ◌&&◌, List, [], ◌∷◌, ◌++◌, length, arith, subst, length-append}
use Rattle.std.specs.Prelude.{nat_le, if◌then◌else◌}
use Rattle.std.specs.List.{list_any}
use Rattle.mt_defs.specs.Frames.{Block, block_bytes, file_of}
use Rattle.mt_stream.specs.Touched.{MarkRange, touches, touched_bytes}

falls_here : (size from later offset : ℕ) (here : Bool) → from ≤ later → (if nat_le later offset && here then size else 0) ≤ (if nat_le from offset && here then size else 0)
falls_here size from later offset true h = grind arith
falls_here size from later offset false h = grind arith

-- less is owed from a later offset on
pub touched_later : (blocks : List Block) (from later offset : ℕ) (ranges : List MarkRange) → from ≤ later → touched_bytes later offset blocks ranges ≤ touched_bytes from offset blocks ranges
touched_later [] from later offset ranges h = omega arith
touched_later (c ∷ cs) from later offset ranges h =
    let a = falls_here (length (block_bytes c)) from later offset (list_any (touches offset) ranges) h in
    let b = touched_later cs from later (offset + length (block_bytes c)) ranges h in
    omega (arith, a, b)

fewer_here : (size from offset : ℕ) (here rest : Bool) → (if nat_le from offset && rest then size else 0) ≤ (if nat_le from offset && (here || rest) then size else 0)
fewer_here size from offset true true = omega arith
fewer_here size from offset true false = grind arith
fewer_here size from offset false rest = omega arith

-- less is owed for fewer granules
pub touched_rest : (blocks : List Block) (from offset : ℕ) (s : MarkRange) (rest : List MarkRange) → touched_bytes from offset blocks rest ≤ touched_bytes from offset blocks (s ∷ rest)
touched_rest [] from offset s rest = omega arith
touched_rest (c ∷ cs) from offset s rest =
    let a = fewer_here (length (block_bytes c)) from offset (touches offset s) (list_any (touches offset) rest) in
    let b = touched_rest cs from (offset + length (block_bytes c)) s rest in
    omega (arith, a, b)

counts : (size from offset : ℕ) (here : Bool) → from ≤ offset → here ≡ true → (if nat_le from offset && here then size else 0) ≡ size
counts size from offset true h e = grind arith
counts size from offset false h e = cc

counts_not : (size later offset : ℕ) (here : Bool) → offset < later → (if nat_le later offset && here then size else 0) ≡ 0
counts_not size later offset true h = grind arith
counts_not size later offset false h = grind arith

-- a frame that is touched, from the seam before it on: what is owed falls by its size
pub touched_step : (before : List Block) (c : Block) (after : List Block) (from offset at : ℕ) (ranges : List MarkRange) → at ≡ offset + length (file_of before) → from ≤ at → 0 < length (block_bytes c) → list_any (touches at) ranges ≡ true
    → length (block_bytes c) + touched_bytes (at + length (block_bytes c)) offset (before ++ c ∷ after) ranges ≤ touched_bytes from offset (before ++ c ∷ after) ranges
touched_step [] c after from offset at ranges is under some touched =
    let same : at ≡ offset = omega (arith, is) in
    let touched' : list_any (touches offset) ranges ≡ true = subst (λ (k : ℕ). list_any (touches k) ranges ≡ true) same touched in
    let a = counts (length (block_bytes c)) from offset (list_any (touches offset) ranges) (omega arith) touched' in
    let b = counts_not (length (block_bytes c)) (at + length (block_bytes c)) offset (list_any (touches offset) ranges) (omega arith) in
    let more = touched_later after from (at + length (block_bytes c)) (offset + length (block_bytes c)) ranges (omega arith) in
    omega (arith, a, b, more)
touched_step (d ∷ before) c after from offset at ranges is under some touched =
    let len : length (file_of (d ∷ before)) ≡ length (block_bytes d) + length (file_of before) = length-append (block_bytes d) (file_of before) in
    let more = touched_step before c after from (offset + length (block_bytes d)) at ranges (omega (arith, is, len)) under some touched in
    let a = falls_here (length (block_bytes d)) from (at + length (block_bytes c)) offset (list_any (touches offset) ranges) (omega arith) in
    omega (arith, a, more)
