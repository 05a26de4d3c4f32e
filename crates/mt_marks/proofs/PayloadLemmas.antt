-- The uncompressed length of a file whose frames lie end to end.
use Rattle.std.proofs.Common.{◌≡◌, ℕ, ◌+◌, ◌*◌, true, List, [], ◌∷◌, length, map, arith}
use Rattle.std.specs.List.{sum}
use Rattle.std.proofs.lemmas.Bool.{eqb-true}
use Rattle.mt_facts.proofs.Numbers.{sum_cons}
use Rattle.mt_defs.specs.declared.frame.Frame.{Frame}
use Rattle.mt_frame.specs.EndToEnd.{lie_end_to_end}
use Rattle.mt_marks.proofs.PositionLemmas.{lies}

-- the headers and the payloads of the frames are all that stands between
pub frames_fill : (offset : ℕ) (frames : List Frame) (end : ℕ) → lie_end_to_end offset frames end ≡ true → offset + 25 * length frames + sum (map (λ (f : Frame). f.payload) frames) ≡ end
frames_fill offset [] end e = let same = eqb-true offset end e in omega (arith, same)
frames_fill offset (f ∷ fs) end e =
    let more = frames_fill (offset + (25 + f.payload)) fs end (lies offset f fs end e).rest in
    omega (arith, more, sum_cons f.payload (map (λ (g : Frame). g.payload) fs))
