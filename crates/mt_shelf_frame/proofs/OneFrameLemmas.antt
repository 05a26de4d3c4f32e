-- What the reading of a frame gives where the file is known.
use Rattle.std.proofs.Common.{◌≡◌, ℕ, ◌+◌, ◌-◌, List, take, drop, length, ap, sym, ◌∙◌, arith, subst}
use Rattle.std.specs.Prelude.{Result, Ok}
use Rattle.std.proofs.lemmas.List.{drop-drop, length-take, length-drop, take_min}
use Rattle.mt_frame.specs.declared.fault.FrameWhy.{FrameWhy}
use Rattle.mt_shelf.specs.State.{State, ReadsUpTo}
use Rattle.mt_defs.specs.Frames.{Block}
use Rattle.mt_frame.specs.FrameReading.{frame_reading, u32_at}
use Rattle.mt_frame.proofs.BlockLemmas.{header_facts}
use Rattle.mt_frame.specs.declared.fault.FrameWhy.{FrameWhy}
use Rattle.mt_frame.specs.Results.{GivesPayload}
use Rattle.mt_shelf_frame.specs.Taking.{IsFrameAt, frame_len}

-- a first's payload stands after the header
pub payload_there : (first : List ℕ) (c : Block) (rest : List ℕ) → frame_reading first ≡ Ok (c, rest) → take (length c.payload) (drop 25 first) ≡ c.payload
payload_there first c rest e =
    let f = header_facts first c rest e in
    let k = u32_at 21 first in
    let is : c.payload ≡ take k (drop 25 first) = ap (λ (d : Block). d.payload) f.block in
    ap (λ (n : ℕ). take n (drop 25 first)) (ap (λ (xs : List ℕ). length xs) is ∙ length-take k (drop 25 first)) ∙ take_min k (drop 25 first) ∙ sym is

-- a header's answer is of the bytes whose header it is
module _ (bytes header : List ℕ) (at size : ℕ) where
  pub reading_of : (r : Result ℕ FrameWhy) → ((bs : List ℕ) → take 25 bs ≡ header → length bs ≡ size - at → GivesPayload bs r (frame_reading bs)) → header ≡ take 25 (drop at bytes) → length bytes ≡ size
      → GivesPayload (drop at bytes) r (frame_reading (drop at bytes))
  reading_of r gives is all = gives (drop at bytes) (sym is) (omega (arith, length-drop at bytes))

  pub whole_frame : (n : ℕ) (payload : List ℕ) → GivesPayload (drop at bytes) (Ok n) (frame_reading (drop at bytes)) → length payload ≡ n → payload ≡ take n (drop (at + 25) bytes)
      → IsFrameAt at (at + 25 + n) payload (frame_reading (drop at bytes))
  whole_frame n payload (c, size_is, is) long read = record {
    block = c;
    rest = drop (25 + n) (drop at bytes);
    stands = is;
    payload_is = read ∙ ap (λ (bs : List ℕ). take n bs) (sym (drop-drop 25 at bytes)) ∙ ap (λ (k : ℕ). take k (drop 25 (drop at bytes))) size_is ∙ payload_there (drop at bytes) c _ is;
    ends = omega arith;
  }

  pub frame_taken : (n : ℕ) (old new : State) → GivesPayload (drop at bytes) (Ok n) (frame_reading (drop at bytes)) → ReadsUpTo (25 + n) old new → ReadsUpTo (frame_len (frame_reading (drop at bytes))) old new
  frame_taken n old new (c, size_is, is) took =
      subst (λ (k : ℕ). ReadsUpTo k old new) (ap (λ (k : ℕ). 25 + k) size_is ∙ ap (λ (r : Result (Block × List ℕ) FrameWhy). frame_len r) (sym is)) took
