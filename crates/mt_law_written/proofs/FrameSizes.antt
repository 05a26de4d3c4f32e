-- The sizes of the writer's frames: each has 25 bytes more than its payload.
use Rattle.std.proofs.Common.{◌≡◌, ℕ, zero, suc, ◌+◌, ◌-◌, ◌*◌, ◌≤◌, min, List, [], ◌∷◌, ◌++◌, length, take, drop, arith, length-append, length-take, length-drop}
use Rattle.std.specs.Int.{w32, to_le_bytes}
use Rattle.std.specs.Prelude.{replicate}
use Rattle.mt_defs.specs.declared.frame.TheConstants.{CHECKSUM_BYTES, FRAME_PAYLOAD, METHOD_NONE, SIZES_EXTRA}
use Rattle.mt_defs.specs.WrittenFrames.{frames_within, written_frame, written_frames}

-- 16 bytes of a checksum, 1 of the method, and 4 of each size
pub frame_size : (payload : List ℕ) → length (written_frame payload) ≡ length payload + 25
frame_size payload =
    let sizes = length-append (to_le_bytes w32 (length payload + SIZES_EXTRA)) (to_le_bytes w32 (length payload) ++ payload) in
    let last = length-append (to_le_bytes w32 (length payload)) payload in
    let all = length-append (replicate CHECKSUM_BYTES 0) (METHOD_NONE ∷ (to_le_bytes w32 (length payload + SIZES_EXTRA) ++ (to_le_bytes w32 (length payload) ++ payload))) in
    omega (arith, sizes, last, all)

-- what is left after a frame of `cut` bytes, or of fewer at the end
left_fits : (cut count size left : ℕ) → size ≤ cut * suc count → left ≡ size - cut → left ≤ cut * count
left_fits cut count size left few is = omega (arith, few, is)

-- a frame more
more_frames : (cut count size first left here rest whole : ℕ) → first ≡ min cut size → left ≡ size - cut → here ≡ first + 25 → rest ≤ left + 25 * count → whole ≡ here + rest → whole ≤ size + 25 * suc count
more_frames cut count size first left here rest whole f l h r w = omega (arith, f, l, h, r, w)

-- a payload of at most so many frames has at most as often 25 bytes more
frames_size_within : (most count : ℕ) (payload : List ℕ) → length payload ≤ FRAME_PAYLOAD * count → length (frames_within most payload) ≤ length payload + 25 * count
frames_size_within zero count payload few = omega arith
frames_size_within (suc most) count [] few = omega arith
frames_size_within (suc most) zero (byte ∷ bytes) few = absurd (omega (arith, few))
frames_size_within (suc most) (suc count) (byte ∷ bytes) few =
    let first = take FRAME_PAYLOAD (byte ∷ bytes) in
    let left = drop FRAME_PAYLOAD (byte ∷ bytes) in
    let fits = left_fits FRAME_PAYLOAD count (length (byte ∷ bytes)) (length left) few (length-drop FRAME_PAYLOAD (byte ∷ bytes)) in
    more_frames FRAME_PAYLOAD count (length (byte ∷ bytes)) (length first) (length left) (length (written_frame first)) (length (frames_within most left)) (length (frames_within (suc most) (byte ∷ bytes)))
    (length-take FRAME_PAYLOAD (byte ∷ bytes)) (length-drop FRAME_PAYLOAD (byte ∷ bytes)) (frame_size first) (frames_size_within most count left fits) (length-append (written_frame first) (frames_within most left))

-- and so have the writer's frames
pub frames_size : (count : ℕ) (payload : List ℕ) → length payload ≤ FRAME_PAYLOAD * count → length (written_frames payload) ≤ length payload + 25 * count
frames_size count payload few = frames_size_within (length payload) count payload few
