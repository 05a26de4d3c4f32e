-- The writer's frames have their payload.
use Rattle.std.proofs.Common.{◌≡◌, ℕ, zero, suc, ◌-◌, ◌<◌, ◌≤◌, min, List, [], ◌∷◌, ◌++◌, length, take, drop, refl, ap, sym, ◌∙◌, arith, lit≤, lit<}
use Rattle.std.specs.Prelude.{All, replicate}
use Rattle.std.proofs.lemmas.List.{length-drop, length-take, take-append-drop}
use Rattle.std.proofs.lemmas.List.Elements.{All-nil, All-cons, All-take, All-drop, All-replicate}
use Rattle.mt_defs.specs.declared.frame.TheConstants.{CHECKSUM_BYTES, FRAME_PAYLOAD, MAX_PAYLOAD}
use Rattle.mt_defs.specs.Frames.{Block, IsBlock, IsFramed, block_bytes, file_of, payload_of}
use Rattle.mt_defs.specs.Lists.{AreBytes}
use Rattle.mt_defs.specs.WrittenFrames.{written_frames, frames_within}

plain_block : List ℕ → Block
plain_block payload = record { checksum = replicate CHECKSUM_BYTES 0; payload = payload }

pub blocks_within : ℕ → List ℕ → List Block
blocks_within zero payload = []
blocks_within (suc most) [] = []
blocks_within (suc most) (b ∷ bytes) = plain_block (take FRAME_PAYLOAD (b ∷ bytes)) ∷ blocks_within most (drop FRAME_PAYLOAD (b ∷ bytes))

pub file_is : (most : ℕ) (payload : List ℕ) → frames_within most payload ≡ file_of (blocks_within most payload)
unfolding blocks_within plain_block
file_is zero payload = refl
file_is (suc most) [] = refl
file_is (suc most) (b ∷ bytes) = ap (λ rest. block_bytes (plain_block (take FRAME_PAYLOAD (b ∷ bytes))) ++ rest) (file_is most (drop FRAME_PAYLOAD (b ∷ bytes)))

pub payload_is : (most : ℕ) (payload : List ℕ) → length payload ≤ most → payload ≡ payload_of (blocks_within most payload)
unfolding blocks_within plain_block
payload_is zero [] h = refl
payload_is zero (b ∷ bytes) h = absurd (omega arith)
payload_is (suc most) [] h = refl
payload_is (suc most) (b ∷ bytes) h =
    let left : length (drop FRAME_PAYLOAD (b ∷ bytes)) ≡ length (b ∷ bytes) - FRAME_PAYLOAD = length-drop FRAME_PAYLOAD (b ∷ bytes) in
    sym (take-append-drop FRAME_PAYLOAD (b ∷ bytes)) ∙ ap (λ rest. take FRAME_PAYLOAD (b ∷ bytes) ++ rest) (payload_is most (drop FRAME_PAYLOAD (b ∷ bytes)) (omega arith))

block_of : (payload : List ℕ) → 1 ≤ length payload → length payload ≤ MAX_PAYLOAD → AreBytes payload → IsBlock (plain_block payload)
unfolding plain_block
block_of payload some few are = record {
  checksum_length = refl;
  checksum_bytes = All-replicate (λ byte. byte < 256) CHECKSUM_BYTES 0 (lit< tt);
  not_empty = some;
  small = few;
  payload_bytes = are;
}

-- the first bytes of some, at most so many
first_some : (cut : ℕ) (bytes : List ℕ) → 1 ≤ cut → 1 ≤ length bytes → 1 ≤ length (take cut bytes)
first_some cut bytes h some =
    let size : length (take cut bytes) ≡ min cut (length bytes) = length-take cut bytes in
    omega arith

first_few : (cut most : ℕ) (bytes : List ℕ) → cut ≤ most → length (take cut bytes) ≤ most
first_few cut most bytes h =
    let size : length (take cut bytes) ≡ min cut (length bytes) = length-take cut bytes in
    omega arith

one_or_more : (b : ℕ) (bytes : List ℕ) → 1 ≤ length (b ∷ bytes)
one_or_more b bytes = omega arith

block_is : (b : ℕ) (bytes : List ℕ) → AreBytes (b ∷ bytes) → IsBlock (plain_block (take FRAME_PAYLOAD (b ∷ bytes)))
block_is b bytes are =
    block_of (take FRAME_PAYLOAD (b ∷ bytes)) (first_some FRAME_PAYLOAD (b ∷ bytes) (lit≤ tt) (one_or_more b bytes)) (first_few FRAME_PAYLOAD MAX_PAYLOAD (b ∷ bytes) (lit≤ tt))
    (All-take (λ byte. byte < 256) FRAME_PAYLOAD (b ∷ bytes) are)

pub blocks_are : (most : ℕ) (payload : List ℕ) → AreBytes payload → All IsBlock (blocks_within most payload)
unfolding blocks_within
blocks_are zero payload are = All-nil IsBlock
blocks_are (suc most) [] are = All-nil IsBlock
blocks_are (suc most) (b ∷ bytes) are =
    All-cons IsBlock (plain_block (take FRAME_PAYLOAD (b ∷ bytes))) (blocks_within most (drop FRAME_PAYLOAD (b ∷ bytes))) (block_is b bytes are)
    (blocks_are most (drop FRAME_PAYLOAD (b ∷ bytes)) (All-drop (λ byte. byte < 256) FRAME_PAYLOAD (b ∷ bytes) are))

pub framed : (payload : List ℕ) → AreBytes payload → IsFramed payload (written_frames payload)
framed payload are = (
  blocks_within (length payload) payload,
  record { each = blocks_are (length payload) payload are; bytes = file_is (length payload) payload },
  payload_is (length payload) payload (omega arith),
)
