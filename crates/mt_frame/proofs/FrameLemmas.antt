-- The writer's frames, one at a time.
use Rattle.std.proofs.Common.{◌≡◌, ℕ, ◌-◌, ◌≤◌, min, List, ◌++◌, length, take, drop, ap, sym, ◌∙◌, append_assoc}
use Rattle.std.proofs.lemmas.List.{take_min, drop_min}
use Rattle.mt_defs.specs.declared.frame.TheConstants.{FRAME_PAYLOAD}
use Rattle.mt_defs.specs.WrittenFrames.{written_frame, written_frames}
use Rattle.mt_defs.proofs.FrameLemmas.{written_frames_next}

-- a step of the writer: what is left of the payload gives the frames that are left
pub frames_step : (whole out more rest piece after : List ℕ) (n : ℕ) → n ≡ min FRAME_PAYLOAD (length rest) → piece ≡ take n rest → after ≡ drop n rest
    → 1 ≤ length rest → more ≡ out ++ written_frame piece → whole ≡ out ++ written_frames rest → whole ≡ more ++ written_frames after
frames_step whole out more rest piece after n least front back some one all =
    let piece_is : piece ≡ take FRAME_PAYLOAD rest = front ∙ ap (λ k. take k rest) least ∙ take_min FRAME_PAYLOAD rest in
    let after_is : after ≡ drop FRAME_PAYLOAD rest = back ∙ ap (λ k. drop k rest) least ∙ drop_min FRAME_PAYLOAD rest in
    all ∙ ap (λ l. out ++ l) (written_frames_next rest some) ∙ sym (append_assoc out (written_frame (take FRAME_PAYLOAD rest)) (written_frames (drop FRAME_PAYLOAD rest)))
    ∙ ap (λ l. (out ++ written_frame l) ++ written_frames (drop FRAME_PAYLOAD rest)) (sym piece_is)
    ∙ ap (λ l. l ++ written_frames (drop FRAME_PAYLOAD rest)) (sym one) ∙ ap (λ l. more ++ written_frames l) (sym after_is)
