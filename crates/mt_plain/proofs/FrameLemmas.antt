-- The writer's frames, one at a time.
use Rattle.std.proofs.Common.{◌≡◌, ℕ, ◌-◌, ◌≤◌, min, List, ◌++◌, length, take, drop, ap, sym, ◌∙◌, append_assoc}
use Rattle.std.proofs.lemmas.List.{take_min, drop_min}
use Rattle.mt_defs.specs.declared.frame.TheConstants.{FRAME_PAYLOAD}
use Rattle.mt_defs.specs.WrittenFrames.{written_frame, written_frames}
use Rattle.mt_defs.proofs.FrameLemmas.{written_frames_next}

-- a step of the loop
pub frames_step : (all out more rest piece after : List ℕ) (n : ℕ) → n ≡ min FRAME_PAYLOAD (length rest) → piece ≡ take n rest → after ≡ drop n rest
    → 1 ≤ length rest → more ≡ out ++ written_frame piece → out ++ written_frames rest ≡ all → more ++ written_frames after ≡ all
frames_step all out more rest piece after n least front back some one ahead =
    let piece_is : piece ≡ take FRAME_PAYLOAD rest = front ∙ ap (λ k. take k rest) least ∙ take_min FRAME_PAYLOAD rest in
    let after_is : after ≡ drop FRAME_PAYLOAD rest = back ∙ ap (λ k. drop k rest) least ∙ drop_min FRAME_PAYLOAD rest in
    ap (λ l. l ++ written_frames after) one ∙ append_assoc out (written_frame piece) (written_frames after)
    ∙ ap (λ p. out ++ (written_frame p ++ written_frames after)) piece_is ∙ ap (λ a. out ++ (written_frame (take FRAME_PAYLOAD rest) ++ written_frames a)) after_is
    ∙ ap (λ l. out ++ l) (sym (written_frames_next rest some)) ∙ ahead
