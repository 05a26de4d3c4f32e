-- The loop over a file's frames: what is laid out so far, and what is still read.
use Rattle.std.proofs.Common.{◌≡◌, ℕ, zero, suc, ◌+◌, ◌<◌, ◌≤◌, List, [], ◌∷◌, ◌++◌, length, drop, refl, ap, sym, ◌∙◌, arith, append_assoc, append-nil, subst, true}
use Rattle.std.specs.Prelude.{Result, Ok, Err}
use Rattle.std.proofs.lemmas.Bool.{le-leb, eq-eqb, eqb-true, and_from, and_parts}
use Rattle.std.proofs.lemmas.List.{length-drop, drop-drop, drop_all}
use Rattle.mt_frame.specs.declared.fault.FrameWhy.{FrameWhy}
use Rattle.mt_types.specs.Steps.{◌>>=◌, at, onto}
use Rattle.mt_defs.specs.Frames.{Block, IsFileOf}
use Rattle.mt_defs.specs.declared.frame.TheConstants.{MAX_PAYLOAD}
use Rattle.mt_frame.specs.FrameReading.{frame_reading, frames_from, frames_reading, layout_from, layout}
use Rattle.mt_defs.specs.declared.frame.Frame.{Frame}
use Rattle.mt_types.proofs.StepLemmas.{ok_one}
use Rattle.mt_frame.proofs.BlockLemmas.{frame_shrinks, enough, frames_next, frames_none, frames_sound, BytesAt}
use Rattle.mt_frame.specs.EndToEnd.{lie_end_to_end}

abbrev pub Read : Type 0
Read = Result (List Block) (ℕ × FrameWhy)

-- what was read, as where it lie_end_to_end
abbrev pub laid : ℕ → Read → Result (List Frame) (ℕ × FrameWhy)
laid offset read = read >>= λ blocks. Ok (layout_from offset blocks)

abbrev pub with_first : List Frame → Result (List Frame) (ℕ × FrameWhy) → Result (List Frame) (ℕ × FrameWhy)
with_first first read = read >>= λ fs. Ok (first ++ fs)

-- the loop has come to an offset, and what is left decides
pub record Comes (file : List ℕ) (list : List Frame) (offset : ℕ) : Type 0 where
  pub left : with_first list (laid offset (frames_from (length file) offset (drop offset file))) ≡ laid 0 (frames_reading file)
  pub within : offset ≤ length file
  pub lie : lie_end_to_end 0 list offset ≡ true

pub starts : (file : List ℕ) → Comes file [] 0
starts file = record { left = nothing (laid 0 (frames_reading file)); within = omega arith; lie = refl }
  where
    nothing : (read : Result (List Frame) (ℕ × FrameWhy)) → with_first [] read ≡ read
    nothing (Ok fs) = refl
    nothing (Err e) = refl

pub ends : (file : List ℕ) (list : List Frame) (offset : ℕ) → length file ≤ offset → Comes file list offset → laid 0 (frames_reading file) ≡ Ok list
unfolding layout_from
ends file list offset over had =
    let none : drop offset file ≡ [] = drop_all offset file over in
    sym had.left ∙ ap (λ (bs : List ℕ). with_first list (laid offset (frames_from (length file) offset bs))) none
    ∙ ap (λ (r : Read). with_first list (laid offset r)) (frames_none (length file) offset) ∙ ap (λ (fs : List Frame). let r : Result (List Frame) (ℕ × FrameWhy) = Ok fs in r) (append-nil list)

-- what is read of a file is one step where it isn't empty
one_step : (m offset : ℕ) (bytes : List ℕ) → 0 < length bytes → length bytes ≤ m → frames_from m offset bytes ≡ (at offset (frame_reading bytes) >>= λ first. onto first.0 (frames_from m (offset + (25 + length first.0.payload)) first.1))
one_step m offset [] some long = absurd (omega arith)
one_step zero offset (b ∷ bytes) some long = absurd (omega arith)
one_step (suc m) offset (b ∷ bytes) some long = frames_next m offset b bytes ∙ again (frame_reading (b ∷ bytes)) refl
  where
    again : (r : Result (Block × List ℕ) FrameWhy) → frame_reading (b ∷ bytes) ≡ r →
        (at offset r >>= λ first. onto first.0 (frames_from m (offset + (25 + length first.0.payload)) first.1))
        ≡ (at offset r >>= λ first. onto first.0 (frames_from (suc m) (offset + (25 + length first.0.payload)) first.1))
    again (Err w) e = refl
    again (Ok (c, rest)) e =
        let less = frame_shrinks (b ∷ bytes) c rest e in
        ap (λ (r : Read). onto c r) (enough m (suc m) (offset + (25 + length c.payload)) rest (omega arith) (omega arith))

pub stops : (file : List ℕ) (list : List Frame) (offset : ℕ) (w : FrameWhy) → offset < length file → frame_reading (drop offset file) ≡ Err w → Comes file list offset → frames_reading file ≡ Err (offset, w)
stops file list offset w under bad had =
    let long = length-drop offset file in
    let step = one_step (length file) offset (drop offset file) (omega arith) (omega arith) ∙ ap (λ (r : Result (Block × List ℕ) FrameWhy). at offset r >>= λ first. onto first.0 (frames_from (length file) (offset + (25 + length first.0.payload)) first.1)) bad in
    failed_so (frames_reading file) (offset, w) (sym had.left ∙ ap (λ (r : Read). with_first list (laid offset r)) step)
  where
    failed_so : (r : Read) (e : ℕ × FrameWhy) → laid 0 r ≡ Err e → r ≡ Err e
    failed_so (Ok blocks) e is = cc
    failed_so (Err x) e is = cc

lies_more : (offset : ℕ) (list : List Frame) (end n : ℕ) → 1 ≤ n → n ≤ MAX_PAYLOAD → lie_end_to_end offset list end ≡ true → lie_end_to_end offset (list ++ record { offset = end; payload = n } ∷ []) (end + (25 + n)) ≡ true
lies_more offset [] end n some most h =
    let e = eqb-true _ _ h in
    and_from _ _ (eq-eqb _ _ (sym e)) (and_from _ _ (and_from _ _ (le-leb _ _ some) (le-leb _ _ most)) (eq-eqb _ _ (omega arith)))
lies_more offset (f ∷ fs) end n some most h =
    let p = and_parts _ _ h in
    let q = and_parts _ _ p.1 in
    and_from _ _ p.0 (and_from _ _ q.0 (lies_more (offset + (25 + f.payload)) fs end n some most q.1))

moved : (list : List Frame) (offset : ℕ) (c : Block) (r : Read) → with_first list (laid offset (onto c r)) ≡ with_first (list ++ record { offset = offset; payload = length c.payload } ∷ []) (laid (offset + (25 + length c.payload)) r)
unfolding layout_from
moved list offset c (Err e) = refl
moved list offset c (Ok blocks) = ap (λ (fs : List Frame). let r : Result (List Frame) (ℕ × FrameWhy) = Ok fs in r) (sym (append_assoc list (record { offset = offset; payload = length c.payload } ∷ []) (layout_from (offset + (25 + length c.payload)) blocks)))

pub goes_on : (file : List ℕ) (list : List Frame) (offset n : ℕ) → offset < length file → 1 ≤ n → n ≤ MAX_PAYLOAD → 25 + n ≤ length (drop offset file)
    → ((c : Block) × (n ≡ length c.payload) × (frame_reading (drop offset file) ≡ Ok (c, drop (25 + n) (drop offset file))))
    → Comes file list offset → Comes file (list ++ record { offset = offset; payload = n } ∷ []) (offset + (25 + n))
goes_on file list offset n under some most whole (c, size, is) had =
    subst (λ (k : ℕ). Comes file (list ++ record { offset = offset; payload = k } ∷ []) (offset + (25 + k))) (sym size)
    (record {
      left =
          ap (λ (bs : List ℕ). with_first (list ++ record { offset = offset; payload = length c.payload } ∷ []) (laid (offset + (25 + length c.payload)) (frames_from (length file) (offset + (25 + length c.payload)) bs))) (sym rest_is)
          ∙ sym (moved list offset c (frames_from (length file) (offset + (25 + length c.payload)) (drop (25 + n) (drop offset file))))
          ∙ ap (λ (r : Read). with_first list (laid offset r)) (sym step) ∙ had.left;
      within = omega (arith, length-drop offset file);
      lie = lies_more 0 list offset (length c.payload) (omega arith) (omega arith) had.lie;
    })
  where
    rest_is : drop (25 + n) (drop offset file) ≡ drop (offset + (25 + length c.payload)) file
    rest_is = drop-drop (25 + n) offset file ∙ ap (λ (k : ℕ). drop (offset + (25 + k)) file) size

    step : frames_from (length file) offset (drop offset file) ≡ onto c (frames_from (length file) (offset + (25 + length c.payload)) (drop (25 + n) (drop offset file)))
    step = one_step (length file) offset (drop offset file) (omega (arith, length-drop offset file)) (omega (arith, length-drop offset file))
        ∙ ap (λ (r : Result (Block × List ℕ) FrameWhy). at offset r >>= λ first. onto first.0 (frames_from (length file) (offset + (25 + length first.0.payload)) first.1)) is

-- what was laid out is a list of blocks
pub laid_chunks : (r : Read) (list : List Frame) → laid 0 r ≡ Ok list → (blocks : List Block) × (r ≡ Ok blocks) × (list ≡ layout blocks)
laid_chunks (Ok blocks) list e = (blocks, refl, ok_one _ _ e)
laid_chunks (Err x) list e = cc

pub is_file : (file : List ℕ) (list : List Frame) (offset : ℕ) → BytesAt file → length file ≤ offset → Comes file list offset
    → (blocks : List Block) × IsFileOf blocks file × (list ≡ layout blocks) × (offset ≡ length file)
is_file file list offset are over had =
    let read = laid_chunks (frames_reading file) list (ends file list offset over had) in
    (read.0, frames_sound (length file) 0 file read.0 are read.1, read.2, omega (arith, had.within))
