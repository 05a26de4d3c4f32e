-- A file is made of one list of frames.
use Rattle.std.proofs.Common.{◌≡◌, ℕ, zero, suc, ◌<◌, List, [], ◌∷◌, length, ap, sym, ◌∙◌, subst, arith, lit<}
use Rattle.std.specs.Prelude.{Ok, ◌↔◌}
use Rattle.std.proofs.lemmas.List.Elements.{All-head, All-tail}
use Rattle.mt_defs.specs.Lists.{AreBytes}
use Rattle.mt_defs.specs.Frames.{Block, IsFileOf, IsFramed, file_of, payload_of}
use Rattle.mt_frame.specs.FrameReading.{frames_reading}
use Rattle.mt_types.proofs.StepLemmas.{ok_one}
use Rattle.mt_frame.proofs.BlockLemmas.{BytesAt, frames_complete, frames_exact}

pub one_file : (file : List ℕ) (cs ds : List Block) → IsFileOf cs file → IsFileOf ds file → cs ≡ ds
one_file file cs ds a b =
    let read : (es : List Block) → IsFileOf es file → frames_reading file ≡ Ok es = λ es is. subst (λ (bytes : List ℕ). frames_reading bytes ≡ Ok es) (sym is.bytes) (frames_complete (length (file_of es)) 0 es is.each (omega arith)) in
    ok_one ds cs (sym (read ds b) ∙ read cs a)

pub one_payload : (file p q : List ℕ) → IsFramed p file → IsFramed q file → p ≡ q
one_payload file p q (cs, a, e) (ds, b, f) = e ∙ ap (λ (blocks : List Block). payload_of blocks) (one_file file cs ds a b) ∙ sym f

pub bytes_at : (bytes : List ℕ) → AreBytes bytes → BytesAt bytes
bytes_at [] are i = lit< tt
bytes_at (b ∷ bytes) are zero = All-head (λ byte. byte < 256) b bytes are
bytes_at (b ∷ bytes) are (suc i) = bytes_at bytes (All-tail (λ byte. byte < 256) b bytes are) i

pub read_exactly : (file : List ℕ) (blocks : List Block) → AreBytes file → (frames_reading file ≡ Ok blocks) ↔ (IsFileOf blocks file)
read_exactly file blocks are = frames_exact file blocks (bytes_at file are)
