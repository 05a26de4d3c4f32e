-- A mark denotes a position exactly where it stands between two frames of the file.
use Rattle.std.proofs.Common.{inl, inr, ◌≡◌, ℕ, ◌+◌, ◌≤◌, List, [], ◌∷◌, ◌++◌, length, ap, sym, ◌∙◌, arith, subst, append-nil}
use Rattle.mt_defs.specs.declared.mark.Mark.{Mark}
use Rattle.mt_defs.specs.Frames.{Block, IsFileOf, file_of, payload_of}
use Rattle.mt_defs.specs.Marks.{MarksPosition}
use Rattle.mt_frame.proofs.LawLemmas.{one_file}
use Rattle.mt_stream.specs.declared.stream.FrameStream.{FrameStream}
use Rattle.mt_stream.specs.Touched.{MarksBlocks}
use Rattle.mt_stream.specs.Held.{IsBehind}

-- the payload of the first frame, if one is there
abbrev pub first_len : List Block → ℕ
first_len [] = 0
first_len (c ∷ cs) = length c.payload

-- the frames before a mark and those from it on
pub record MarkSplit (blocks : List Block) (m : Mark) (n : ℕ) : Type 0 where
  pub before : List Block
  pub rest : List Block
  pub split : blocks ≡ before ++ rest
  pub offset : m.offset ≡ length (file_of before)
  pub within : m.inner ≤ first_len rest
  pub position : n ≡ length (payload_of before) + m.inner

pub mark_split : (blocks : List Block) (m : Mark) (n : ℕ) → MarksBlocks blocks m n → MarkSplit blocks m n
mark_split blocks m n (inl at) = record { before = at.before; rest = at.here ∷ at.after; split = at.split; offset = at.at_offset; within = at.within; position = at.at_position }
mark_split blocks m n (inr at) = record { before = blocks; rest = []; split = sym (append-nil blocks); offset = at.at_offset; within = omega (arith, at.at_start); position = omega (arith, at.at_position, at.at_start) }

-- the same split, by what its rest is
pub split_on : (before after : List Block) {blocks rest : List Block} → blocks ≡ before ++ rest → rest ≡ after → blocks ≡ before ++ after
split_on before after split is = split ∙ ap (λ (cs : List Block). before ++ cs) is

-- a file has one list of frames
pub marks_blocks : (file : List ℕ) (blocks : List Block) (m : Mark) (n : ℕ) → IsFileOf blocks file → MarksPosition file m n → MarksBlocks blocks m n
marks_blocks file blocks m n is (others, is_others, at) = subst (λ (cs : List Block). MarksBlocks cs m n) (one_file file others blocks is_others is) at

-- what lies behind an offset lies behind each later one
pub still_behind : (s : FrameStream) (a b : ℕ) → a ≤ b → IsBehind s a → IsBehind s b
still_behind s a b le had some = omega (arith, le, had some)
