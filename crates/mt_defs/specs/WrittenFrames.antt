-- The writer's frames and marks: docs/FORMAT.md, "Frames" and "Marks". Where payloads are cut is this project's choice.
use Rattle.std.specs.Prelude.{ℕ, zero, suc, List, [], ◌∷◌, ◌++◌, length, map, take, drop, sum, replicate}
use Rattle.mt_defs.specs.declared.frame.TheConstants.{CHECKSUM_BYTES, FRAME_PAYLOAD}
use Rattle.mt_defs.specs.declared.mark.Mark.{Mark}
use Rattle.mt_defs.specs.Frames.{block_bytes}
use Rattle.mt_defs.specs.Marks.{marks_bytes, granule_starts}

-- a frame of a payload, with a checksum of zeros
abbrev pub written_frame : List ℕ → List ℕ
written_frame payload = block_bytes (record { checksum = replicate CHECKSUM_BYTES 0; payload = payload })

-- at most so many frames of a payload
abbrev pub frames_within : ℕ → List ℕ → List ℕ
frames_within zero payload = []
frames_within (suc most) [] = []
frames_within (suc most) (byte ∷ bytes) = written_frame (take FRAME_PAYLOAD (byte ∷ bytes)) ++ frames_within most (drop FRAME_PAYLOAD (byte ∷ bytes))

-- the writer's frames of a payload: each of FRAME_PAYLOAD bytes but the last, none for an empty payload
abbrev pub written_frames : List ℕ → List ℕ
written_frames payload = frames_within (length payload) payload

-- the mark at the start of the frame at an offset
abbrev pub mark_at : ℕ → Mark
mark_at offset = record { offset = offset; inner = 0 }

-- the marks of granules whose frames have these sizes, one run of frames per mark, and the marks of the end
abbrev pub written_marks : ℕ → List (List ℕ) → List (List Mark)
written_marks per_granule sizes = map (map mark_at) (granule_starts 0 sizes ++ replicate per_granule (sum (map sum sizes)) ∷ [])

-- the marks file of granules of these rows
abbrev pub written_marks_bytes : ℕ → List (List ℕ) → List ℕ → List ℕ
written_marks_bytes per_granule sizes granules = marks_bytes (written_marks per_granule sizes) (granules ++ 0 ∷ [])
