use Rattle.std.proofs.Common.{◌≡◌, List, take, drop}
use Rattle.mt_defs.specs.Frames.{Block, IsFileOf, file_of, payload_of}
use Rattle.mt_frame.specs.FrameReading.{layout}
use Rattle.mt_files.proofs.skip_entries.payload_of.Given as goal

abbrev pub invariant-loop-frame : goal.invariant-loop-frame
invariant-loop-frame l =
    (blocks : List Block) → IsFileOf blocks l.file → l.frames.list ≡ layout blocks → (l.payload ≡ payload_of (take l.frame-index blocks)) × (l.rest ≡ file_of (drop l.frame-index blocks))
