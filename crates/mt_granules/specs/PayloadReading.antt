-- The payloads of granules, which the marks of a data file cut: docs/FORMAT.md, "Frames" and "Marks"
-- (ClickHouse: MergeTreeReaderStream).
use Rattle.std.specs.Prelude.{◌≡◌, ℕ, ◌+◌, ◌-◌, ◌*◌, ◌==◌, Bool, true, false, List, [], ◌∷◌, length, map, take, drop, sum, Option, Some, None, Result, Ok, Err, unwrap_or, refl}
use Rattle.mt_types.specs.Steps.{◌>>=◌, require, ok_or}
use Rattle.mt_fault.specs.declared.fault.Why.TheVariants as why
use Rattle.mt_defs.specs.declared.frame.Frame.{Frame}
use Rattle.mt_defs.specs.Folder.{Folder}
use Rattle.mt_defs.specs.Frames.{Block, payload_of}
use Rattle.mt_frame.specs.declared.fault.FrameWhy.{FrameWhy}
use Rattle.mt_frame.specs.declared.fault.FrameWhy.TheVariants.{Cut}
use Rattle.mt_frame.specs.declared.frames.Frames.{Frames}
use Rattle.mt_frame.specs.EndToEnd.{lie_end_to_end}
use Rattle.mt_frame.specs.FrameReading.{frames_reading, layout}
use Rattle.mt_marks.specs.declared.marks.Marks.{Marks}
use Rattle.mt_marks.specs.MarkReading.{marks_reading}
use Rattle.mt_marks.specs.Positions.{position_of}
use Rattle.mt_fault.specs.Faults.{Judged, blame, file_fault}
use Rattle.mt_granules.specs.FileFaults.{file_reading, frame_fault, marks_fault}

-- ---- the frames of a data file

-- frames that fill a file of this length, if they lie end to end
abbrev pub frames_where : (frames : List Frame) (end : ℕ) (fill : Bool) → lie_end_to_end 0 frames end ≡ fill → Option Frames
frames_where frames end true fill = Some (record { list = frames; end = end; end_to_end = fill })
frames_where frames end false fill = None

-- where the frames of a file lie; those of a file that is made of frames do lie end to end
abbrev pub frames_in : List ℕ → Result Frames (ℕ × FrameWhy)
frames_in file = do
  blocks ← frames_reading file
  ok_or (length file, Cut) (frames_where (layout blocks) (length file) (lie_end_to_end 0 (layout blocks) (length file)) refl)

-- the payloads of some frames, one after another
abbrev pub payload_read : Result (List Block) (ℕ × FrameWhy) → List ℕ
payload_read (Ok blocks) = payload_of blocks
payload_read (Err fault) = []

-- the payload of a file: empty where it isn't made of frames
abbrev pub payload_in : List ℕ → List ℕ
payload_in file = payload_read (frames_reading file)

-- ---- its marks

-- the rows of the granules: all but the last entry's
abbrev pub granules_of : Marks → List ℕ
granules_of marks = take (length marks.rows - 1) marks.rows

-- the position that a mark denotes; each that keeps the rules has one
abbrev pub positions_of : Frames → Marks → List ℕ
positions_of frames marks = map (λ mark. unwrap_or (position_of frames mark) 0) marks.places

-- what stands between each position and the next
abbrev pub pieces : List ℕ → List ℕ → List (List ℕ)
pieces payload [] = []
pieces payload (from ∷ []) = []
pieces payload (from ∷ to ∷ positions) = take (to - from) (drop from payload) ∷ pieces payload (to ∷ positions)

-- ---- its payloads

-- payloads in the order of their marks, the same number for each granule, and the rows of each granule
pub record GranulePayloads : Type 0 where
  pub payloads : List (List ℕ)
  pub granules : List ℕ

-- how many marks the granules have
abbrev pub mark_count : Marks → ℕ
mark_count marks = length (granules_of marks) * marks.per_granule

-- the payloads of a file, each from the position of its mark to that of the next one
abbrev pub payloads_of : List ℕ → Frames → Marks → GranulePayloads
payloads_of file frames marks =
    record { payloads = pieces (payload_in file) (take (mark_count marks + 1) (positions_of frames marks)); granules = granules_of marks }

-- the payloads of a data file and its marks file: first the frames are judged, and then the marks (3.1 to 3.4)
abbrev pub payloads_reading : Folder → (data_name marks_name : List ℕ) → (per_granule : ℕ) → Judged GranulePayloads
payloads_reading folder data_name marks_name per_granule = do
  file ← file_reading folder data_name
  frames ← blame (frame_fault data_name) (frames_in file)
  bytes ← file_reading folder marks_name
  marks ← blame (marks_fault marks_name) (marks_reading per_granule frames bytes)
  Ok (payloads_of file frames marks)

-- the same of the first marks file of a part, whose rows are so many (3.5)
abbrev pub granules_reading : Folder → (count : ℕ) → (data_name marks_name : List ℕ) → (per_granule : ℕ) → Judged GranulePayloads
granules_reading folder count data_name marks_name per_granule = do
  read ← payloads_reading folder data_name marks_name per_granule
  _ ← require (sum read.granules == count) (file_fault marks_name why.Rows)
  Ok read
