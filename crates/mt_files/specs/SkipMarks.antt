-- The marks of a skip index, and the entries between them: docs/FORMAT.md, "Skip indexes" and "The first fault".
use Rattle.std.specs.Prelude.{◌≡◌, ℕ, ◌+◌, ◌-◌, ◌==◌, ◌||◌, Bool, false, List, [], ◌∷◌, length, take, drop, Option, Some, None, is_some, option_map, Result, Ok}
use Rattle.mt_types.specs.Steps.{◌>>=◌, ok_or, onto, require}
use Rattle.mt_fault.specs.declared.fault.Fault.{Fault}
use Rattle.mt_fault.specs.declared.fault.Why.TheVariants as why
use Rattle.mt_table.specs.declared.skip.Skip.{Skip}
use Rattle.mt_defs.specs.declared.frame.Frame.{Frame}
use Rattle.mt_defs.specs.declared.mark.Mark.{Mark}
use Rattle.mt_defs.specs.Folder.{Folder}
use Rattle.mt_defs.specs.Frames.{Block, file_of, payload_of}
use Rattle.mt_defs.specs.SkipIndexes.{skip_data_name, skip_marks_name}
use Rattle.mt_frame.specs.FrameReading.{frames_reading, layout}
use Rattle.mt_marks.specs.declared.rules.Former.{Former}
use Rattle.mt_marks.specs.MarkReading.{entries_reading, mark_reading, marks_of}
use Rattle.mt_fault.specs.Faults.{blame, file_fault, granule_fault}
use Rattle.mt_granules.specs.FileFaults.{file_reading, frame_fault}

-- a skip index is there: its data file or its marks file is
abbrev pub has_files : Folder → List ℕ → Skip → Bool
has_files folder marks_ending skip = is_some (folder (skip_data_name skip)) || is_some (folder (skip_marks_name skip marks_ending))

-- ---- frames

-- the frames of a data file
abbrev pub blocks_reading : Folder → List ℕ → Result (List Block) Fault
blocks_reading folder name = do
  bytes ← file_reading folder name
  blame (frame_fault name) (frames_reading bytes)

-- ---- marks

-- the positions of marks, of which each stands for so many granules; none marks the end (8.5)
unfoldable pub positions_reading : List ℕ → ℕ → ℕ → List Frame → ℕ → Option Former → List Mark → Result (List ℕ) Fault
positions_reading file per_entry end frames granule former [] = Ok []
positions_reading file per_entry end frames granule former (mark ∷ marks) = do
  here ← blame (granule_fault file granule) (mark_reading end frames false former mark)
  onto here.position (positions_reading file per_entry end frames (granule + per_entry) (Some here) marks)

-- so many marks of a file (8.4)
abbrev pub skip_marks_reading : List ℕ → ℕ → List ℕ → Result (List Mark) Fault
skip_marks_reading file count bytes = do
  marks ← ok_or (file_fault file why.Length) (option_map (marks_of 1) (entries_reading 1 bytes))
  _ ← require (length marks.places == count) (file_fault file why.Length)
  Ok marks.places

-- ---- entries

-- what stands from each position to the next, or to the end
abbrev pub pieces_at : List ℕ → List ℕ → List (List ℕ)
pieces_at payload [] = []
pieces_at payload (position ∷ []) = drop position payload ∷ []
pieces_at payload (position ∷ next ∷ positions) = take (next - position) (drop position payload) ∷ pieces_at payload (next ∷ positions)

-- the entries of an index, so many, in a part whose marks files have this ending (8.1 to 8.5)
unfoldable pub index_entries : Folder → List ℕ → Skip → ℕ → Result (List (List ℕ)) Fault
index_entries folder marks_ending skip count = do
  blocks ← blocks_reading folder (skip_data_name skip)
  bytes ← file_reading folder (skip_marks_name skip marks_ending)
  marks ← skip_marks_reading (skip_marks_name skip marks_ending) count bytes
  positions ← positions_reading (skip_marks_name skip marks_ending) skip.granularity (length (file_of blocks)) (layout blocks) 0 None marks
  Ok (pieces_at (payload_of blocks) positions)

-- the first of the entries that begin at some positions, and where the others begin
abbrev pub IsFirstEntry : List ℕ → List ℕ → Option (List ℕ × List ℕ) → Type 0
IsFirstEntry payload positions (Some (entry, later)) = pieces_at payload positions ≡ entry ∷ pieces_at payload later
IsFirstEntry payload positions None = positions ≡ []
