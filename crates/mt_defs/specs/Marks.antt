-- Marks of a data file and the positions that they denote: docs/FORMAT.md, "Marks" (ClickHouse: MarkInCompressedFile).
use Rattle.std.specs.Prelude.{◌≡◌, ℕ, ◌+◌, ◌≤◌, ◌<◌, ◌^◌, ◌⊎◌, List, [], ◌∷◌, ◌++◌, length, map, sum, replicate, All}
use Rattle.std.specs.List.{flat_map, zip}
use Rattle.std.specs.List.Sorted.{IsNonDecreasingBy}
use Rattle.std.specs.Int.{w64, to_le_bytes}
use Rattle.mt_defs.specs.declared.mark.Mark.{Mark}
use Rattle.mt_defs.specs.Lists.{Pointwise, offsets_from}
use Rattle.mt_defs.specs.Frames.{Block, IsFileOf, file_of, payload_of}

-- ---- positions

-- the mark denotes a position in a frame's payload, or its end
pub record MarksFrame (blocks : List Block) (mark : Mark) (position : ℕ) : Type 0 where
  pub before : List Block
  pub here : Block
  pub after : List Block
  pub split : blocks ≡ before ++ here ∷ after
  pub at_offset : mark.offset ≡ length (file_of before)
  pub within : mark.inner ≤ length here.payload
  pub at_position : position ≡ length (payload_of before) + mark.inner

-- the mark denotes the end of the file
pub record MarksEnd (blocks : List Block) (mark : Mark) (position : ℕ) : Type 0 where
  pub at_offset : mark.offset ≡ length (file_of blocks)
  pub at_start : mark.inner ≡ 0
  pub at_position : position ≡ length (payload_of blocks)

-- the position in the uncompressed data that a mark denotes
abbrev pub MarksPosition : List ℕ → Mark → ℕ → Type 0
MarksPosition file mark position =
    (blocks : List Block) × IsFileOf blocks file × (MarksFrame blocks mark position ⊎ MarksEnd blocks mark position)

-- ---- marks files

-- a number as UInt64
abbrev pub u64_bytes : ℕ → List ℕ
u64_bytes n = to_le_bytes w64 n

-- a mark: its offset in the file, and its offset in the payload
abbrev pub mark_bytes : Mark → List ℕ
mark_bytes mark = u64_bytes mark.offset ++ u64_bytes mark.inner

-- an entry: the marks of a granule, and its rows
abbrev pub entry_bytes : List Mark → ℕ → List ℕ
entry_bytes marks rows = flat_map mark_bytes marks ++ u64_bytes rows

-- a marks file: an entry per granule, and one for the end
abbrev pub marks_bytes : List (List Mark) → List ℕ → List ℕ
marks_bytes marks rows = flat_map (λ (entry_marks, entry_rows). entry_bytes entry_marks entry_rows) (zip marks rows)

-- where the payloads of each granule begin
abbrev pub granule_starts : ℕ → List (List ℕ) → List (List ℕ)
granule_starts position [] = []
granule_starts position (sizes ∷ granules) = offsets_from position sizes ∷ granule_starts (position + sum sizes) granules

-- The bytes are the marks file of a data file. Each granule has payloads of these sizes, one per mark,
-- and this many rows; a last entry of no rows marks the end. The offsets never fall.
pub record IsMarksFile (per_granule : ℕ) (data_file : List ℕ) (sizes : List (List ℕ)) (granules : List ℕ) (bytes : List ℕ) : Type 0 where
  pub marks : List (List Mark)
  pub encoded : bytes ≡ marks_bytes marks (granules ++ 0 ∷ [])
  pub few_rows : All (λ count. count < 2 ^ 64) granules
  pub few_offsets : All (λ mark. mark.offset < 2 ^ 64) (flat_map (λ entry_marks. entry_marks) marks)
  pub positions : Pointwise (Pointwise (MarksPosition data_file)) marks (granule_starts 0 sizes ++ replicate per_granule (sum (map sum sizes)) ∷ [])
  pub order : IsNonDecreasingBy (λ mark. mark.offset) (flat_map (λ entry_marks. entry_marks) marks)
