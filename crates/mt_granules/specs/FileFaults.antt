-- Faults of the data and marks files: which file, where in it, and why: docs/FORMAT.md, "The first fault".
use Rattle.std.specs.Prelude.{ℕ, ◌∷◌, [], List, Option, Some, None, Result, Ok, Err, option_and_then}
use Rattle.std.specs.Bool.{then_some}
use Rattle.std.specs.List.{list_all}
use Rattle.mt_types.specs.Bytes.{is_byte}
use Rattle.mt_types.specs.Steps.{◌>>=◌, ok_or, onto}
use Rattle.mt_item.specs.declared.fault.CodecWhy.{CodecWhy}
use Rattle.mt_item.specs.declared.fault.CodecWhy.TheVariants as codec
use Rattle.mt_fault.specs.declared.fault.Why.{Why}
use Rattle.mt_fault.specs.declared.fault.Why.TheVariants as why
use Rattle.mt_fault.specs.declared.fault.Fault.{Fault}
use Rattle.mt_fault.specs.Faults.{Judged, file_fault, offset_fault}
use Rattle.mt_frame.specs.declared.fault.FrameWhy.{FrameWhy}
use Rattle.mt_frame.specs.declared.fault.FrameWhy.TheVariants as frame
use Rattle.mt_defs.specs.Folder.{Folder}

-- ---- the faults

-- what is wrong with a frame
abbrev pub frame_why : FrameWhy → Why
frame_why frame.Cut = why.Cut
frame_why frame.Method = why.Method
frame_why frame.Sizes = why.Sizes
frame_why frame.TooLong = why.TooLong

-- at the offset at which no frame stands
abbrev pub frame_fault : List ℕ → ℕ × FrameWhy → Fault
frame_fault file (offset, reason) = offset_fault file offset (frame_why reason)

-- of a marks file: the first broken rule, in the granule of its entry
abbrev pub marks_fault : List ℕ → Option ℕ × Why → Fault
marks_fault file (granule, reason) = record { file = file; granule = granule; at = None; why = reason }

-- what is wrong with the bytes of a substream
abbrev pub codec_why : CodecWhy → Why
codec_why codec.Short = why.Short
codec_why codec.Over = why.Over
codec_why codec.Length = why.Length
codec_why codec.NullByte = why.NullByte
codec_why codec.HasByte = why.HasByte
codec_why codec.TooLong = why.TooLong

-- ---- the steps

-- the file of a name in a folder: a list with a number above 255 is no file
abbrev pub file_at : Folder → List ℕ → Option (List ℕ)
file_at folder name = option_and_then (λ numbers. then_some (list_all is_byte numbers) numbers) (folder name)

-- the bytes of a file, or that it is missing (Missing: 1.1, 2.1, 3.1, 3.3, 6.1, 7.1, 8.1, 8.3)
abbrev pub file_reading : Folder → List ℕ → Judged (List ℕ)
file_reading folder name = ok_or (file_fault name why.Missing) (file_at folder name)

-- what each step gives, or what is wrong with the first that fails
abbrev pub in_order : {A B E : Type 0} → (A → Result B E) → List A → Result (List B) E
in_order step [] = Ok []
in_order step (x ∷ xs) = step x >>= λ y. onto y (in_order step xs)
