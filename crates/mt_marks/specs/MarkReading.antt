-- The marks of a marks file, or the first broken rule and its granule: docs/FORMAT.md, "Marks".
use Rattle.std.specs.Prelude.{ℕ, zero, suc, ◌+◌, ◌*◌, ◌/◌, ◌%◌, ◌^◌, nat_lt, nat_le, ◌==◌, ◌&&◌, ◌||◌, not, Bool, true, false, if◌then◌else◌, List, [], ◌∷◌, length, map, take, drop, sum, Option, Some, None, Result, Ok, Err}
use Rattle.std.specs.List.{flat_map}
use Rattle.std.specs.Int.{w64, from_le_bytes}
use Rattle.mt_fault.specs.declared.fault.Why.{Why}
use Rattle.mt_fault.specs.declared.fault.Why.TheVariants as why
use Rattle.mt_defs.specs.declared.frame.Frame.{Frame}
use Rattle.mt_defs.specs.declared.mark.Mark.{Mark}
use Rattle.mt_frame.specs.declared.frames.Frames.{Frames}
use Rattle.mt_types.specs.Steps.{◌>>=◌, ok_or, require, at}
use Rattle.mt_marks.specs.declared.marks.Marks.{Marks}
use Rattle.mt_marks.specs.declared.rules.Former.{Former}
use Rattle.mt_marks.specs.Entries.{Entry}
use Rattle.mt_marks.specs.Positions.{position_from}

-- ---- the numbers as they stand

-- the little-endian number at an offset
abbrev pub u64_at : ℕ → List ℕ → ℕ
u64_at offset bytes = from_le_bytes w64 (take 8 (drop offset bytes))

-- the bytes of an entry: two numbers a mark, and one of rows
abbrev pub entry_len : ℕ → ℕ
entry_len per_granule = 16 * per_granule + 8

-- so many marks from the start of some bytes
unfoldable pub marks_from : ℕ → List ℕ → List Mark
marks_from zero bytes = []
marks_from (suc n) bytes = record { offset = u64_at 0 bytes; inner = u64_at 8 bytes } ∷ marks_from n (drop 16 bytes)

-- so many entries from the start of some bytes
unfoldable pub entries_from : ℕ → ℕ → List ℕ → List Entry
entries_from per_granule zero bytes = []
entries_from per_granule (suc n) bytes =
    record { marks = marks_from per_granule bytes; rows = u64_at (16 * per_granule) bytes } ∷ entries_from per_granule n (drop (entry_len per_granule) bytes)

-- all entries, where the size is a whole number of them
abbrev pub entries_reading : ℕ → List ℕ → Option (List Entry)
entries_reading per_granule bytes =
    if length bytes % entry_len per_granule == 0 then Some (entries_from per_granule (length bytes / entry_len per_granule) bytes) else None

-- the entries, as a list of marks and one of rows
abbrev pub marks_of : ℕ → List Entry → Marks
marks_of per_granule entries = record { per_granule = per_granule; places = flat_map (λ entry. entry.marks) entries; rows = map (λ entry. entry.rows) entries }

-- ---- the rules

-- the offset of the mark before, 0 before the first
abbrev pub offset_before : Option Former → ℕ
offset_before None = 0
offset_before (Some former) = former.offset

-- the position of the mark before, 0 before the first
abbrev pub position_before : Option Former → ℕ
position_before None = 0
position_before (Some former) = former.position

-- the uncompressed length of a file of these frames
abbrev pub payload_len : List Frame → ℕ
payload_len frames = sum (map (λ frame. frame.payload) frames)

-- the first mark of the file is at position 0, and each mark of an entry for the end at the end
abbrev pub is_placed : Option Former → Bool → ℕ → ℕ → Bool
is_placed None last end position = (position == 0) && (not last || (position == end))
is_placed (Some former) last end position = not last || (position == end)

-- A mark with its position, or the first rule that it breaks, in a data file of these frames, which ends
-- there. The mark before it is given, and whether it marks the end, as no mark of a skip index does (M4 to M7).
unfoldable pub mark_reading : ℕ → List Frame → Bool → Option Former → Mark → Result Former Why
mark_reading end frames last former mark = do
  _ ← require (nat_le (offset_before former) mark.offset) why.Order
  position ← ok_or why.Place (position_from 0 end frames mark)
  _ ← require (is_placed former last (payload_len frames) position) why.Place
  _ ← require (nat_le (position_before former) position) why.Order
  Ok (record { offset = mark.offset; position = position })

-- an entry's marks, and the last of them
unfoldable pub last_reading : Frames → Bool → Option Former → List Mark → Result (Option Former) Why
last_reading frames last former [] = Ok former
last_reading frames last former (mark ∷ marks) = do
  here ← mark_reading frames.end frames.list last former mark
  last_reading frames last (Some here) marks

-- an entry's rows, with the rows up to it: none in the last entry (M3)
abbrev pub are_rows : Bool → ℕ → ℕ → Bool
are_rows true rows total = rows == 0
are_rows false rows total = nat_le 1 rows && nat_lt total (2 ^ 64)

-- whether no entry follows
abbrev pub is_last : List Entry → Bool
is_last [] = true
is_last (entry ∷ entries) = false

-- the entries from a granule on, with the rows and the mark before them (M3)
unfoldable pub rules_reading : Frames → ℕ → ℕ → Option Former → List Entry → Result (Unit {0}) (ℕ × Why)
rules_reading frames granule rows former [] = Ok tt
rules_reading frames granule rows former (entry ∷ entries) = do
  _ ← at granule (require (are_rows (is_last entries) entry.rows (rows + entry.rows)) why.Rows)
  here ← at granule (last_reading frames (is_last entries) former entry.marks)
  rules_reading frames (granule + 1) (rows + entry.rows) here entries

-- a fault's granule, as the readers name it
abbrev pub in_granule : {A : Type 0} → Result A (ℕ × Why) → Result A (Option ℕ × Why)
in_granule (Ok x) = Ok x
in_granule (Err (granule, w)) = Err (Some granule, w)

-- the marks of a file whose frames these are, or the first broken rule and its granule (M1, M2)
abbrev pub marks_reading : ℕ → Frames → List ℕ → Result Marks (Option ℕ × Why)
marks_reading per_granule frames bytes = do
  entries ← ok_or (None, why.Length) (entries_reading per_granule bytes)
  _ ← require (nat_le 2 (length entries)) (None, why.Length)
  _ ← in_granule (rules_reading frames 0 0 None entries)
  Ok (marks_of per_granule entries)
