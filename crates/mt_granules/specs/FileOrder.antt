-- Files in the byte order of their names.
use Rattle.std.specs.Prelude.{◌≡◌, ℕ, ◌≤◌, ◌<◌, true, false, List, length, map, slice_index_or}
use Rattle.std.specs.Borrow.{Bor}
use Rattle.std.specs.Ordering.{nat_cmp, is_lt}
use Rattle.std.specs.Cmp.Lexicographic.{slice_cmp}
use Rattle.std.specs.declared.cmp.Ordering.{Ordering}
use Rattle.mt_fault.specs.declared.file.FileBytes.{FileBytes}

-- the files that some references point to
abbrev pub referenced_files : List (Bor FileBytes) → List FileBytes
referenced_files files = map (λ file. file.now) files

-- files compare by the bytes of their names
abbrev pub name_cmp : FileBytes → FileBytes → Ordering
name_cmp a b = slice_cmp nat_cmp a.name b.name

-- the files before an index have lesser names, and no others
pub record IsLowerBound (name : List ℕ) (files : List FileBytes) (index : ℕ) : Type 0 where
  pub within : index ≤ length files
  pub below : (k : ℕ) (d : FileBytes) → k < index → is_lt (slice_cmp nat_cmp (slice_index_or files k d).name name) ≡ true
  pub above : (k : ℕ) (d : FileBytes) → index ≤ k → k < length files → is_lt (slice_cmp nat_cmp (slice_index_or files k d).name name) ≡ false
