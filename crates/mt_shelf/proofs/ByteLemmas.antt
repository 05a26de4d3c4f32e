-- Files that hold bytes, as files are put.
use Rattle.std.proofs.Common.{◌≡◌, ◌<◌, ◌∙◌, ℕ, Bool, true, false, cond, List, [], ◌∷◌, ◌++◌, None, Some, Fits, w8, arith, get_or, sym, subst}
use Rattle.std.proofs.lemmas.Cmp.{nat_list_cmp_total}
use Rattle.std.proofs.lemmas.List.Elements.{All-head, All-tail, All-nil, All-cons, All-append, All-from_get_or}
use Rattle.std.specs.Ordering.{nat_cmp, eq_by_cmp}
use Rattle.std.specs.Cmp.Lexicographic.{slice_cmp}
use Rattle.std.specs.FinMap.{get, insert, get-insert, get-empty}
use Rattle.mt_shelf.specs.Bytes.{AreBytes, HasBytes, AllHoldBytes}
use Rattle.mt_shelf.specs.Files.{Files}
use Rattle.mt_shelf.specs.Held.{files_in, with_files}
use Rattle.mt_fault.specs.declared.file.FileBytes.{FileBytes}

-- the numbers of a slice
pub are_bytes : (bytes : List ℕ) → ((i : ℕ) → Fits w8 (get_or bytes i 0)) → AreBytes bytes
are_bytes bytes small = All-from_get_or (λ byte. byte < 256) bytes 0 (λ i inside. omega (arith, small i))

pub no_files : AllHoldBytes []
no_files = All-nil (λ (f : FileBytes). AreBytes f.bytes)

-- with one more file
pub insert_bytes : (files : Files) (path bytes : List ℕ) → HasBytes files → AreBytes bytes → HasBytes (insert files path bytes)
insert_bytes files path bytes before new other found is = by_test (eq_by_cmp (slice_cmp nat_cmp) other path) (sym (get-insert nat_list_cmp_total files path bytes other) ∙ is)
  where
    by_test : (same : Bool) → cond same (Some bytes) (get files other) ≡ Some found → AreBytes found
    by_test true here = let same : bytes ≡ found = cc in subst AreBytes same new
    by_test false there = before other found there

no_file : HasBytes (files_in [])
no_file path bytes is = absurd (none bytes (sym (get-empty (slice_cmp nat_cmp) path) ∙ is))
  where
    none : (bytes : List ℕ) → None ≡ Some bytes → ⊥
    none bytes is = cc

-- a list's files
pub files_in_bytes : (held : List FileBytes) → AllHoldBytes held → HasBytes (files_in held)
files_in_bytes [] all = no_file
files_in_bytes (file ∷ held) all = insert_bytes (files_in held) file.name file.bytes (files_in_bytes held (All-tail (λ (f : FileBytes). AreBytes f.bytes) file held all)) (All-head (λ (f : FileBytes). AreBytes f.bytes) file held all)

-- the files, with a list's put in order
pub with_files_bytes : (held : List FileBytes) (files : Files) → AllHoldBytes held → HasBytes files → HasBytes (with_files held files)
with_files_bytes [] files all before = before
with_files_bytes (file ∷ held) files all before = with_files_bytes held (insert files file.name file.bytes) (All-tail (λ (f : FileBytes). AreBytes f.bytes) file held all) (insert_bytes files file.name file.bytes before (All-head (λ (f : FileBytes). AreBytes f.bytes) file held all))

-- a list with one more file, or as it was
pub push_bytes : (pushed : Bool) (held now : List FileBytes) (file : FileBytes) → now ≡ cond pushed (held ++ file ∷ []) held → AllHoldBytes held → AreBytes file.bytes → AllHoldBytes now
push_bytes true held now file is all new = subst AllHoldBytes (sym is) (All-append (λ (f : FileBytes). AreBytes f.bytes) held (file ∷ []) all (All-cons (λ (f : FileBytes). AreBytes f.bytes) file [] new (All-nil (λ (f : FileBytes). AreBytes f.bytes))))
push_bytes false held now file is all new = subst AllHoldBytes (sym is) all
