-- The files of a folder are bytes, and so are frames and marks.
use Rattle.std.proofs.Common.{◌≡◌, ℕ, ◌<◌, Bool, true, false, List, [], ◌∷◌, ◌++◌, ◌+◌, length, Option, Some, None, refl, ap, sym, ◌∙◌, subst, lit<}
use Rattle.std.specs.Prelude.{All, Ok, Err, option_and_then}
use Rattle.std.specs.Bool.{then_some}
use Rattle.std.specs.List.{flat_map, list_all}
use Rattle.std.specs.Int.{w32, w64, to_le_bytes}
use Rattle.std.proofs.lemmas.List.Elements.{All-nil, All-cons, All-head, All-tail, All-append}
use Rattle.std.proofs.lemmas.Option.{option_and_then_some}
use Rattle.mt_types.specs.Bytes.{is_byte}
use Rattle.mt_types.specs.Steps.{ok_or}
use Rattle.mt_types.proofs.StepLemmas.{ok_one}
use Rattle.mt_fault.specs.declared.fault.Why.TheVariants as why
use Rattle.mt_defs.specs.declared.frame.TheConstants.{METHOD_NONE, SIZES_EXTRA}
use Rattle.mt_defs.specs.declared.mark.Mark.{Mark}
use Rattle.mt_defs.specs.Folder.{Folder}
use Rattle.mt_defs.specs.Frames.{Block, IsBlock, IsFileOf, block_bytes, file_of}
use Rattle.mt_defs.specs.Lists.{AreBytes}
use Rattle.mt_defs.specs.Marks.{entry_bytes, mark_bytes, marks_bytes, u64_bytes}
use Rattle.mt_item.proofs.ItemBytes.{number_bytes, IsByte}
use Rattle.mt_fault.specs.Faults.{file_fault}
use Rattle.mt_defs.proofs.ListLemmas.{bytes_tested, tested_bytes}
use Rattle.mt_granules.specs.FileFaults.{file_at, file_reading}

-- ---- files

-- the list at a name, where it is one of bytes
pub file_there : (folder : Folder) (name file : List ℕ) → folder name ≡ Some file → AreBytes file → file_at folder name ≡ Some file
file_there folder name file is are = ap (option_and_then (λ numbers. then_some (list_all is_byte numbers) numbers)) is ∙ ap (λ (b : Bool). then_some b file) (bytes_tested file are)

pub no_file : (folder : Folder) (name : List ℕ) → folder name ≡ None → file_at folder name ≡ None
no_file folder name is = ap (option_and_then (λ numbers. then_some (list_all is_byte numbers) numbers)) is

-- what a folder has a file of
pub record IsFileAt (folder : Folder) (name file : List ℕ) : Type 0 where
  pub has : folder name ≡ Some file
  pub bytes : AreBytes file

pub file_of_name : (folder : Folder) (name file : List ℕ) → file_at folder name ≡ Some file → IsFileAt folder name file
file_of_name folder name file e =
    option_and_then_some _ (folder name) file e (λ numbers has tested.
    by numbers (list_all is_byte numbers) refl has tested)
  where
    by : (numbers : List ℕ) (b : Bool) → list_all is_byte numbers ≡ b → folder name ≡ Some numbers → then_some b numbers ≡ Some file → IsFileAt folder name file
    by numbers false is has tested = cc
    by numbers true is has tested =
        let same : numbers ≡ file = cc in
        record { has = has ∙ ap (λ (f : List ℕ). Some f) same; bytes = subst AreBytes same (tested_bytes numbers is) }

pub file_is_read : (folder : Folder) (name file : List ℕ) → folder name ≡ Some file → AreBytes file → file_reading folder name ≡ Ok file
file_is_read folder name file is are = ap (ok_or (file_fault name why.Missing)) (file_there folder name file is are)

pub file_was_read : (folder : Folder) (name file : List ℕ) → file_reading folder name ≡ Ok file → IsFileAt folder name file
file_was_read folder name file e = file_of_name folder name file (found (file_at folder name) e)
  where
    found : (o : Option (List ℕ)) → ok_or (file_fault name why.Missing) o ≡ Ok file → o ≡ Some file
    found (Some bytes) e = ap (λ (b : List ℕ). Some b) (sym (ok_one _ _ e))
    found None e = cc

pub file_is_missing : (folder : Folder) (name : List ℕ) → folder name ≡ None → file_reading folder name ≡ Err (file_fault name why.Missing)
file_is_missing folder name is = ap (ok_or (file_fault name why.Missing)) (no_file folder name is)

-- ---- frames

block_is_bytes : (block : Block) → IsBlock block → AreBytes (block_bytes block)
block_is_bytes block is =
    let sizes = to_le_bytes w32 (length block.payload + SIZES_EXTRA) in
    let size = to_le_bytes w32 (length block.payload) in
    All-append IsByte block.checksum (METHOD_NONE ∷ (sizes ++ (size ++ block.payload))) is.checksum_bytes
    (All-cons IsByte METHOD_NONE (sizes ++ (size ++ block.payload)) (lit< tt)
    (All-append IsByte sizes (size ++ block.payload) (number_bytes w32 (length block.payload + SIZES_EXTRA)) (All-append IsByte size block.payload (number_bytes w32 (length block.payload)) is.payload_bytes)))

blocks_are_bytes : (blocks : List Block) → All IsBlock blocks → AreBytes (file_of blocks)
blocks_are_bytes [] are = All-nil IsByte
blocks_are_bytes (b ∷ blocks) are = All-append IsByte (block_bytes b) (file_of blocks) (block_is_bytes b (All-head IsBlock b blocks are)) (blocks_are_bytes blocks (All-tail IsBlock b blocks are))

pub frames_are_bytes : (blocks : List Block) (file : List ℕ) → IsFileOf blocks file → AreBytes file
frames_are_bytes blocks file is = subst AreBytes (sym is.bytes) (blocks_are_bytes blocks is.each)

-- ---- marks

mark_is_bytes : (mark : Mark) → AreBytes (mark_bytes mark)
mark_is_bytes mark = All-append IsByte (u64_bytes mark.offset) (u64_bytes mark.inner) (number_bytes w64 mark.offset) (number_bytes w64 mark.inner)

pub all_mark_bytes : (marks : List Mark) → AreBytes (flat_map mark_bytes marks)
all_mark_bytes [] = All-nil IsByte
all_mark_bytes (m ∷ marks) = All-append IsByte (mark_bytes m) (flat_map mark_bytes marks) (mark_is_bytes m) (all_mark_bytes marks)

pub marks_are_bytes : (marks : List (List Mark)) (rows : List ℕ) → AreBytes (marks_bytes marks rows)
marks_are_bytes [] rows = All-nil IsByte
marks_are_bytes (m ∷ marks) [] = All-nil IsByte
marks_are_bytes (m ∷ marks) (r ∷ rows) =
    All-append IsByte (entry_bytes m r) (marks_bytes marks rows) (All-append IsByte (flat_map mark_bytes m) (u64_bytes r) (all_mark_bytes m) (number_bytes w64 r)) (marks_are_bytes marks rows)
