-- The files of a skip index, step by step.
use Rattle.std.proofs.Common.{◌≡◌, ℕ, List, length, refl, ap, sym, subst, ◌∙◌}
use Rattle.std.specs.Prelude.{None, Result, Ok}
use Rattle.mt_fault.specs.declared.fault.Fault.{Fault}
use Rattle.mt_fault.specs.declared.error.FileError.{FileError}
use Rattle.mt_types.specs.Steps.{◌>>=◌}
use Rattle.mt_types.proofs.StepLemmas.{then_of}
use Rattle.mt_table.specs.declared.skip.Skip.{Skip}
use Rattle.mt_defs.specs.declared.frame.Frame.{Frame}
use Rattle.mt_defs.specs.declared.mark.Mark.{Mark}
use Rattle.mt_defs.specs.Folder.{Folder}
use Rattle.mt_defs.specs.Frames.{Block, IsFileOf, file_of, payload_of}
use Rattle.mt_defs.specs.SkipIndexes.{skip_data_name, skip_marks_name}
use Rattle.mt_frame.specs.FrameReading.{frames_reading, layout}
use Rattle.mt_fault.specs.Faults.{blame}
use Rattle.mt_granules.specs.FileFaults.{file_reading, frame_fault}
use Rattle.mt_fault.specs.Results.{FailsAs}
use Rattle.mt_files.specs.SkipMarks.{blocks_reading, index_entries, skip_marks_reading, pieces_at, positions_reading}
use Rattle.mt_fault.proofs.FaultLemmas.{fails_then}

abbrev Entries : Type 0
Entries = Result (List (List ℕ)) Fault

abbrev pub positions_of : List ℕ → ℕ → List Block → List Mark → Result (List ℕ) Fault
positions_of file per blocks marks = positions_reading file per (length (file_of blocks)) (layout blocks) 0 None marks

abbrev after_marks : List ℕ → ℕ → List Block → List Mark → Entries
after_marks file per blocks marks = positions_of file per blocks marks >>= λ positions. Ok (pieces_at (payload_of blocks) positions)

abbrev after_bytes : List ℕ → ℕ → ℕ → List Block → List ℕ → Entries
after_bytes file per count blocks bytes = skip_marks_reading file count bytes >>= after_marks file per blocks

abbrev after_blocks : Folder → List ℕ → ℕ → ℕ → List Block → Entries
after_blocks folder file per count blocks = file_reading folder file >>= after_bytes file per count blocks

abbrev frames_of : List ℕ → List ℕ → Result (List Block) Fault
frames_of name bytes = blame (frame_fault name) (frames_reading bytes)

entries_are : (folder : Folder) (ending : List ℕ) (skip : Skip) (count : ℕ) → index_entries folder ending skip count ≡ (blocks_reading folder (skip_data_name skip) >>= after_blocks folder (skip_marks_name skip ending) skip.granularity count)
unfolding index_entries
entries_are folder ending skip count = refl

module _ (folder : Folder) (ending : List ℕ) (skip : Skip) (count : ℕ) where
  abbrev whole : Entries
  whole = index_entries folder ending skip count

  abbrev data_file : List ℕ
  data_file = skip_data_name skip

  abbrev marks_file : List ℕ
  marks_file = skip_marks_name skip ending

  pub data_fails : (name : List ℕ) (e : FileError) → name ≡ data_file → FailsAs e (file_reading folder name) → FailsAs e whole
  data_fails name e named fails =
      subst (FailsAs e) (sym (entries_are folder ending skip count))
      (fails_then e (blocks_reading folder data_file) (after_blocks folder marks_file skip.granularity count)
      (fails_then e (file_reading folder data_file) (frames_of data_file) (subst (λ (n : List ℕ). FailsAs e (file_reading folder n)) named fails)))

  blocks_are : (name bytes : List ℕ) → name ≡ data_file → file_reading folder name ≡ Ok bytes → blocks_reading folder data_file ≡ frames_of data_file bytes
  blocks_are name bytes named is = then_of (file_reading folder data_file) bytes (frames_of data_file) (ap (file_reading folder) (sym named) ∙ is)

  pub frames_fail : (name again bytes : List ℕ) (e : FileError) → name ≡ data_file → file_reading folder name ≡ Ok bytes → again ≡ data_file → FailsAs e (blame (frame_fault again) (frames_reading bytes)) → FailsAs e whole
  frames_fail name again bytes e named is same fails =
      subst (FailsAs e) (sym (entries_are folder ending skip count))
      (fails_then e (blocks_reading folder data_file) (after_blocks folder marks_file skip.granularity count)
      (subst (FailsAs e) (sym (blocks_are name bytes named is)) (subst (λ (n : List ℕ). FailsAs e (frames_of n bytes)) same fails)))

  -- the frames are read: what follows decides
  behind_blocks : (name again bytes : List ℕ) (blocks : List Block) → name ≡ data_file → file_reading folder name ≡ Ok bytes → again ≡ data_file → blame (frame_fault again) (frames_reading bytes) ≡ Ok blocks
      → whole ≡ after_blocks folder marks_file skip.granularity count blocks
  behind_blocks name again bytes blocks named is same reads =
      entries_are folder ending skip count
      ∙ then_of (blocks_reading folder data_file) blocks (after_blocks folder marks_file skip.granularity count) (blocks_are name bytes named is ∙ ap (λ (n : List ℕ). frames_of n bytes) (sym same) ∙ reads)

  pub marks_missing : (name again bytes other : List ℕ) (blocks : List Block) (e : FileError) → name ≡ data_file → file_reading folder name ≡ Ok bytes → again ≡ data_file → blame (frame_fault again) (frames_reading bytes) ≡ Ok blocks
      → other ≡ marks_file → FailsAs e (file_reading folder other) → FailsAs e whole
  marks_missing name again bytes other blocks e named is same reads marked fails =
      subst (FailsAs e) (sym (behind_blocks name again bytes blocks named is same reads))
      (fails_then e (file_reading folder marks_file) (after_bytes marks_file skip.granularity count blocks) (subst (λ (n : List ℕ). FailsAs e (file_reading folder n)) marked fails))

  -- so does what follows the marks file
  pub behind_bytes : (name again bytes other marks : List ℕ) (blocks : List Block) → name ≡ data_file → file_reading folder name ≡ Ok bytes → again ≡ data_file → blame (frame_fault again) (frames_reading bytes) ≡ Ok blocks
      → other ≡ marks_file → file_reading folder other ≡ Ok marks → whole ≡ after_bytes marks_file skip.granularity count blocks marks
  behind_bytes name again bytes other marks blocks named is same reads marked there =
      behind_blocks name again bytes blocks named is same reads
      ∙ then_of (file_reading folder marks_file) marks (after_bytes marks_file skip.granularity count blocks) (ap (file_reading folder) (sym marked) ∙ there)

  pub marks_fail : (bytes name : List ℕ) (blocks : List Block) (e : FileError) → whole ≡ after_bytes marks_file skip.granularity count blocks bytes → name ≡ marks_file → FailsAs e (skip_marks_reading name count bytes) → FailsAs e whole
  marks_fail bytes name blocks e ahead named fails =
      subst (FailsAs e) (sym ahead)
      (fails_then e (skip_marks_reading marks_file count bytes) (after_marks marks_file skip.granularity blocks) (subst (λ (n : List ℕ). FailsAs e (skip_marks_reading n count bytes)) named fails))

  pub behind_marks : (bytes name : List ℕ) (blocks : List Block) (marks : List Mark) → whole ≡ after_bytes marks_file skip.granularity count blocks bytes → name ≡ marks_file → skip_marks_reading name count bytes ≡ Ok marks
      → whole ≡ after_marks marks_file skip.granularity blocks marks
  behind_marks bytes name blocks marks ahead named reads =
      ahead ∙ then_of (skip_marks_reading marks_file count bytes) marks (after_marks marks_file skip.granularity blocks) (ap (λ (n : List ℕ). skip_marks_reading n count bytes) (sym named) ∙ reads)

  positions_are : (file data_bytes : List ℕ) (end : ℕ) (frames : List Frame) (blocks : List Block) (marks items : List Mark) → file ≡ marks_file → IsFileOf blocks data_bytes → frames ≡ layout blocks → end ≡ length data_bytes → items ≡ marks
      → positions_reading file skip.granularity end frames 0 None items ≡ positions_of marks_file skip.granularity blocks marks
  positions_are file data_bytes end frames blocks marks items named is laid ends same =
      ap (λ (n : List ℕ). positions_reading n skip.granularity end frames 0 None items) named ∙ ap (λ (fs : List Frame). positions_reading marks_file skip.granularity end fs 0 None items) laid
      ∙ ap (λ n. positions_reading marks_file skip.granularity n (layout blocks) 0 None items) (ends ∙ ap length is.bytes) ∙ ap (positions_of marks_file skip.granularity blocks) same

  pub positions_fail : (file data_bytes : List ℕ) (end : ℕ) (frames : List Frame) (blocks : List Block) (marks items : List Mark) (e : FileError) → whole ≡ after_marks marks_file skip.granularity blocks marks → file ≡ marks_file → IsFileOf blocks data_bytes
      → frames ≡ layout blocks → end ≡ length data_bytes → items ≡ marks → FailsAs e (positions_reading file skip.granularity end frames 0 None items) → FailsAs e whole
  positions_fail file data_bytes end frames blocks marks items e ahead named is laid ends same fails =
      subst (FailsAs e) (sym ahead)
      (fails_then e (positions_of marks_file skip.granularity blocks marks) (λ positions. Ok (pieces_at (payload_of blocks) positions)) (subst (FailsAs e) (positions_are file data_bytes end frames blocks marks items named is laid ends same) fails))

  pub entries_read : (file data_bytes payload : List ℕ) (end : ℕ) (frames : List Frame) (blocks : List Block) (marks items : List Mark) (positions : List ℕ) → whole ≡ after_marks marks_file skip.granularity blocks marks → file ≡ marks_file → IsFileOf blocks data_bytes
      → frames ≡ layout blocks → end ≡ length data_bytes → items ≡ marks → positions_reading file skip.granularity end frames 0 None items ≡ Ok positions → payload ≡ payload_of blocks → whole ≡ Ok (pieces_at payload positions)
  entries_read file data_bytes payload end frames blocks marks items positions ahead named is laid ends same reads holds =
      ahead ∙ then_of (positions_of marks_file skip.granularity blocks marks) positions (λ positions. Ok (pieces_at (payload_of blocks) positions)) (sym (positions_are file data_bytes end frames blocks marks items named is laid ends same) ∙ reads)
      ∙ ap (λ (p : List ℕ). Ok (pieces_at p positions)) (sym holds)
