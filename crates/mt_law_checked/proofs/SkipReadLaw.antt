-- Where the files of a skip index hold its entries, these are read.
use Rattle.std.proofs.Common.{◌≡◌, ℕ, ◌^◌, ◌<◌, List, [], ◌∷◌, length, map, refl, sym, ap, ◌∙◌, arith, Some, None, inl, inr}
use Rattle.std.specs.Prelude.{All, Result, Ok}
use Rattle.std.specs.List.{concat, flat_map}
use Rattle.std.proofs.lemmas.List.{length-map}
use Rattle.mt_fault.specs.declared.fault.Fault.{Fault}
use Rattle.mt_types.proofs.StepLemmas.{then_of}
use Rattle.mt_table.specs.declared.skip.Skip.{Skip}
use Rattle.mt_table.proofs.PointwiseLemmas.{Pointwise-length}
use Rattle.mt_defs.specs.declared.mark.Mark.{Mark}
use Rattle.mt_defs.specs.Folder.{Folder}
use Rattle.mt_defs.specs.Frames.{Block, IsFileOf, IsFramed, file_of, payload_of}
use Rattle.mt_defs.specs.Lists.{offsets_from}
use Rattle.mt_defs.specs.Marks.{MarksPosition}
use Rattle.mt_defs.specs.SkipIndexes.{SkipMark, skip_data_name, skip_mark_bytes, skip_marks_name}
use Rattle.mt_frame.specs.FrameReading.{layout}
use Rattle.mt_marks.specs.Positions.{position_from}
use Rattle.mt_marks.proofs.DenotedLemmas.{position_complete}
use Rattle.mt_granules.proofs.DataFileLemmas.{length-offsets}
use Rattle.mt_granules.proofs.KeptRulesLemmas.{offsets_rise}
use Rattle.mt_granules.specs.FileFaults.{file_reading}
use Rattle.mt_granules.proofs.FileByteLemmas.{file_is_read}
use Rattle.mt_granules.proofs.PayloadsReadLemmas.{here_block}
use Rattle.mt_files.specs.SkipMarks.{blocks_reading, index_entries, skip_marks_reading}
use Rattle.mt_files.proofs.EntryLemmas.{positions_of}
use Rattle.mt_law_written.proofs.ListLemmas.{All-both, Pointwise-firsts}
use Rattle.mt_law_checked.proofs.ByteLemmas.{marks_are_bytes}
use Rattle.mt_law_checked.proofs.SkipBytes.{HasWords, mark_of, skip_marks_read}
use Rattle.mt_law_checked.proofs.SkipFiles.{blocks_there, marks_there}
use Rattle.mt_law_checked.proofs.SkipLists.{order_mapped, pointwise_mapped, pointwise_to}
use Rattle.mt_law_checked.proofs.SkipPieces.{entries_back, offsets_climb}
use Rattle.mt_law_checked.proofs.SkipPositions.{Begins, Climbs, positions_read}
use Rattle.mt_law_checked.proofs.SkipHeldLaw.{AreHeld, after_blocks, after_bytes, after_marks, after_positions}

mark_inner : (file : List ℕ) (skip_mark : SkipMark) (position : ℕ) → MarksPosition file skip_mark.mark position → skip_mark.mark.inner < 2 ^ 64
mark_inner file skip_mark position (blocks, is, inl at) = let here = here_block at.before at.after blocks at.here at.split is.each in omega (arith, at.within, here.small)
mark_inner file skip_mark position (blocks, is, inr at) = omega (arith, at.at_start)

first_is_zero : (entries : List (List ℕ)) → Begins None (offsets_from 0 (map length entries))
first_is_zero [] = tt
first_is_zero (entry ∷ entries) = refl

pub index_read : (folder : Folder) (ending : List ℕ) (skip : Skip) (count : ℕ) (entries : List (List ℕ)) → AreHeld folder ending skip count entries → index_entries folder ending skip count ≡ Ok entries
unfolding index_entries
index_read folder ending skip count entries held = by held.holds.framed
  where
    file : List ℕ
    file = skip_marks_name skip ending

    per : ℕ
    per = skip.granularity

    data_file : List ℕ
    data_file = held.holds.data_file

    marks : List SkipMark
    marks = held.holds.marks

    offsets : List ℕ
    offsets = offsets_from 0 (map length entries)

    bytes : List ℕ
    bytes = flat_map skip_mark_bytes marks

    many : length marks ≡ count
    many = Pointwise-length _ marks offsets held.holds.positions ∙ length-offsets 0 (map length entries) ∙ length-map entries length ∙ held.many

    words : All HasWords marks
    words =
        All-both (λ (s : SkipMark). s.mark.offset < 2 ^ 64) (λ (s : SkipMark). s.mark.inner < 2 ^ 64) HasWords (λ s few inner. record { offset = few; inner = inner }) marks held.holds.few_offsets
        (Pointwise-firsts (λ (s : SkipMark) (n : ℕ). MarksPosition data_file s.mark n) (λ (s : SkipMark). s.mark.inner < 2 ^ 64) (mark_inner data_file) marks offsets held.holds.positions)

    found : (blocks : List Block) → IsFileOf blocks data_file → (mark : Mark) (position : ℕ) → MarksPosition data_file mark position → position_from 0 (length (file_of blocks)) (layout blocks) mark ≡ Some position
    found blocks is mark position at = ap (λ (b : List ℕ). position_from 0 (length b) (layout blocks) mark) (sym is.bytes) ∙ position_complete data_file blocks mark position is at

    climbs : (blocks : List Block) → IsFileOf blocks data_file → Climbs (length (file_of blocks)) (layout blocks) None (map mark_of marks) offsets
    climbs blocks is =
        let rise = offsets_climb 0 (map length entries) in
        let fall = offsets_rise 0 (map mark_of marks) (λ d some. omega arith) (order_mapped marks held.holds.order) in
        record {
          denote =
              pointwise_to (MarksPosition data_file) (λ mark position. position_from 0 (length (file_of blocks)) (layout blocks) mark ≡ Some position) (found blocks is) (map mark_of marks) offsets
              (pointwise_mapped (MarksPosition data_file) mark_of marks offsets held.holds.positions);
          begins = first_is_zero entries;
          top = rise.0;
          rise = rise.1;
          foot = fall.0;
          offsets = fall.1;
        }

    by : IsFramed (concat entries) data_file → index_entries folder ending skip count ≡ Ok entries
    by (blocks, is, paid) =
        then_of (blocks_reading folder (skip_data_name skip)) blocks (after_blocks folder file per count) (blocks_there folder (skip_data_name skip) data_file blocks held.holds.has_data is)
        ∙ then_of (file_reading folder file) bytes (after_bytes file per count blocks) (file_is_read folder file bytes held.holds.has_marks (marks_are_bytes marks))
        ∙ then_of (skip_marks_reading file count bytes) (map mark_of marks) (after_marks file per blocks) (marks_there file count marks (skip_marks_read marks words) many)
        ∙ then_of (positions_of file per blocks (map mark_of marks)) offsets (after_positions blocks) (positions_read file per (length (file_of blocks)) (layout blocks) 0 None (map mark_of marks) offsets (climbs blocks is))
        ∙ ap (λ (es : List (List ℕ)). let r : Result (List (List ℕ)) Fault = Ok es in r) (entries_back (payload_of blocks) entries (sym paid))
