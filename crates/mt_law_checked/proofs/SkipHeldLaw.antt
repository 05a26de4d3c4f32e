-- What is read of the files of a skip index is what they hold.
use Rattle.std.proofs.Common.{◌≡◌, ℕ, ◌^◌, ◌<◌, ◌≤◌, List, [], ◌∷◌, length, map, refl, sym, ap, ◌∙◌, subst, arith, Some, None}
use Rattle.std.specs.Prelude.{All, Result, Ok}
use Rattle.std.specs.List.{concat, flat_map}
use Rattle.std.specs.List.Sorted.{IsNonDecreasingBy}
use Rattle.std.proofs.lemmas.List.Elements.{All-tail}
use Rattle.mt_fault.specs.declared.fault.Fault.{Fault}
use Rattle.mt_types.specs.Steps.{◌>>=◌}
use Rattle.mt_types.proofs.StepLemmas.{ok_one, ok_then}
use Rattle.mt_table.specs.Rows.{Pointwise}
use Rattle.mt_table.specs.declared.skip.Skip.{Skip}
use Rattle.mt_table.proofs.PointwiseLemmas.{Pointwise-length}
use Rattle.mt_defs.specs.declared.mark.Mark.{Mark}
use Rattle.mt_defs.specs.Folder.{Folder}
use Rattle.mt_defs.specs.Frames.{Block, IsFramed, file_of, payload_of}
use Rattle.mt_defs.specs.Lists.{offsets_from}
use Rattle.mt_defs.specs.Marks.{MarksPosition}
use Rattle.mt_defs.specs.SkipIndexes.{SkipMark, skip_data_name, skip_mark_bytes, skip_marks_name}
use Rattle.mt_frame.specs.FrameReading.{layout}
use Rattle.mt_marks.specs.Positions.{position_from}
use Rattle.mt_marks.proofs.DenotedLemmas.{position_sound}
use Rattle.mt_marks.proofs.RecutLemmas.{marked_within}
use Rattle.mt_granules.proofs.EntriesLemmas.{never_fall}
use Rattle.mt_granules.specs.FileFaults.{file_reading}
use Rattle.mt_granules.proofs.FileByteLemmas.{file_was_read}
use Rattle.mt_files.specs.SkipMarks.{blocks_reading, index_entries, skip_marks_reading, pieces_at}
use Rattle.mt_files.proofs.EntryLemmas.{positions_of}
use Rattle.mt_law_checked.proofs.SkipBytes.{AreSkipMarks, mark_of, skip_marks_are}
use Rattle.mt_law_checked.proofs.SkipFiles.{HasBlocks, blocks_held, marks_held}
use Rattle.mt_law_checked.proofs.SkipLists.{all_seconds, order_unmapped, pointwise_to, pointwise_unmapped}
use Rattle.mt_law_checked.proofs.SkipPieces.{entries_joined, entries_start, length-pieces_at}
use Rattle.mt_law_checked.proofs.SkipPositions.{Climbs, positions_climb}

-- the files of an index hold these entries
pub record HoldsEntries (folder : Folder) (ending : List ℕ) (skip : Skip) (entries : List (List ℕ)) : Type 0 where
  pub data_file : List ℕ
  pub marks : List SkipMark
  pub has_data : folder (skip_data_name skip) ≡ Some data_file
  pub has_marks : folder (skip_marks_name skip ending) ≡ Some (flat_map skip_mark_bytes marks)
  pub framed : IsFramed (concat entries) data_file
  pub few_offsets : All (λ skip_mark. skip_mark.mark.offset < 2 ^ 64) marks
  pub positions : Pointwise (λ skip_mark position. MarksPosition data_file skip_mark.mark position) marks (offsets_from 0 (map length entries))
  pub order : IsNonDecreasingBy (λ skip_mark. skip_mark.mark.offset) marks

-- ---- what is read is held

module _ (folder : Folder) (ending : List ℕ) (skip : Skip) (blocks : List Block) (own : HasBlocks folder (skip_data_name skip) blocks) where
  framed_so : IsFramed (payload_of blocks) own.file
  framed_so = (blocks, own.is, refl)

  denotes : (mark : Mark) (position : ℕ) → position_from 0 (length (file_of blocks)) (layout blocks) mark ≡ Some position → MarksPosition own.file mark position
  denotes mark position e = position_sound own.file blocks mark position own.is (ap (λ (bytes : List ℕ). position_from 0 (length bytes) (layout blocks) mark) own.is.bytes ∙ e)

  inside : (mark : Mark) (position : ℕ) → position_from 0 (length (file_of blocks)) (layout blocks) mark ≡ Some position → position ≤ length (payload_of blocks)
  inside mark position e = marked_within (payload_of blocks) own.file framed_so position (mark, denotes mark position e)

  entries_held : (bytes : List ℕ) (marks : List Mark) (positions : List ℕ) → folder (skip_marks_name skip ending) ≡ Some bytes → AreSkipMarks bytes marks → Climbs (length (file_of blocks)) (layout blocks) None marks (0 ∷ positions)
      → HoldsEntries folder ending skip (pieces_at (payload_of blocks) (0 ∷ positions))
  entries_held bytes marks positions has are climbs =
      let R : Mark → ℕ → Type 0 = λ mark position. position_from 0 (length (file_of blocks)) (layout blocks) mark ≡ Some position in
      let within : All (λ position. position ≤ length (payload_of blocks)) (0 ∷ positions) = all_seconds R (λ position. position ≤ length (payload_of blocks)) inside marks (0 ∷ positions) climbs.denote in
      let later = All-tail (λ position. position ≤ length (payload_of blocks)) 0 positions within in
      let start = entries_start (payload_of blocks) positions climbs.top climbs.rise.1 later in
      let placed : Pointwise (MarksPosition own.file) (map mark_of are.skip_marks) (0 ∷ positions) =
      subst (λ (ms : List Mark). Pointwise (MarksPosition own.file) ms (0 ∷ positions)) (sym are.marks_are) (pointwise_to R (MarksPosition own.file) denotes marks (0 ∷ positions) climbs.denote) in
      record {
        data_file = own.file;
        marks = are.skip_marks;
        has_data = own.has;
        has_marks = has ∙ ap (λ (b : List ℕ). Some b) are.bytes_are;
        few_offsets = are.few_offsets;
        framed = subst (λ (p : List ℕ). IsFramed p own.file) (sym (entries_joined (payload_of blocks) positions climbs.top climbs.rise.1 later)) framed_so;
        positions =
            subst (λ (ps : List ℕ). Pointwise (λ skip_mark position. MarksPosition own.file skip_mark.mark position) are.skip_marks ps) (sym start)
            (pointwise_unmapped (MarksPosition own.file) mark_of are.skip_marks (0 ∷ positions) placed);
        order = order_unmapped are.skip_marks (subst (IsNonDecreasingBy (λ (m : Mark). m.offset)) (sym are.marks_are) (never_fall 0 climbs.foot marks climbs.offsets));
      }

abbrev pub after_positions : List Block → List ℕ → Result (List (List ℕ)) Fault
after_positions blocks positions = Ok (pieces_at (payload_of blocks) positions)

abbrev pub after_marks : List ℕ → ℕ → List Block → List Mark → Result (List (List ℕ)) Fault
after_marks file per blocks marks = positions_of file per blocks marks >>= after_positions blocks

abbrev pub after_bytes : List ℕ → ℕ → ℕ → List Block → List ℕ → Result (List (List ℕ)) Fault
after_bytes file per count blocks bytes = skip_marks_reading file count bytes >>= after_marks file per blocks

abbrev pub after_blocks : Folder → List ℕ → ℕ → ℕ → List Block → Result (List (List ℕ)) Fault
after_blocks folder file per count blocks = file_reading folder file >>= after_bytes file per count blocks

-- so many entries are held
pub record AreHeld (folder : Folder) (ending : List ℕ) (skip : Skip) (count : ℕ) (entries : List (List ℕ)) : Type 0 where
  pub holds : HoldsEntries folder ending skip entries
  pub many : length entries ≡ count

pub index_held : (folder : Folder) (ending : List ℕ) (skip : Skip) (count : ℕ) (entries : List (List ℕ)) → 1 ≤ count → index_entries folder ending skip count ≡ Ok entries → AreHeld folder ending skip count entries
unfolding index_entries
index_held folder ending skip count entries some e =
    ok_then (blocks_reading folder (skip_data_name skip)) (after_blocks folder file per count) entries e (λ blocks framed e.
    ok_then (file_reading folder file) (after_bytes file per count blocks) entries e (λ bytes marked e.
    ok_then (skip_marks_reading file count bytes) (after_marks file per blocks) entries e (λ marks read e.
    ok_then (positions_of file per blocks marks) (after_positions blocks) entries e (λ positions climb e.
    let own = blocks_held folder (skip_data_name skip) blocks framed in
    let has = file_was_read folder file bytes marked in
    let numbers = marks_held file count bytes marks read in
    let are : AreSkipMarks bytes marks = subst (AreSkipMarks bytes) (sym numbers.are) (skip_marks_are bytes numbers.entries has.bytes numbers.reads) in
    let climbs = positions_climb file per (length (file_of blocks)) (layout blocks) 0 None marks positions climb in
    subst (AreHeld folder ending skip count) (sym (ok_one _ _ e))
    (by blocks own bytes marks positions has.has are climbs (Pointwise-length _ marks positions climbs.denote) numbers.many)))))
  where
    file : List ℕ
    file = skip_marks_name skip ending

    per : ℕ
    per = skip.granularity

    by : (blocks : List Block) (own : HasBlocks folder (skip_data_name skip) blocks) (bytes : List ℕ) (marks : List Mark) (positions : List ℕ) → folder (skip_marks_name skip ending) ≡ Some bytes → AreSkipMarks bytes marks
        → Climbs (length (file_of blocks)) (layout blocks) None marks positions → length marks ≡ length positions → length marks ≡ count → AreHeld folder ending skip count (pieces_at (payload_of blocks) positions)
    by blocks own bytes marks [] has are climbs long many = absurd (omega (arith, some, long, many))
    by blocks own bytes marks (first ∷ positions) has are climbs long many =
        let zero_first : first ≡ 0 = climbs.begins in
        let holds = entries_held folder ending skip blocks own bytes marks positions has are (subst (λ n. Climbs (length (file_of blocks)) (layout blocks) None marks (n ∷ positions)) zero_first climbs) in
        record {
          holds = subst (λ n. HoldsEntries folder ending skip (pieces_at (payload_of blocks) (n ∷ positions))) (sym zero_first) holds;
          many = length-pieces_at (payload_of blocks) (first ∷ positions) ∙ sym long ∙ many;
        }
