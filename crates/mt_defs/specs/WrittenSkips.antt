-- The writer's skip index files: each entry is framed by itself.
use Rattle.std.specs.Prelude.{ℕ, if◌then◌else◌, List, [], ◌∷◌, length, map}
use Rattle.std.specs.List.{flat_map, concat}
use Rattle.mt_types.specs.declared.ty.Ty.{Ty}
use Rattle.mt_types.specs.declared.value.Value.{Value}
use Rattle.mt_fault.specs.declared.file.FileBytes.{FileBytes}
use Rattle.mt_table.specs.declared.definition.Table.{Table}
use Rattle.mt_table.specs.declared.skip.Skip.{Skip}
use Rattle.mt_table.specs.declared.skip.SkipKind.{SkipKind}
use Rattle.mt_table.specs.declared.skip.SkipKind.TheVariants.{Minmax, Set}
use Rattle.mt_defs.specs.Lists.{offsets_from}
use Rattle.mt_defs.specs.Rows.{Row, column_values}
use Rattle.mt_defs.specs.Metadata.{column_at}
use Rattle.mt_defs.specs.Marks.{u64_bytes}
use Rattle.mt_defs.specs.Part.{marks_ending}
use Rattle.mt_defs.specs.SkipIndexes.{distinct_values, is_too_many, set_bytes, entry_rows, skip_data_name, skip_marks_name, SkipMark, skip_mark_bytes}
use Rattle.mt_defs.specs.WrittenColumns.{file}
use Rattle.mt_defs.specs.WrittenFrames.{written_frames, mark_at}
use Rattle.mt_defs.specs.WrittenGranules.{written_granules, is_small}
use Rattle.mt_defs.specs.WrittenPartition.{minmax_bytes}

-- the entry of some values; a set lists them in the order of their first appearance
abbrev pub written_entry : SkipKind → Ty → List Value → List ℕ
written_entry Minmax ty values = minmax_bytes ty values
written_entry (Set max_rows) ty values = if is_too_many max_rows values then u64_bytes 0 else set_bytes ty (distinct_values values)

-- the entries of an index over granules of these rows
abbrev pub written_entries : Table → Skip → List Row → List ℕ → List (List ℕ)
written_entries table skip rows granules =
    map (λ group. written_entry skip.kind (column_at table.columns skip.column).ty (column_values skip.column group)) (entry_rows skip rows granules)

-- the mark at the start of a frame, and the number 1, which is passed over
abbrev pub written_skip_mark : ℕ → SkipMark
written_skip_mark offset = record { mark = mark_at offset; rows = 1 }

-- the two files of an index
abbrev pub skip_files : Table → List Row → Skip → List FileBytes
skip_files table rows skip =
    let frames = map written_frames (written_entries table skip rows (written_granules table.settings table.columns rows)) in
    file (skip_data_name skip) (concat frames)
    ∷ file (skip_marks_name skip (marks_ending (is_small table.settings table.columns rows))) (flat_map (λ offset. skip_mark_bytes (written_skip_mark offset)) (offsets_from 0 (map length frames)))
    ∷ []
