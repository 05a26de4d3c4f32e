-- Files of a definition, and their layout: docs/FORMAT.md, "The writer's folder".
use Rattle.std.specs.Prelude.{◌≡◌, ℕ, List, [], ◌∷◌, length}
use Rattle.std.specs.Fmt.{decimal}
use Rattle.mt_fault.specs.declared.file.FileBytes.{FileBytes}
use Rattle.mt_table.specs.declared.column.Column.{Column}
use Rattle.mt_table.specs.declared.definition.PartDef.{PartDef}
use Rattle.mt_table.specs.declared.settings.Settings.{Settings}
use Rattle.mt_defs.specs.Rows.{Row}
use Rattle.mt_defs.specs.Metadata.{columns_name, count_name, columns_text}
use Rattle.mt_defs.specs.PrimaryIndex.{index_name, primary_index_of}
use Rattle.mt_defs.specs.WrittenColumns.{file}
use Rattle.mt_defs.specs.WrittenGranules.{is_small, written_granules}
use Rattle.mt_layout.specs.declared.layout.Layout.{Layout}

-- columns.txt, count.txt and primary.idx of a definition's rows in these granules
abbrev pub text_files : PartDef → List Row → List ℕ → List FileBytes
text_files definition rows granules =
    file columns_name (columns_text definition.columns)
    ∷ file count_name (decimal (length rows))
    ∷ file index_name (primary_index_of definition rows granules)
    ∷ []

-- the writer's granules of some rows, and its choice between Compact and Wide
pub record IsLayout (settings : Settings) (columns : List Column) (rows : List Row) (layout : Layout) : Type 0 where
  pub granules : layout.granules ≡ written_granules settings columns rows
  pub compact : layout.compact ≡ is_small settings columns rows
