-- What a shelf asks of the writer's files.
use Rattle.std.proofs.Common.{◌≡◌, sym, subst, List, All}
use Rattle.mt_table.specs.declared.definition.Table.{Table}
use Rattle.mt_fault.specs.declared.file.FileBytes.{FileBytes}
use Rattle.mt_shelf.specs.Held.{HasName}
use Rattle.mt_defs.specs.Rows.{Row}
use Rattle.mt_defs.specs.Writer.{written_folder}
use Rattle.mt_law_written.proofs.PathLemmas.{written_paths}

-- the writer's files have names
pub built_names : (table : Table) (rows : List Row) (files : List FileBytes) → files ≡ written_folder table rows → All HasName files
built_names table rows files is = let P : List FileBytes → Type 0 = λ fs. All HasName fs in subst P (sym is) (written_paths table rows)
