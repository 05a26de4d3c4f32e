-- The writer's folder, published where no file stands.
use Rattle.std.proofs.Common.{◌≡◌, ℕ, List}
use Rattle.std.specs.Prelude.{AllPairs, Ok}
use Rattle.mt_shelf.specs.Files.{Files}
use Rattle.mt_table.specs.declared.definition.Table.{Table}
use Rattle.mt_defs.specs.Folder.{folder_of}
use Rattle.mt_defs.specs.Part.{StandsForIn}
use Rattle.mt_defs.specs.Rows.{Row}
use Rattle.mt_defs.specs.Writer.{written_folder}
use Rattle.mt_command.specs.Targets.{free_target, within_limit}
use Rattle.mt_law_written.proofs.OrderLemmas.{Differently}
use Rattle.mt_law_written.proofs.FolderLemmas.{granules_of}
use Rattle.mt_headline.proofs.PublishedLemmas.{IsPublished, draft_published, is_free, with_draft}
use Rattle.mt_headline.proofs.SizeLemmas.{few_of}

-- what is known of it, by the law of the writer's folder
pub written_published : (table : Table) (rows : List Row) (part : List ℕ) (files : Files) → AllPairs Differently (written_folder table rows) → StandsForIn table (folder_of (written_folder table rows)) rows (granules_of table rows)
    → free_target part files ≡ Ok tt → within_limit (written_folder table rows) ≡ Ok (written_folder table rows) → IsPublished table rows (granules_of table rows) part (with_draft part (written_folder table rows) files)
written_published table rows part files differ is free within =
    draft_published table rows (granules_of table rows) part (written_folder table rows) files differ (is_free part files free) (few_of (written_folder table rows) within) is
