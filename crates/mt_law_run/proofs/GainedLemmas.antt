-- The writer's folder of some rows, published at a free target.
use Rattle.std.proofs.Common.{◌≡◌, ℕ, List, map, Some, Ok, refl, ap, ◌∙◌}
use Rattle.std.specs.Prelude.{AllPairs, nat_lt}
use Rattle.mt_fault.specs.declared.file.FileBytes.{FileBytes}
use Rattle.mt_shelf.specs.Files.{Files, gained_files}
use Rattle.mt_shelf.specs.Held.{pair_of}
use Rattle.mt_table.specs.declared.definition.Table.{Table}
use Rattle.mt_defs.specs.Folder as folders
use Rattle.mt_defs.specs.Part.{StandsForIn}
use Rattle.mt_defs.specs.Rows.{Row}
use Rattle.mt_defs.specs.Sorting.{sorted_rows}
use Rattle.mt_defs.specs.Writer.{IsWritable, written_folder}
use Rattle.mt_law_written.proofs.OrderLemmas.{Differently}
use Rattle.mt_law_written.proofs.FolderLemmas.{granules_of}
use Rattle.mt_headline.specs.Storable.{AreStorable}
use Rattle.mt_headline.proofs.PublishedLemmas.{is_free}
use Rattle.mt_headline.proofs.SizeLemmas.{few_gained, few_of}
use Rattle.mt_headline.proofs.WrittenLemmas.{written_published}
use Rattle.mt_command.specs.Plans.{World}
use Rattle.mt_command.specs.Tables.{table_in}
use Rattle.mt_command.specs.Targets.{folder_bytes, free_target, within_limit}
use Rattle.mt_command.specs.declared.limits.TheConstants.{MAX_FOLDER}
use Rattle.mt_command.specs.declared.status.What.TheVariants as what
use Rattle.mt_writing.proofs.WrittenParts.{within}
use Rattle.mt_law_run.specs.Published.{HasGained}
use Rattle.mt_law_run.proofs.KeptLemmas.{table_stays}

-- what the laws below say
pub record WriterLaws : Type 0 where
  pub writable : (table : Table) (rows : List Row) → AreStorable table rows → IsWritable table (sorted_rows table.sort rows)
  pub stand : (table : Table) (rows : List Row) → IsWritable table rows
      → StandsForIn table (folders.folder_of (written_folder table rows)) rows (granules_of table rows)
  pub differ : (table : Table) (rows : List Row) → AllPairs Differently (written_folder table rows)

pub gained : WriterLaws → (path part : List ℕ) (table : Table) (rows : List Row) (files : Files) (new : World) (folder : List FileBytes)
    → IsWritable table rows → table_in path files ≡ Ok table → free_target part files ≡ Ok tt
    → within_limit (written_folder table rows) ≡ Ok folder → new.files ≡ Some (gained_files part (map pair_of folder) files) → HasGained path part table rows files new
gained laws path part table rows files new folder writable known free small after =
    let draft = written_folder table rows in
    let same : folder ≡ draft = within draft folder (nat_lt MAX_FOLDER (folder_bytes draft)) refl small in
    let limit : within_limit draft ≡ Ok draft = small ∙ ap Ok same in
    let published = written_published table rows part files (laws.differ table rows) (laws.stand table rows writable) free limit in
    record {
      files_are = after ∙ ap (λ (f : List FileBytes). Some (gained_files part (map pair_of f) files)) same;
      part_is = record {
        table_is = table_stays path part table (map pair_of draft) files known (is_free part files free);
        small = few_gained part draft files (is_free part files free) (few_of draft limit);
        stands = published.stands_for;
      };
    }
