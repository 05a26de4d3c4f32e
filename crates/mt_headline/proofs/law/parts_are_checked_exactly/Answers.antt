use Rattle.mt_shelf.specs.Files.{entries_below}
use Rattle.mt_command.specs.Parts.{folder_at, listed_names}
use Rattle.mt_headline.proofs.NameLemmas.{listed_below}
use Rattle.mt_headline.proofs.law.parts_are_checked_exactly.Goals as goal

pub returns-clause-accepted : goal.returns-clause-accepted
returns-clause-accepted c table part files accepted = c.folders_are_checked_exactly.ensures.accepted table (folder_at part files) (listed_names (entries_below part files)) accepted (listed_below part files)

pub returns-clause-fault : goal.returns-clause-fault
returns-clause-fault c table part files = c.folders_are_checked_exactly.ensures.fault table (folder_at part files) (listed_names (entries_below part files)) (listed_below part files)
