use Rattle.mt_files.specs.Listings.{listed_folder, entry_names}
use Rattle.mt_check.proofs.PartLemmas.{as_many}
use Rattle.mt_show.proofs.read.read_files.Goals as goal

pub returns-in-Ok-clause-each : goal.returns-in-Ok-clause-each
returns-in-Ok-clause-each g c = as_many c.args.table.now (listed_folder c.args.listing.now) (entry_names c.args.listing.now) c.in-Ok.files c.in-Ok.ensures.names.projections
