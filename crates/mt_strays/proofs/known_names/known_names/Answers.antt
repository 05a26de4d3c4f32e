use Rattle.mt_files.specs.Listings.{listed_folder}
use Rattle.mt_files.proofs.TableLemmas.{partition_checked}
use Rattle.mt_strays.proofs.KnownLemmas.{all_known}
use Rattle.mt_strays.proofs.known_names.known_names.Goals as goal

pub push_partition_names-requires : goal.push_partition_names-requires
push_partition_names-requires c = partition_checked c.args.table.now

pub returns : goal.returns
returns c =
    all_known c.args.table.now c.args.order.now (listed_folder c.args.listing.now) c.in_ok-compact.compact c.push_projections.new.names.items c.push_skip_names.new.names.items c.push_partition_names.new.names.items c.in_ok-names.names.items
    c.in_ok-compact.ensures c.in_ok-names.ensures c.in_ok-push_partition_names.ensures c.in_ok-push_skip_names.ensures c.in_ok-push_projections.ensures
