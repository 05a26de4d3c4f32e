-- What the folders of a table must list, they may list.
use Rattle.std.proofs.Common.{◌≡◌, true, List, length}
use Rattle.std.proofs.lemmas.List.Elements.{All-append}
use Rattle.std.proofs.lemmas.List.Sums.{AllPass-from_list_all, list_all-from_AllPass}
use Rattle.mt_table.specs.declared.definition.PartDef.{PartDef}
use Rattle.mt_table.specs.declared.definition.Table.{Table}
use Rattle.mt_table.specs.declared.projection.Projection.{Projection}
use Rattle.mt_table.specs.declared.projection.Projection.TheVariants.{Normal, Grouped}
use Rattle.mt_table.specs.Fields.{fields}
use Rattle.mt_table.specs.Kept.{is_place}
use Rattle.mt_table.proofs.KeptLemmas.{each_of}
use Rattle.mt_table.proofs.StoredLemmas as stored
use Rattle.mt_defs.specs.Projections.{base_of, inner_of}
use Rattle.mt_law_written.proofs.ListedLemmas.{ArePlaces, own_places, places_below}
use Rattle.mt_law_written.proofs.PartitionLemmas as partition

-- the columns of the sort key and of the partition key
pub base_must : (table : Table) → ArePlaces table.columns (base_of table).must
base_must table =
    let each = each_of (fields table.name table.columns table.partition table.sort table.primary table.skips table.projections table.settings) table.rules in
    list_all-from_AllPass (is_place table.columns) (base_of table).must
    (All-append (λ i. is_place table.columns i ≡ true) table.sort (partition.key_columns table) (AllPass-from_list_all (is_place table.columns) table.sort (stored.key_within table.columns table.sort each.sort))
    (AllPass-from_list_all (is_place table.columns) (partition.key_columns table) (places_below table.columns (partition.key_columns table) (partition.key_within table each.partition))))

-- all columns of a projection
pub inner_must : (table : Table) (projection : Projection) → ArePlaces (inner_of table projection).columns (inner_of table projection).must
inner_must table (Normal name columns sort) = own_places (inner_of table (Normal name columns sort)).columns
inner_must table (Grouped name keys aggs) = own_places (inner_of table (Grouped name keys aggs)).columns
