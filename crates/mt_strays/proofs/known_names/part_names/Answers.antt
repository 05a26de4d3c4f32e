use Rattle.std.proofs.Common.{◌∙◌, List, ap, map}
use Rattle.mt_table.specs.declared.column.Column.{Column}
use Rattle.mt_table.specs.Stored.{column_at}
use Rattle.mt_strays.proofs.KnownLemmas.{places_profile}
use Rattle.mt_strays.proofs.known_names.part_names.Goals as goal

pub folder_names-requires : goal.folder_names-requires
folder_names-requires c =
    places_profile c.args.table.now c.as_slice-2.result.now c.args.order.now c.requires
    (c.as_slice-2.ensures ∙ c.in_ok-columns.ensures ∙ ap (λ (cs : List Column). map (column_at cs) c.args.order.now) c.as_slice.ensures)
