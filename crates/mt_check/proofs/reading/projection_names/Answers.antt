use Rattle.std.proofs.Common.{◌∙◌, List, ap, sym, subst}
use Rattle.std.specs.Prelude.{All, IsTrue}
use Rattle.mt_types.specs.Profile.{is_profile}
use Rattle.mt_table.specs.declared.column.Column.{Column}
use Rattle.mt_table.specs.declared.definition.PartDef.{PartDef}
use Rattle.mt_table.specs.Stored.{no_projection}
use Rattle.mt_meta.proofs.InnerLemmas.{projections_are}
use Rattle.mt_check.proofs.reading.projection_names.Goals as goal

pub own_names-requires : goal.own_names-requires
own_names-requires c =
    subst (All (λ (column : Column). IsTrue (is_profile column.ty))) (sym (c.as_slice.ensures ∙ ap (λ (d : PartDef). d.columns) c.in_ok-definition.ensures))
    (projections_are c.args.table.now c.args.place no_projection c.requires).columns.profile
