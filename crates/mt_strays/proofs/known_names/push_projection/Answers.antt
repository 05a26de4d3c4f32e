use Rattle.std.proofs.Common.{◌++◌, ◌∙◌, ap, sym, subst, List}
use Rattle.std.specs.Prelude.{All, IsTrue}
use Rattle.std.proofs.lemmas.Result.{IfOk-equal}
use Rattle.mt_types.specs.Profile.{is_profile}
use Rattle.mt_table.specs.declared.column.Column.{Column}
use Rattle.mt_table.specs.declared.definition.PartDef.{PartDef}
use Rattle.mt_table.specs.Stored.{no_projection, projection_at}
use Rattle.mt_defs.specs.Folder.{folder_below}
use Rattle.mt_defs.specs.Part.{is_compact}
use Rattle.mt_files.specs.Listings.{listed_folder}
use Rattle.mt_meta.proofs.InnerLemmas.{projections_are}
use Rattle.mt_strays.proofs.KnownLemmas.{names_below}
use Rattle.mt_strays.proofs.known_names.push_projection.Goals as goal

pub folder_names-requires : goal.folder_names-requires
folder_names-requires c =
    subst (All (λ (column : Column). IsTrue (is_profile column.ty))) (sym (c.as_slice-2.ensures ∙ ap (λ (d : PartDef). d.columns) c.in_ok-definition.ensures))
    (projections_are c.args.table.now c.args.place no_projection c.requires.there).columns.profile

pub returns : goal.returns
returns c =
    let table = c.args.table.now in
    let projection = projection_at table c.args.place in
    IfOk-equal c.push_below.result c.push_below.new.names.items _ _ c.push_below.ensures
    (ap (λ (names : List (List _)). c.args.names.now.items ++ names)
    (names_below table (listed_folder c.args.listing.now) projection c.as_slice-3.result.now c.in_ok-definition.definition c.as_slice-2.result.now c.in_ok-compact.compact c.as_slice-4.result.now
    (c.as_slice-3.ensures ∙ c.in_ok-prefix.ensures) c.in_ok-definition.ensures c.as_slice-2.ensures
    (c.in_ok-compact.ensures ∙ ap (λ (p : List _). is_compact (folder_below (listed_folder c.args.listing.now) p)) (c.as_slice.ensures ∙ sym c.as_slice-3.ensures)) (c.as_slice-4.ensures.value ∙ c.in_ok-own.ensures)))
