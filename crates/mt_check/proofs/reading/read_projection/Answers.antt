use Rattle.std.proofs.Common.{◌≡◌, ◌∙◌, true, List, ℕ, ap, sym, refl}
use Rattle.std.specs.Prelude.{Option, Some, option_map}
use Rattle.mt_fault.specs.declared.file.FileBytes.{FileBytes}
use Rattle.mt_shelf.specs.State.{files_of}
use Rattle.mt_table.specs.Stored.{projection_at}
use Rattle.mt_defs.specs.Folder.{folder_below}
use Rattle.mt_files.specs.Listings.{has_below, listed_folder, entry_names}
use Rattle.mt_files.specs.NamedFiles.{file_names}
use Rattle.mt_check.specs.PartFiles.{inner_files}
use Rattle.mt_check.proofs.ReadLemmas.{lacking_known, projection_lacking, projection_read, read_known}
use Rattle.mt_check.proofs.reading.read_projection.Goals as goal

pub returns-then-not-has_below-clause-known : goal.returns-then-not-has_below-clause-known
returns-then-not-has_below-clause-known g c =
    lacking_known c.args.table.now c.args.part.now (entry_names c.args.listing.now) (projection_at c.args.table.now c.args.place) c.as_slice.result.now (files_of (g.F.Shelf.state c.args.shelf.now))
    (c.as_slice.ensures ∙ c.in_ok-prefix.ensures) (sym c.has_below.ensures ∙ c.if-not-has_below.true)

pub returns-then-not-has_below-clause-names : goal.returns-then-not-has_below-clause-names
returns-then-not-has_below-clause-names g c =
    ap (λ (files : Option (List FileBytes)). option_map file_names files)
    (projection_lacking c.args.table.now (entry_names c.args.listing.now) (projection_at c.args.table.now c.args.place) c.as_slice.result.now (listed_folder c.args.listing.now)
    (c.as_slice.ensures ∙ c.in_ok-prefix.ensures) (sym c.has_below.ensures ∙ c.if-not-has_below.true))

pub returns-clause-known : goal.returns-clause-known
returns-clause-known g c =
    let there : has_below (entry_names c.args.listing.now) c.as_slice-2.result.now ≡ true =
    ap (has_below (entry_names c.args.listing.now)) (c.as_slice-2.ensures ∙ sym c.as_slice.ensures) ∙ sym c.has_below.ensures ∙ c.if-not-has_below.false in
    read_known c.args.table.now c.args.part.now (entry_names c.args.listing.now) (projection_at c.args.table.now c.args.place) c.as_slice-2.result.now c.in_ok-files.files (files_of (g.F.Shelf.state c.args.shelf.now))
    (c.as_slice-2.ensures ∙ c.in_ok-prefix.ensures) there c.in_ok-files.ensures.known

pub returns-clause-names : goal.returns-clause-names
returns-clause-names g c =
    let table = c.args.table.now in
    let projection = projection_at table c.args.place in
    let inner = inner_files table projection (folder_below (listed_folder c.args.listing.now) c.as_slice-2.result.now) in
    let there : has_below (entry_names c.args.listing.now) c.as_slice-2.result.now ≡ true =
    ap (has_below (entry_names c.args.listing.now)) (c.as_slice-2.ensures ∙ sym c.as_slice.ensures) ∙ sym c.has_below.ensures ∙ c.if-not-has_below.false in
    ap (λ (names : List (List ℕ)). let o : Option (List (List ℕ)) = Some names in o) c.in_ok-files.ensures.names
    ∙ ap (λ (files : Option (List FileBytes)). option_map file_names files)
    (projection_read table (entry_names c.args.listing.now) projection c.as_slice-2.result.now (listed_folder c.args.listing.now) inner (c.as_slice-2.ensures ∙ c.in_ok-prefix.ensures) there refl)
