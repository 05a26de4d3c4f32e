use Rattle.std.proofs.Common.{◌∙◌, sym, ap, List}
use Rattle.mt_fault.specs.declared.file.FileBytes.{FileBytes}
use Rattle.mt_table.specs.Stored.{base_of}
use Rattle.mt_defs.specs.Folder.{folder_of}
use Rattle.mt_files.specs.PartTexts.{order_reading}
use Rattle.mt_plan_files.specs.Planned.{later_names}
use Rattle.mt_shelf.specs.State.{files_of}
use Rattle.mt_defs.specs.Metadata.{columns_name}
use Rattle.mt_plan_files.specs.Sizes.{listed_size}
use Rattle.mt_plan_files.proofs.CostLemmas.{all_costs, all_known, first_costs}
use Rattle.mt_plan_files.proofs.TakenLemmas.{same_files}
use Rattle.mt_plan_files.proofs.reading.read_planned.Goals as goal

pub returns-in_err-read_into-clause-taken : goal.returns-in_err-read_into-clause-taken
returns-in_err-read_into-clause-taken g c =
    first_costs c.args.part.now c.args.listing.now c.args.table.now c.args.query.now (files_of (g.F.Shelf.state c.args.shelf.now)) (g.F.Shelf.state c.args.shelf.now) (g.F.Shelf.state c.read_into.new.shelf) c.requires.known c.in_err-read_into.ensures.taken

pub returns-in_err-compact-clause-taken : goal.returns-in_err-compact-clause-taken
returns-in_err-compact-clause-taken g c =
    first_costs c.args.part.now c.args.listing.now c.args.table.now c.args.query.now (files_of (g.F.Shelf.state c.args.shelf.now)) (g.F.Shelf.state c.args.shelf.now) (g.F.Shelf.state c.read_into.new.shelf) c.requires.known c.in_ok-read_into.ensures.taken

pub returns-in_err-names-clause-taken : goal.returns-in_err-names-clause-taken
returns-in_err-names-clause-taken g c =
    first_costs c.args.part.now c.args.listing.now c.args.table.now c.args.query.now (files_of (g.F.Shelf.state c.args.shelf.now)) (g.F.Shelf.state c.args.shelf.now) (g.F.Shelf.state c.read_into.new.shelf) c.requires.known c.in_ok-read_into.ensures.taken

pub returns-in_err-read_all-clause-taken : goal.returns-in_err-read_all-clause-taken
returns-in_err-read_all-clause-taken g c =
    let old = g.F.Shelf.state c.args.shelf.now in
    let mid = g.F.Shelf.state c.read_into.new.shelf in
    let are = c.as_slice-2.ensures.value ∙ c.in_ok-names.ensures ∙ ap (λ (fs : List FileBytes). later_names c.args.table.now c.args.query.now c.in_ok-compact.compact (order_reading (base_of c.args.table.now) (folder_of fs))) c.as_slice.ensures in
    all_costs c.args.part.now c.args.listing.now c.args.table.now c.args.query.now (files_of old) (files_of mid) c.in_ok-compact.compact c.new-files.result c.read_into.new.files c.as_slice-2.result.now c.new-files.ensures c.requires.known
    (same_files (listed_size c.args.listing.now columns_name) old mid c.in_ok-read_into.ensures.taken) c.in_ok-compact.ensures c.in_ok-read_into.ensures.known are old mid (g.F.Shelf.state c.read_all.new.shelf) c.in_ok-read_into.ensures.taken c.in_err-read_all.ensures.taken

pub returns-clause-known : goal.returns-clause-known
returns-clause-known g c =
    let old = g.F.Shelf.state c.args.shelf.now in
    let mid = g.F.Shelf.state c.read_into.new.shelf in
    let are = c.as_slice-2.ensures.value ∙ c.in_ok-names.ensures ∙ ap (λ (fs : List FileBytes). later_names c.args.table.now c.args.query.now c.in_ok-compact.compact (order_reading (base_of c.args.table.now) (folder_of fs))) c.as_slice.ensures in
    all_known c.args.part.now c.args.listing.now c.args.table.now c.args.query.now (files_of old) (files_of mid) c.in_ok-compact.compact c.new-files.result c.read_into.new.files c.as_slice-2.result.now c.new-files.ensures c.requires.known
    (same_files (listed_size c.args.listing.now columns_name) old mid c.in_ok-read_into.ensures.taken) c.in_ok-compact.ensures c.in_ok-read_into.ensures.known are c.read_all.new.files c.in_ok-read_all.ensures.known

pub returns-clause-taken : goal.returns-clause-taken
returns-clause-taken g c =
    let old = g.F.Shelf.state c.args.shelf.now in
    let mid = g.F.Shelf.state c.read_into.new.shelf in
    let are = c.as_slice-2.ensures.value ∙ c.in_ok-names.ensures ∙ ap (λ (fs : List FileBytes). later_names c.args.table.now c.args.query.now c.in_ok-compact.compact (order_reading (base_of c.args.table.now) (folder_of fs))) c.as_slice.ensures in
    all_costs c.args.part.now c.args.listing.now c.args.table.now c.args.query.now (files_of old) (files_of mid) c.in_ok-compact.compact c.new-files.result c.read_into.new.files c.as_slice-2.result.now c.new-files.ensures c.requires.known
    (same_files (listed_size c.args.listing.now columns_name) old mid c.in_ok-read_into.ensures.taken) c.in_ok-compact.ensures c.in_ok-read_into.ensures.known are old mid (g.F.Shelf.state c.read_all.new.shelf) c.in_ok-read_into.ensures.taken c.in_ok-read_all.ensures.taken
