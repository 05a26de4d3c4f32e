use Rattle.std.proofs.Common.{◌∙◌, sym, true, false}
use Rattle.mt_defs.specs.Folder.{folder_of}
use Rattle.mt_compact.specs.CompactReading.{compact_reading}
use Rattle.mt_wide.specs.WideReading.{wide_reading}
use Rattle.mt_definition.proofs.DataLemmas.{compact_data, cut_of, gives_data, many_of, of_layout, wide_data}
use Rattle.mt_definition.proofs.data.read_data.Goals as goal

pub returns-then-is_compact-clause-gives : goal.returns-then-is_compact-clause-gives
returns-then-is_compact-clause-gives c =
    let folder = folder_of c.args.files.now in
    gives_data c.read_compact.result (compact_reading folder c.args.count c.args.columns.now) _ (of_layout folder c.args.count c.args.columns.now true (sym c.is_compact.ensures ∙ c.if-is_compact.true)) c.read_compact.ensures.reads

pub returns-then-is_compact-clause-many : goal.returns-then-is_compact-clause-many
returns-then-is_compact-clause-many c =
    let folder = folder_of c.args.files.now in
    many_of c.read_compact.result (compact_reading folder c.args.count c.args.columns.now) c.args.count c.read_compact.ensures.reads (compact_data folder c.args.count c.args.columns.now)

pub returns-then-is_compact-clause-cut : goal.returns-then-is_compact-clause-cut
returns-then-is_compact-clause-cut c =
    let folder = folder_of c.args.files.now in
    cut_of c.read_compact.result (compact_reading folder c.args.count c.args.columns.now) c.args.count c.read_compact.ensures.reads (compact_data folder c.args.count c.args.columns.now)

pub returns-else-is_compact-clause-gives : goal.returns-else-is_compact-clause-gives
returns-else-is_compact-clause-gives c =
    let folder = folder_of c.args.files.now in
    gives_data c.read_wide.result (wide_reading folder c.args.count c.args.columns.now) _ (of_layout folder c.args.count c.args.columns.now false (sym c.is_compact.ensures ∙ c.if-is_compact.false)) c.read_wide.ensures.reads

pub returns-else-is_compact-clause-many : goal.returns-else-is_compact-clause-many
returns-else-is_compact-clause-many c =
    let folder = folder_of c.args.files.now in
    many_of c.read_wide.result (wide_reading folder c.args.count c.args.columns.now) c.args.count c.read_wide.ensures.reads (wide_data folder c.args.count c.args.columns.now)

pub returns-else-is_compact-clause-cut : goal.returns-else-is_compact-clause-cut
returns-else-is_compact-clause-cut c =
    let folder = folder_of c.args.files.now in
    cut_of c.read_wide.result (wide_reading folder c.args.count c.args.columns.now) c.args.count c.read_wide.ensures.reads (wide_data folder c.args.count c.args.columns.now)
