use Rattle.std.proofs.Common.{length, sym, ap, ◌∙◌}
use Rattle.std.proofs.lemmas.Result.{err_from_is_err_and}
use Rattle.std.specs.Prelude.{sum}
use Rattle.mt_defs.specs.Folder.{folder_of}
use Rattle.mt_check.proofs.GroupLemmas.{values_fit}
use Rattle.mt_check.proofs.SkipLemmas.{few_entries, entries_fail, entries_left, sum_of, type_at}
use Rattle.mt_check.proofs.skip_index.check_index.Goals as goal

pub read_entries-requires : goal.read_entries-requires
read_entries-requires c =
    few_entries c.args.skip.now c.args.accepted.now.rows c.args.accepted.now.granules c.as_slice.result.now c.in-Ok.sizes c.len.result c.as_slice.ensures c.in-Ok.ensures c.len.ensures c.requires.cut c.requires.few c.requires.skip.small

pub returns-in_err-entries : goal.returns-in_err-entries
returns-in_err-entries c =
    let p = err_from_is_err_and c.from_residual.result c.from_residual.ensures.1 in
    rw (p.1, p.2)
    (entries_fail c.args.table.now (folder_of c.args.files.now) c.args.accepted.now c.args.skip.now c.as_slice.result.now c.in-Ok.sizes c.len.result c.args.compact c.in_err-entries.field-0.0 c.as_slice.ensures c.in-Ok.ensures c.len.ensures c.requires.layout
    c.in_err-entries.ensures)

pub check_entries-requires-clause-fit : goal.check_entries-requires-clause-fit
check_entries-requires-clause-fit c =
    values_fit c.args.table.now.columns c.args.skip.now c.as_slice-2.result.now c.index-as_slice-skip.result c.args.accepted.now.rows c.as_slice-4.result.now c.as_slice-2.ensures c.as_slice-4.ensures c.requires.skip.known c.requires.fit

pub check_entries-requires-clause-cut : goal.check_entries-requires-clause-cut
check_entries-requires-clause-cut c =
    ap sum c.as_slice-3.ensures ∙ sum_of c.args.skip.now c.args.accepted.now.rows c.args.accepted.now.granules c.as_slice.result.now c.in-Ok.sizes c.as_slice.ensures c.in-Ok.ensures c.requires.cut c.requires.skip.some ∙ ap length (sym c.as_slice-4.ensures)

pub check_entries-requires-clause-small : goal.check_entries-requires-clause-small
check_entries-requires-clause-small c =
    few_entries c.args.skip.now c.args.accepted.now.rows c.args.accepted.now.granules c.as_slice.result.now c.in-Ok.sizes (length c.as_slice-3.result.now) c.as_slice.ensures c.in-Ok.ensures (ap length c.as_slice-3.ensures) c.requires.cut c.requires.few
    c.requires.skip.small

pub returns : goal.returns
returns c =
    entries_left c.args.table.now (folder_of c.args.files.now) c.args.accepted.now c.args.skip.now c.as_slice.result.now c.as_slice-3.result.now c.len.result c.args.compact _ _ c.as_slice-4.result.now c.check_entries.result c.as_slice.ensures
    (c.as_slice-3.ensures ∙ c.in-Ok.ensures) (c.len.ensures ∙ ap length (sym c.as_slice-3.ensures)) c.requires.layout c.in_ok-entries.ensures (type_at c.args.table.now.columns c.as_slice-2.result.now c.args.skip.now.column c.index-as_slice-skip.result c.as_slice-2.ensures c.requires.skip.known)
    c.as_slice-4.ensures c.check_entries.ensures
