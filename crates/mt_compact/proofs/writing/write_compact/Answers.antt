use Rattle.std.proofs.Common.{length, refl}
use Rattle.mt_compact.proofs.WrittenLemmas.{files_are, marks_count}
use Rattle.mt_compact.proofs.writing.write_compact.Goals as goal

pub finish-requires-clause-complete : goal.finish-requires-clause-complete
finish-requires-clause-complete c = marks_count c.args.columns.now c.args.rows.now c.args.granules.now c.in_ok-unfinished.unfinished c.in_ok-unfinished.ensures

pub returns : goal.returns
returns c =
    files_are c.args.columns.now c.args.rows.now c.args.granules.now _ _ (length c.args.columns.now) c.in_ok-unfinished.unfinished c.in_ok-written.written _ _ _ refl c.in_ok-unfinished.ensures c.in_ok-written.ensures
    c.in_ok-of_bytes.ensures c.in_ok-of_bytes-2.ensures c.in_ok-files.ensures c.in_ok-push.ensures.ok c.in_ok-push-2.ensures.ok
