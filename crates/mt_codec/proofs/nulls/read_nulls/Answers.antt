use Rattle.std.proofs.Common.{length}
use Rattle.std.proofs.lemmas.Result.{err_from_is_err_and}
use Rattle.mt_codec.specs.ColumnReading.{null_front}
use Rattle.mt_codec.specs.Cursor.{is_apart, lists, others}
use Rattle.mt_codec.proofs.StreamLemmas.{stream_missing, items_fail, after_fails, all_read}
use Rattle.mt_codec.proofs.nulls.read_nulls.Goals as goal

pub returns-in_default-clause-reads : goal.returns-in_default-clause-reads
returns-in_default-clause-reads c = stream_missing (is_apart c.args.streams) null_front c.args.stream c.args.count (lists c.args.streams) c.in_default.ensures

pub returns-in_err-nulls-clause-reads : goal.returns-in_err-nulls-clause-reads
returns-in_err-nulls-clause-reads c =
    let p = err_from_is_err_and c.from_residual.result c.from_residual.ensures.1 in
    rw (p.1, p.2) (items_fail (is_apart c.args.streams) null_front c.args.stream c.args.count (lists c.args.streams) c.in-Some.bytes.now (others (lists c.args.streams)) c.in_err-nulls.field-0.0 c.in-Some.ensures c.in_err-nulls.ensures.reads)

pub returns-in_err-left-clause-reads : goal.returns-in_err-left-clause-reads
returns-in_err-left-clause-reads c =
    let p = err_from_is_err_and c.from_residual-in_err-left.result c.from_residual-in_err-left.ensures.1 in
    rw (p.1, p.2) (after_fails (is_apart c.args.streams) null_front c.args.stream c.args.count (length c.in_ok-nulls.nulls.now) (lists c.args.streams) c.in-Some.bytes.now (others (lists c.args.streams)) c.in_ok-nulls.nulls.now c.in_ok-nulls.rest.now c.in_err-left.field-0.0
    c.in-Some.ensures c.in_ok-nulls.ensures.reads c.in_ok-nulls.ensures.many c.in_err-left.ensures)

pub returns-clause-reads : goal.returns-clause-reads
returns-clause-reads c = (
  c.in_ok-left.ensures.0,
  all_read (is_apart c.args.streams) null_front c.args.stream c.args.count (length c.in_ok-nulls.nulls.now) (lists c.args.streams) c.in-Some.bytes.now (others (lists c.args.streams)) c.in_ok-nulls.nulls.now c.in_ok-nulls.rest.now (lists c.in_ok-left.left)
      c.in-Some.ensures c.in_ok-nulls.ensures.reads c.in_ok-nulls.ensures.many c.in_ok-left.ensures.1,
)
