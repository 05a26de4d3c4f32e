use Rattle.std.proofs.Common.{◌∙◌}
use Rattle.std.proofs.lemmas.Result.{err_from_is_err_and}
use Rattle.mt_codec.specs.ColumnReading.{size_front}
use Rattle.mt_codec.specs.Cursor.{is_apart, lists, others}
use Rattle.mt_codec.proofs.StreamLemmas.{stream_missing, items_fail, after_fails, all_read}
use Rattle.mt_codec.proofs.arrays.read_sizes.Goals as goal

pub returns-in_default : goal.returns-in_default
returns-in_default c = stream_missing (is_apart c.args.streams) size_front c.args.stream c.args.count (lists c.args.streams) c.in_default.ensures

pub returns-in_err-sizes : goal.returns-in_err-sizes
returns-in_err-sizes c =
    let p = err_from_is_err_and c.from_residual.result c.from_residual.ensures.1 in
    rw (p.1, p.2) (items_fail (is_apart c.args.streams) size_front c.args.stream c.args.count (lists c.args.streams) c.in-Some.bytes.now (others (lists c.args.streams)) c.in_err-sizes.field-0.0 c.in-Some.ensures c.in_err-sizes.ensures.reads)

pub returns-in_err-left : goal.returns-in_err-left
returns-in_err-left c =
    let p = err_from_is_err_and c.from_residual-in_err-left.result c.from_residual-in_err-left.ensures.1 in
    rw (p.1, p.2) (after_fails (is_apart c.args.streams) size_front c.args.stream c.args.count c.len.result (lists c.args.streams) c.in-Some.bytes.now (others (lists c.args.streams)) c.in_ok-sizes.sizes c.in_ok-sizes.rest.now c.in_err-left.field-0.0
    c.in-Some.ensures c.in_ok-sizes.ensures.reads (c.len.ensures ∙ c.in_ok-sizes.ensures.many) c.in_err-left.ensures)

pub returns : goal.returns
returns c = (
  c.in_ok-left.ensures.0,
  all_read (is_apart c.args.streams) size_front c.args.stream c.args.count c.len.result (lists c.args.streams) c.in-Some.bytes.now (others (lists c.args.streams)) c.in_ok-sizes.sizes c.in_ok-sizes.rest.now (lists c.in_ok-left.left)
      c.in-Some.ensures c.in_ok-sizes.ensures.reads (c.len.ensures ∙ c.in_ok-sizes.ensures.many) c.in_ok-left.ensures.1,
)
