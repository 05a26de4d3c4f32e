use Rattle.std.proofs.Common.{◌≡◌, ◌<◌, sym, ◌∙◌, length}
use Rattle.mt_defs.specs.WrittenPartition.{minmax_bytes}
use Rattle.mt_skip.proofs.DistinctLemmas.{some_listed}
use Rattle.mt_skip.proofs.ExtremeLemmas.{minmax_is}
use Rattle.mt_skip.proofs.agreement.agrees_minmax.Goals as goal

pub returns : goal.returns
returns c =
    let values = c.args.values.now in
    let some : 0 < length values = some_listed values c.is_empty.result c.is_empty.ensures c.if-is_empty.false in
    let test = minmax_is c.args.ty.now values c.args.entry.now some in
    let written : c.as_slice.result.now ≡ minmax_bytes c.args.ty.now values = c.as_slice.ensures ∙ c.in_ok-written.ensures in (
      λ e. test.0 (sym (c.are_same_bytes.ensures.0 e) ∙ written),
      λ m. c.are_same_bytes.ensures.1 (written ∙ sym (test.1 m)),
    )
