use Rattle.std.proofs.Common.{◌≡◌, true, arith}
use Rattle.mt_match.proofs.EntryLemmas.{different}
use Rattle.mt_match.proofs.entry.may_differing.Goals as goal

pub returns : goal.returns
returns c max_rows count ty bytes items first read =
    let once : c.in_ok-are_distinct.field-0 ≡ true = grind (arith, c.if-not-branch.false) in
    rw c.may_among.ensures
    (different c.args.cond.now c.args.column max_rows ty bytes count items first c.args.values.now read c.in_ok-are_distinct.field-0 once c.in_ok-are_distinct.ensures)
