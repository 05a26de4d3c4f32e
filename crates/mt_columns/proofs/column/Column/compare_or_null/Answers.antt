use Rattle.std.proofs.Common.{◌≤◌, length, ◌∙◌, arith}
use Rattle.mt_columns.proofs.CompareLemmas.{null_past}
use Rattle.mt_columns.proofs.column.Column.compare_or_null.Goals as goal

pub returns-then-b-count : goal.returns-then-b-count
returns-then-b-count c =
    let past : length c.args.self.now.values ≤ c.args.b = omega (arith, c.if-b-count.true, c.len-count.ensures) in
    c.reverse.ensures ∙ null_past c.args.self.now.values c.args.a c.args.b c.compare_null_to-then-b-count.result past c.compare_null_to-then-b-count.ensures
