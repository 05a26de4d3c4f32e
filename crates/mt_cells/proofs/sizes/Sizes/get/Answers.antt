use Rattle.std.proofs.Common.{arith}
use Rattle.std.proofs.lemmas.List.Sums.{sum_by_more}
use Rattle.mt_cells.proofs.sizes.Sizes.get.Goals as goal

pub overflow_sub-result : goal.overflow_sub-result
overflow_sub-result c = omega (arith, c.start.ensures, c.end.ensures, sum_by_more (λ n. n) c.args.self.now c.args.index 0 c.requires)

pub returns : goal.returns
returns c = omega (arith, c.start.ensures, c.end.ensures, sum_by_more (λ n. n) c.args.self.now c.args.index 0 c.requires)
