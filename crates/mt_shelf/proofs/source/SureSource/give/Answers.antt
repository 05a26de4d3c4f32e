use Rattle.std.proofs.Common.{◌≡◌, Some, ap, take, drop, arith, length}
use Rattle.std.proofs.Common.{length-drop}
use Rattle.mt_shelf.proofs.Slices.{cut_there}
use Rattle.mt_shelf.proofs.source.SureSource.give.Goals as goal

pub returns-clause-gives : goal.returns-clause-gives
returns-clause-gives c =
    let same : take c.copy_some-count.result c.copy_some-count.new.into ≡ take c.copy_some-count.result (drop c.args.self.now.at c.args.self.now.bytes) = rw (← c.left_bytes.ensures.left) c.copy_some-count.ensures.same in
    ap Some (cut_there c.args.self.now.bytes (take c.copy_some-count.result c.copy_some-count.new.into) c.args.self.now.at c.copy_some-count.result same)

pub overflow_add-self : goal.overflow_add-self
overflow_add-self c = omega (arith, length-drop c.args.self.now.at c.args.self.now.bytes, ap length c.left_bytes.ensures.left, c.left_bytes.ensures.fits)
