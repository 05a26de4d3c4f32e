use Rattle.std.proofs.Common.{◌-◌, length, refl, arith}
use Rattle.mt_skip.specs.Extremes.{is_better}
use Rattle.mt_skip.proofs.ExtremeLemmas.{best_begins}
use Rattle.mt_skip.proofs.extreme.extreme_of.Goals as goal

pub loop-left-init : goal.loop-left-init
loop-left-init c = record {
  within = omega arith;
  behind = omega arith;
  best = best_begins (is_better c.args.extreme) c.args.values.now (length c.args.values.now - 1) c.requires.some refl;
}
