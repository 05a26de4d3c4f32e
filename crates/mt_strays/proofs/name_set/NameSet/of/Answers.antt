use Rattle.std.proofs.Common.{◌∙◌, arith}
use Rattle.mt_strays.proofs.SetLemmas.{holds_all, holds_more}
use Rattle.mt_strays.proofs.name_set.NameSet.of.Goals as goal

pub loop-name-preserved : goal.loop-name-preserved
loop-name-preserved c =
    holds_more c.loop-name.set.keys c.insert.new.self.keys c.args.names.now c.loop-name.name-index c.as_slice.result c.name-item.result c.loop-name-test.true (c.as_slice.ensures ∙ c.name-item.is) c.in_ok-insert.ensures.keys c.loop-name.invariant

pub returns : goal.returns
returns c = let over = c.loop-name-test.false in holds_all c.loop-name.set.keys c.args.names.now c.loop-name.name-index (omega (arith, over)) c.loop-name.invariant
