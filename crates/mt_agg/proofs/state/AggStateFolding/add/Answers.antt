use Rattle.std.proofs.Common.{◌∙◌, ap, ◌≡◌}
use Rattle.std.proofs.lemmas.Int.{to_z-of_z}
use Rattle.mt_agg.specs.States.{state_with}
use Rattle.mt_agg.proofs.FoldLemmas.{withs}
use Rattle.mt_agg.proofs.state.AggStateFolding.add.Goals as goal

pub returns-clause-fold : goal.returns-clause-fold
returns-clause-fold c =
    let fits = c.ranges.v in
    let is : c.with.result ≡ state_with c.args.self.now c.args.v = simp to_z-of_z at c.with.ensures in
    λ a ns e. is ∙ ap (λ s. state_with s c.args.v) e ∙ withs a ns c.args.v
