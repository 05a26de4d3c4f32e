use Rattle.std.proofs.Common.{◌≡◌, List, subst, ◌∙◌}
use Rattle.std.specs.Prelude.{IfOk}
use Rattle.mt_types.specs.declared.value.Value.{Value}
use Rattle.mt_defs.specs.SkipIndexes.{summarizes}
use Rattle.mt_check.proofs.skip_index.is_entry_of.Goals as goal

pub returns : goal.returns
returns c =
    subst (λ (values : List Value). IfOk c.agrees.result (λ is. is ≡ summarizes c.args.skip.now.kind c.args.ty.now values c.args.entry.now)) (c.as_slice.ensures ∙ c.in_ok-values.ensures) c.agrees.ensures.test
