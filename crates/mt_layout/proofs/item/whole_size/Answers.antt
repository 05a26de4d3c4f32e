use Rattle.std.proofs.Common.{pos, length, ap, ◌∙◌, arith}
use Rattle.mt_types.specs.declared.value.Value.{out-Value}
use Rattle.mt_types.specs.declared.value.Value.TheVariants.{outs-Huge}
use Rattle.mt_types.specs.Items.{whole_at, width}
use Rattle.mt_layout.proofs.SizeLemmas.{saturated-small}
use Rattle.mt_layout.proofs.item.whole_size.Goals as goal

pub returns-in-Huge : goal.returns-in-Huge
returns-in-Huge c =
    saturated-small c.width_size-in-Huge.result _ (omega (arith, c.width_size-in-Huge.ensures.bound))
    (ap (λ level. length (whole_at (width c.args.width) level)) (ap out-Value c.in-Huge.is ∙ outs-Huge c.in-Huge.field-0) ∙ c.width_size-in-Huge.ensures.size (pos c.in-Huge.field-0))
