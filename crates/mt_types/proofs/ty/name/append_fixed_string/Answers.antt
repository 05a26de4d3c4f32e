use Rattle.std.proofs.Common.{◌∙◌}
use Rattle.mt_types.proofs.ty.name.append_fixed_string.Goals as goal

pub returns : goal.returns
returns c = rw (c.as_bytes.ensures.value ∙ c.in_ok-digits.ensures.ok) at c.append_three.ensures
