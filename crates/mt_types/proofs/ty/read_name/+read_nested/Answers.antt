use Rattle.std.proofs.Common.{sym, subst, arith}
use Rattle.mt_types.specs.NameReading.{GivesType}
use Rattle.mt_types.proofs.ReadingLemmas.{nested_none}
use Rattle.mt_types.proofs.ty.read_name.+read_nested.Goals as goal

pub returns-in-None : goal.returns-in-None
returns-in-None t c =
    subst (GivesType c.read_optional-in-None.result) (sym (nested_none c.args.arrays c.args.text.now (omega (arith, c.if-arrays-eq0.false)) (sym c.in-None.ensures))) c.read_optional-in-None.ensures
