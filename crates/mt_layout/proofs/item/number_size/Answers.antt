use Rattle.std.proofs.Common.{refl, ◌∙◌, arith}
use Rattle.mt_types.specs.declared.ty.Ty.{out-Ty}
use Rattle.mt_layout.proofs.ItemLemmas.{number_UInt, number_Int, number_Date, number_Moment, number_none}
use Rattle.mt_layout.proofs.item.number_size.Goals as goal

pub returns-in-UInt-clause-size : goal.returns-in-UInt-clause-size
returns-in-UInt-clause-size c n = number_UInt c.args.ty.now c.in-UInt.width n c.in-UInt.is ∙ c.width_size.ensures.size n

pub returns-in-Int-clause-size : goal.returns-in-Int-clause-size
returns-in-Int-clause-size c n = number_Int c.args.ty.now c.in-Int.width n c.in-Int.is ∙ c.width_size-in-Int.ensures.size n

pub returns-in-Date-clause-size : goal.returns-in-Date-clause-size
returns-in-Date-clause-size c n = number_Date c.args.ty.now n c.in-Date.is

pub returns-in-Moment-clause-size : goal.returns-in-Moment-clause-size
returns-in-Moment-clause-size c n = number_Moment c.args.ty.now n c.in-Moment.is

pub returns-in_default : goal.returns-in_default
returns-in_default c = record {
  size = λ n. number_none c.args.ty.now n (out-Ty c.args.ty.now) refl c.in_default.not-UInt c.in_default.not-Int c.in_default.not-Date c.in_default.not-Moment;
  bound = omega arith;
}
