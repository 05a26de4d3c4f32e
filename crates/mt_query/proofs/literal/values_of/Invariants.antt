use Rattle.std.proofs.Common.{◌≡◌, drop}
use Rattle.mt_query.specs.Lists.{all_of}
use Rattle.mt_query.specs.Literals.{literal_value_of}
use Rattle.mt_query.proofs.ListLemmas.{with_front}
use Rattle.mt_query.proofs.literal.values_of.Given as goal

abbrev pub invariant-loop-literal : goal.invariant-loop-literal
invariant-loop-literal l = with_front l.values (all_of (literal_value_of l.ty) (drop l.literal-index l.given)) ≡ all_of (literal_value_of l.ty) l.given
