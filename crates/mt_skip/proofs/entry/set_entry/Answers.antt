use Rattle.std.proofs.Common.{sym, subst}
use Rattle.std.specs.Prelude.{Some}
use Rattle.mt_skip.specs.Gathering.{GathersDistinct}
use Rattle.mt_skip.specs.Items.{AllFit}
use Rattle.mt_skip.proofs.DistinctLemmas.{distinct_fit}
use Rattle.mt_skip.proofs.entry.set_entry.Goals as goal

pub listed_entry-requires-clause-fit : goal.listed_entry-requires-clause-fit
listed_entry-requires-clause-fit c =
    let gathers : GathersDistinct c.args.max_rows c.args.values.now (Some c.in-Some.distinct) = subst (GathersDistinct c.args.max_rows c.args.values.now) c.in-Some.is c.in_ok-distinct.ensures in
    subst (AllFit c.args.ty.now) (sym gathers.1) (distinct_fit c.args.ty.now c.args.values.now c.requires.fit)
