use Rattle.std.proofs.Common.{◌≡◌, ◌↔◌, sym, subst}
use Rattle.std.specs.Prelude.{IsTrue, Some}
use Rattle.std.specs.Bool.{MatchBool}
use Rattle.std.proofs.lemmas.Result.{IfOk-weaker}
use Rattle.mt_defs.specs.Marks.{u64_bytes}
use Rattle.mt_defs.specs.SkipIndexes.{ListsDistinct, is_too_many}
use Rattle.mt_skip.specs.Gathering.{GathersDistinct}
use Rattle.mt_skip.proofs.agreement.agrees_set.Goals as goal

pub returns-in-Some : goal.returns-in-Some
returns-in-Some c =
    let gathers : GathersDistinct c.args.max_rows c.args.values.now (Some c.in-Some.distinct) = subst (GathersDistinct c.args.max_rows c.args.values.now) c.in-Some.is c.in_ok-distinct.ensures in
    let lists = ListsDistinct c.args.ty.now c.args.values.now c.args.entry.now in
    IfOk-weaker c.lists_distinct.result (λ agrees. IsTrue agrees ↔ lists) (λ agrees. IsTrue agrees ↔ MatchBool (is_too_many c.args.max_rows c.args.values.now) (c.args.entry.now ≡ u64_bytes 0) lists)
    (λ agrees e. subst (λ b. IsTrue agrees ↔ MatchBool b (c.args.entry.now ≡ u64_bytes 0) lists) (sym gathers.0) e) c.lists_distinct.ensures
