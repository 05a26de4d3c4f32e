use Rattle.std.proofs.Common.{◌≡◌, true, subst}
use Rattle.std.specs.Prelude.{Some}
use Rattle.std.proofs.lemmas.Result.{IfOk-weaker}
use Rattle.mt_table.specs.declared.skip.SkipKind.TheVariants.{Minmax, Set}
use Rattle.mt_defs.specs.SkipIndexes.{Summarizes}
use Rattle.mt_match.specs.Matching.{JudgesEntry}
use Rattle.mt_match.proofs.MatchLemmas.{entry_holds}
use Rattle.mt_match.proofs.matching.may_match.Goals as goal

pub returns-in-Minmax-clause-sound : goal.returns-in-Minmax-clause-sound
returns-in-Minmax-clause-sound c columns values row all few sums suits fits among holds =
    let cond = c.args.cond.now in
    let column = c.args.skip.now.column in
    let ty = c.args.ty.now in
    let entry = c.args.entry.now in
    IfOk-weaker c.may_minmax.result (JudgesEntry cond column Minmax ty entry) (λ may. may ≡ Some true)
    (λ may judges. entry_holds cond column columns row suits fits holds ty values entry all few among Minmax may judges (subst (λ kind. Summarizes kind ty values entry) c.in-Minmax.is sums))
    c.may_minmax.ensures

pub returns-in-Set-clause-sound : goal.returns-in-Set-clause-sound
returns-in-Set-clause-sound c columns values row all few sums suits fits among holds =
    let cond = c.args.cond.now in
    let column = c.args.skip.now.column in
    let ty = c.args.ty.now in
    let entry = c.args.entry.now in
    let max_rows = c.in-Set.max_rows in
    IfOk-weaker c.may_set.result (JudgesEntry cond column (Set max_rows) ty entry) (λ may. may ≡ Some true)
    (λ may judges. entry_holds cond column columns row suits fits holds ty values entry all few among (Set max_rows) may judges (subst (λ kind. Summarizes kind ty values entry) c.in-Set.is sums))
    c.may_set.ensures
