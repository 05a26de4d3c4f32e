use Rattle.std.proofs.Common.{◌≡◌, ◌↔◌, sym, subst}
use Rattle.std.specs.Prelude.{IsTrue}
use Rattle.std.proofs.lemmas.Result.{IfOk-weaker}
use Rattle.mt_table.specs.declared.skip.SkipKind.TheVariants.{Minmax, Set}
use Rattle.mt_defs.specs.Partition.{IsMinmaxOf}
use Rattle.mt_defs.specs.SkipIndexes.{Summarizes, summarizes}
use Rattle.mt_skip.proofs.TestLemmas.{answers_tested}
use Rattle.mt_skip.proofs.agreement.agrees.Goals as goal

pub returns-in-Minmax-clause-exact : goal.returns-in-Minmax-clause-exact
returns-in-Minmax-clause-exact c =
    let ty = c.args.ty.now in
    let values = c.args.values.now in
    let entry = c.args.entry.now in
    IfOk-weaker c.agrees_minmax.result (λ agrees. IsTrue agrees ↔ IsMinmaxOf ty values entry) (λ agrees. IsTrue agrees ↔ Summarizes c.args.skip.now.kind ty values entry)
    (λ agrees e. subst (λ kind. IsTrue agrees ↔ Summarizes kind ty values entry) (sym c.in-Minmax.is) e) c.agrees_minmax.ensures

pub returns-in-Minmax-clause-test : goal.returns-in-Minmax-clause-test
returns-in-Minmax-clause-test c =
    let ty = c.args.ty.now in
    let values = c.args.values.now in
    let entry = c.args.entry.now in
    IfOk-weaker c.agrees_minmax.result (λ agrees. IsTrue agrees ↔ IsMinmaxOf ty values entry) (λ agrees. agrees ≡ summarizes c.args.skip.now.kind ty values entry)
    (λ agrees e. subst (λ kind. agrees ≡ summarizes kind ty values entry) (sym c.in-Minmax.is) (answers_tested Minmax ty values entry agrees e)) c.agrees_minmax.ensures

pub returns-in-Set-clause-test : goal.returns-in-Set-clause-test
returns-in-Set-clause-test c =
    let ty = c.args.ty.now in
    let values = c.args.values.now in
    let entry = c.args.entry.now in
    IfOk-weaker c.agrees_set.result (λ agrees. IsTrue agrees ↔ Summarizes (Set c.in-Set.max_rows) ty values entry) (λ agrees. agrees ≡ summarizes c.args.skip.now.kind ty values entry)
    (λ agrees e. subst (λ kind. agrees ≡ summarizes kind ty values entry) (sym c.in-Set.is) (answers_tested (Set c.in-Set.max_rows) ty values entry agrees e)) c.agrees_set.ensures
