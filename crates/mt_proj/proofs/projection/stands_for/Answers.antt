use Rattle.std.proofs.Common.{◌≡◌, ◌↔◌, ap, ◌∙◌, subst}
use Rattle.std.specs.Prelude.{IsTrue}
use Rattle.std.proofs.lemmas.Result.{IfOk-weaker}
use Rattle.mt_table.specs.declared.projection.Projection.TheVariants.{Normal, Grouped}
use Rattle.mt_table.proofs.StoredLemmas.{read_at}
use Rattle.mt_defs.specs.Projections.{IsProjectionOf, is_projection_of}
use Rattle.mt_proj.specs.Keys.{projection_at}
use Rattle.mt_proj.proofs.TestLemmas.{answers_tested}
use Rattle.mt_proj.proofs.projection.stands_for.Goals as goal

pub returns-in-Normal-clause-exact : goal.returns-in-Normal-clause-exact
returns-in-Normal-clause-exact c =
    let table = c.args.table.now in
    let is : Normal c.in-Normal.name c.as_slice-in-Normal.result.now c.in-Normal.sort ≡ projection_at table c.args.projection =
    ap (λ l. Normal c.in-Normal.name l c.in-Normal.sort) c.as_slice-in-Normal.ensures
    ∙ read_at table c.args.projection c.as_slice.result.now c.index-as_slice-projection.result (Normal c.in-Normal.name c.in-Normal.columns c.in-Normal.sort) c.requires.there c.as_slice.ensures c.index-as_slice-projection.is c.in-Normal.is in
    IfOk-weaker c.stands_normal.result (λ stands. IsTrue stands ↔ IsProjectionOf table (Normal c.in-Normal.name c.as_slice-in-Normal.result.now c.in-Normal.sort) c.args.rows.now c.args.stored.now)
    (λ stands. IsTrue stands ↔ IsProjectionOf table (projection_at table c.args.projection) c.args.rows.now c.args.stored.now)
    (λ stands e. subst (λ p. IsTrue stands ↔ IsProjectionOf table p c.args.rows.now c.args.stored.now) is e) c.stands_normal.ensures

pub returns-in-Normal-clause-test : goal.returns-in-Normal-clause-test
returns-in-Normal-clause-test c =
    let table = c.args.table.now in
    let is : Normal c.in-Normal.name c.as_slice-in-Normal.result.now c.in-Normal.sort ≡ projection_at table c.args.projection =
    ap (λ l. Normal c.in-Normal.name l c.in-Normal.sort) c.as_slice-in-Normal.ensures
    ∙ read_at table c.args.projection c.as_slice.result.now c.index-as_slice-projection.result (Normal c.in-Normal.name c.in-Normal.columns c.in-Normal.sort) c.requires.there c.as_slice.ensures c.index-as_slice-projection.is c.in-Normal.is in
    IfOk-weaker c.stands_normal.result (λ stands. IsTrue stands ↔ IsProjectionOf table (Normal c.in-Normal.name c.as_slice-in-Normal.result.now c.in-Normal.sort) c.args.rows.now c.args.stored.now)
    (λ stands. stands ≡ is_projection_of table (projection_at table c.args.projection) c.args.rows.now c.args.stored.now)
    (λ stands e. subst (λ p. stands ≡ is_projection_of table p c.args.rows.now c.args.stored.now) is
    (answers_tested table (Normal c.in-Normal.name c.as_slice-in-Normal.result.now c.in-Normal.sort) c.args.rows.now c.args.stored.now stands e)) c.stands_normal.ensures

pub returns-in-Grouped-clause-exact : goal.returns-in-Grouped-clause-exact
returns-in-Grouped-clause-exact c =
    let table = c.args.table.now in
    let is : Grouped c.in-Grouped.name c.as_slice-in-Grouped.result.now c.as_slice-in-Grouped-2.result.now ≡ projection_at table c.args.projection =
    ap (λ l. Grouped c.in-Grouped.name l c.as_slice-in-Grouped-2.result.now) c.as_slice-in-Grouped.ensures ∙ ap (Grouped c.in-Grouped.name c.in-Grouped.keys) c.as_slice-in-Grouped-2.ensures
    ∙ read_at table c.args.projection c.as_slice.result.now c.index-as_slice-projection.result (Grouped c.in-Grouped.name c.in-Grouped.keys c.in-Grouped.aggs) c.requires.there c.as_slice.ensures c.index-as_slice-projection.is c.in-Grouped.is in
    IfOk-weaker c.stands_grouped.result (λ stands. IsTrue stands ↔ IsProjectionOf table (Grouped c.in-Grouped.name c.as_slice-in-Grouped.result.now c.as_slice-in-Grouped-2.result.now) c.args.rows.now c.args.stored.now)
    (λ stands. IsTrue stands ↔ IsProjectionOf table (projection_at table c.args.projection) c.args.rows.now c.args.stored.now)
    (λ stands e. subst (λ p. IsTrue stands ↔ IsProjectionOf table p c.args.rows.now c.args.stored.now) is e) c.stands_grouped.ensures

pub returns-in-Grouped-clause-test : goal.returns-in-Grouped-clause-test
returns-in-Grouped-clause-test c =
    let table = c.args.table.now in
    let is : Grouped c.in-Grouped.name c.as_slice-in-Grouped.result.now c.as_slice-in-Grouped-2.result.now ≡ projection_at table c.args.projection =
    ap (λ l. Grouped c.in-Grouped.name l c.as_slice-in-Grouped-2.result.now) c.as_slice-in-Grouped.ensures ∙ ap (Grouped c.in-Grouped.name c.in-Grouped.keys) c.as_slice-in-Grouped-2.ensures
    ∙ read_at table c.args.projection c.as_slice.result.now c.index-as_slice-projection.result (Grouped c.in-Grouped.name c.in-Grouped.keys c.in-Grouped.aggs) c.requires.there c.as_slice.ensures c.index-as_slice-projection.is c.in-Grouped.is in
    IfOk-weaker c.stands_grouped.result (λ stands. IsTrue stands ↔ IsProjectionOf table (Grouped c.in-Grouped.name c.as_slice-in-Grouped.result.now c.as_slice-in-Grouped-2.result.now) c.args.rows.now c.args.stored.now)
    (λ stands. stands ≡ is_projection_of table (projection_at table c.args.projection) c.args.rows.now c.args.stored.now)
    (λ stands e. subst (λ p. stands ≡ is_projection_of table p c.args.rows.now c.args.stored.now) is
    (answers_tested table (Grouped c.in-Grouped.name c.as_slice-in-Grouped.result.now c.as_slice-in-Grouped-2.result.now) c.args.rows.now c.args.stored.now stands e)) c.stands_grouped.ensures
