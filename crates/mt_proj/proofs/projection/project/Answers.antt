use Rattle.std.proofs.Common.{◌≡◌, ap, sym, ◌∙◌, subst}
use Rattle.std.proofs.lemmas.Result.{IfOk-weaker}
use Rattle.mt_table.specs.declared.projection.Projection.TheVariants.{Normal, Grouped}
use Rattle.mt_table.proofs.StoredLemmas.{read_at}
use Rattle.mt_defs.specs.Projections.{IsProjectionOf}
use Rattle.mt_defs.specs.Writer.{projection_rows}
use Rattle.mt_proj.specs.Keys.{projection_at}
use Rattle.mt_proj.proofs.LawLemmas.{written_stand}
use Rattle.mt_proj.proofs.projection.project.Goals as goal

pub returns-in-Normal-clause-written : goal.returns-in-Normal-clause-written
returns-in-Normal-clause-written c =
    let table = c.args.table.now in
    let is : Normal c.in-Normal.name c.as_slice-in-Normal.result.now c.as_slice-in-Normal-2.result.now ≡ projection_at table c.args.projection =
    ap (λ l. Normal c.in-Normal.name l c.as_slice-in-Normal-2.result.now) c.as_slice-in-Normal.ensures ∙ ap (Normal c.in-Normal.name c.in-Normal.columns) c.as_slice-in-Normal-2.ensures
    ∙ read_at table c.args.projection c.as_slice.result.now c.index-as_slice-projection.result (Normal c.in-Normal.name c.in-Normal.columns c.in-Normal.sort) c.requires.there c.as_slice.ensures c.index-as_slice-projection.is c.in-Normal.is in
    IfOk-weaker c.project_normal.result (λ made. made ≡ projection_rows table (Normal c.in-Normal.name c.as_slice-in-Normal.result.now c.as_slice-in-Normal-2.result.now) c.args.rows.now)
    (λ made. made ≡ projection_rows table (projection_at table c.args.projection) c.args.rows.now) (λ made e. e ∙ ap (λ p. projection_rows table p c.args.rows.now) is) (c.project_normal.ensures c.in-Normal.name)

pub returns-in-Normal-clause-stands : goal.returns-in-Normal-clause-stands
returns-in-Normal-clause-stands c =
    let table = c.args.table.now in
    let at = projection_at table c.args.projection in
    IfOk-weaker c.project_normal.result (λ made. made ≡ projection_rows table at c.args.rows.now) (λ made. IsProjectionOf table at c.args.rows.now made)
    (λ made e. subst (IsProjectionOf table at c.args.rows.now) (sym e) (written_stand table at c.args.rows.now)) (returns-in-Normal-clause-written c)

pub returns-in-Grouped-clause-written : goal.returns-in-Grouped-clause-written
returns-in-Grouped-clause-written c =
    let table = c.args.table.now in
    let is : Grouped c.in-Grouped.name c.as_slice-in-Grouped.result.now c.as_slice-in-Grouped-2.result.now ≡ projection_at table c.args.projection =
    ap (λ l. Grouped c.in-Grouped.name l c.as_slice-in-Grouped-2.result.now) c.as_slice-in-Grouped.ensures ∙ ap (Grouped c.in-Grouped.name c.in-Grouped.keys) c.as_slice-in-Grouped-2.ensures
    ∙ read_at table c.args.projection c.as_slice.result.now c.index-as_slice-projection.result (Grouped c.in-Grouped.name c.in-Grouped.keys c.in-Grouped.aggs) c.requires.there c.as_slice.ensures c.index-as_slice-projection.is c.in-Grouped.is in
    IfOk-weaker c.project_grouped.result (λ made. made ≡ projection_rows table (Grouped c.in-Grouped.name c.as_slice-in-Grouped.result.now c.as_slice-in-Grouped-2.result.now) c.args.rows.now)
    (λ made. made ≡ projection_rows table (projection_at table c.args.projection) c.args.rows.now) (λ made e. e ∙ ap (λ p. projection_rows table p c.args.rows.now) is) (c.project_grouped.ensures table c.in-Grouped.name)

pub returns-in-Grouped-clause-stands : goal.returns-in-Grouped-clause-stands
returns-in-Grouped-clause-stands c =
    let table = c.args.table.now in
    let at = projection_at table c.args.projection in
    IfOk-weaker c.project_grouped.result (λ made. made ≡ projection_rows table at c.args.rows.now) (λ made. IsProjectionOf table at c.args.rows.now made)
    (λ made e. subst (IsProjectionOf table at c.args.rows.now) (sym e) (written_stand table at c.args.rows.now)) (returns-in-Grouped-clause-written c)
