use Rattle.std.proofs.Common.{◌≡◌, true, ap, sym, ◌∙◌, subst}
use Rattle.std.specs.Prelude.{IfOk}
use Rattle.mt_table.specs.declared.projection.Projection.TheVariants.{Normal, Grouped}
use Rattle.mt_table.specs.Kept.{keeps_projection}
use Rattle.mt_table.specs.Stored.{inner_of, projection_at}
use Rattle.mt_table.proofs.StoredLemmas.{grouped_kept, normal_kept, projection_kept, read_at}
use Rattle.mt_table.proofs.definition.Table.inner.Goals as goal

pub normal-requires : goal.normal-requires
normal-requires c =
    let table = c.args.self.now in
    let is : Normal c.in-Normal.name c.as_slice-in-Normal.result.now c.as_slice-in-Normal-2.result.now ≡ projection_at table c.args.projection =
    ap (λ l. Normal c.in-Normal.name l c.as_slice-in-Normal-2.result.now) c.as_slice-in-Normal.ensures ∙ ap (Normal c.in-Normal.name c.in-Normal.columns) c.as_slice-in-Normal-2.ensures
    ∙ read_at table c.args.projection c.as_slice.result.now c.index-as_slice-projection.result (Normal c.in-Normal.name c.in-Normal.columns c.in-Normal.sort) c.requires.there c.as_slice.ensures c.index-as_slice-projection.is c.in-Normal.is in
    record {
      kept = normal_kept table.columns c.in-Normal.name c.as_slice-in-Normal.result.now c.as_slice-in-Normal-2.result.now
          (subst (λ p. keeps_projection table.columns p ≡ true) (sym is) (projection_kept table c.args.projection c.requires.there));
    }

pub grouped-requires : goal.grouped-requires
grouped-requires c =
    let table = c.args.self.now in
    let is : Grouped c.in-Grouped.name c.as_slice-in-Grouped.result.now c.as_slice-in-Grouped-2.result.now ≡ projection_at table c.args.projection =
    ap (λ l. Grouped c.in-Grouped.name l c.as_slice-in-Grouped-2.result.now) c.as_slice-in-Grouped.ensures ∙ ap (Grouped c.in-Grouped.name c.in-Grouped.keys) c.as_slice-in-Grouped-2.ensures
    ∙ read_at table c.args.projection c.as_slice.result.now c.index-as_slice-projection.result (Grouped c.in-Grouped.name c.in-Grouped.keys c.in-Grouped.aggs) c.requires.there c.as_slice.ensures c.index-as_slice-projection.is c.in-Grouped.is in
    record {
      kept = grouped_kept table.columns c.in-Grouped.name c.as_slice-in-Grouped.result.now c.as_slice-in-Grouped-2.result.now
          (subst (λ p. keeps_projection table.columns p ≡ true) (sym is) (projection_kept table c.args.projection c.requires.there));
    }

pub returns-in-Normal : goal.returns-in-Normal
returns-in-Normal c =
    let table = c.args.self.now in
    let is : Normal c.in-Normal.name c.as_slice-in-Normal.result.now c.as_slice-in-Normal-2.result.now ≡ projection_at table c.args.projection =
    ap (λ l. Normal c.in-Normal.name l c.as_slice-in-Normal-2.result.now) c.as_slice-in-Normal.ensures ∙ ap (Normal c.in-Normal.name c.in-Normal.columns) c.as_slice-in-Normal-2.ensures
    ∙ read_at table c.args.projection c.as_slice.result.now c.index-as_slice-projection.result (Normal c.in-Normal.name c.in-Normal.columns c.in-Normal.sort) c.requires.there c.as_slice.ensures c.index-as_slice-projection.is c.in-Normal.is in
    subst (λ p. IfOk c.normal.result (λ made. made ≡ inner_of table p)) is (c.normal.ensures c.in-Normal.name)

pub returns-in-Grouped : goal.returns-in-Grouped
returns-in-Grouped c =
    let table = c.args.self.now in
    let is : Grouped c.in-Grouped.name c.as_slice-in-Grouped.result.now c.as_slice-in-Grouped-2.result.now ≡ projection_at table c.args.projection =
    ap (λ l. Grouped c.in-Grouped.name l c.as_slice-in-Grouped-2.result.now) c.as_slice-in-Grouped.ensures ∙ ap (Grouped c.in-Grouped.name c.in-Grouped.keys) c.as_slice-in-Grouped-2.ensures
    ∙ read_at table c.args.projection c.as_slice.result.now c.index-as_slice-projection.result (Grouped c.in-Grouped.name c.in-Grouped.keys c.in-Grouped.aggs) c.requires.there c.as_slice.ensures c.index-as_slice-projection.is c.in-Grouped.is in
    subst (λ p. IfOk c.grouped.result (λ made. made ≡ inner_of table p)) is (c.grouped.ensures c.in-Grouped.name)
