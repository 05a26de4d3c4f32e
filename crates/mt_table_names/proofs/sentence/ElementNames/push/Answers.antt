use Rattle.std.proofs.Common.{◌∙◌, ap}
use Rattle.mt_table_names.specs.Sentence.{column_name, index_element_name, projection_element_name}
use Rattle.mt_table_names.proofs.SentenceLemmas.{gains, stays}
use Rattle.mt_table_names.proofs.sentence.ElementNames.push.Goals as goal

pub returns-in_ok-push-in-Column : goal.returns-in_ok-push-in-Column
returns-in_ok-push-in-Column c = λ before are. record {
  columns = gains column_name _ _ before c.args.element.now c.in-Column.name _ c.in_ok-push-in-Column.ensures.ok (c.in_ok-of_bytes-in-Column.ensures ∙ c.as_slice.ensures) (ap column_name c.in-Column.is) are.columns;
  indexes = stays index_element_name _ before c.args.element.now (ap index_element_name c.in-Column.is) are.indexes;
  projections = stays projection_element_name _ before c.args.element.now (ap projection_element_name c.in-Column.is) are.projections;
}

pub returns-in_ok-push-in-Index : goal.returns-in_ok-push-in-Index
returns-in_ok-push-in-Index c = λ before are. record {
  columns = stays column_name _ before c.args.element.now (ap column_name c.in-Index.is) are.columns;
  indexes = gains index_element_name _ _ before c.args.element.now c.in-Index.name _ c.in_ok-push-in-Index.ensures.ok (c.in_ok-of_bytes-in-Index.ensures ∙ c.as_slice-in-Index.ensures) (ap index_element_name c.in-Index.is) are.indexes;
  projections = stays projection_element_name _ before c.args.element.now (ap projection_element_name c.in-Index.is) are.projections;
}

pub returns-in_ok-push-in-Projection : goal.returns-in_ok-push-in-Projection
returns-in_ok-push-in-Projection c = λ before are. record {
  columns = stays column_name _ before c.args.element.now (ap column_name c.in-Projection.is) are.columns;
  indexes = stays index_element_name _ before c.args.element.now (ap index_element_name c.in-Projection.is) are.indexes;
  projections = gains projection_element_name _ _ before c.args.element.now c.in-Projection.name _ c.in_ok-push-in-Projection.ensures.ok (c.in_ok-of_bytes-in-Projection.ensures ∙ c.as_slice-in-Projection.ensures) (ap projection_element_name c.in-Projection.is) are.projections;
}
