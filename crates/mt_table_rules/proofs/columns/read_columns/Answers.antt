use Rattle.std.proofs.Common.{◌∙◌, sym}
use Rattle.mt_table_rules.proofs.ColumnLemmas.{no_type, one_column, passed_over}
use Rattle.mt_table_rules.proofs.columns.read_columns.Goals.{in-Column+in_ok-ty+in-Some+in_ok-name+in_ok-push, in_default}
use Rattle.mt_table_rules.proofs.columns.read_columns.Goals as goal

pub returns-in_default-2 : goal.returns-in_default-2
returns-in_default-2 c =
    no_type c.args.elements.now c.loop-element.columns c.loop-element.element-index c.element-item.result _ c.in-Column.name c.in-Column.ty c.in-Column.codecs c.loop-element-test.true c.element-item.is c.in-Column.is
    (sym c.in_default-2.is ∙ c.in_ok-ty.ensures) c.loop-element.invariant

pub loop-element-preserved : goal.loop-element-preserved
loop-element-preserved c = elim c.match-element.branch [
  | in-Column+in_ok-ty+in-Some+in_ok-name+in_ok-push w ↦ one_column c.args.elements.now c.loop-element.columns _ c.loop-element.element-index c.element-item.result _ w.in-Column.name w.in_ok-name.name w.in-Column.ty w.in-Column.codecs w.in-Some.ty
      c.loop-element-test.true c.element-item.is w.in-Column.is (sym w.in-Some.is ∙ w.in_ok-ty.ensures) (w.in_ok-name.ensures ∙ w.as_slice.ensures) (w.columns-is ∙ w.in_ok-push.ensures.ok) c.loop-element.invariant
  | in_default w ↦ passed_over c.args.elements.now c.loop-element.columns _ c.loop-element.element-index c.element-item.result _ c.loop-element-test.true c.element-item.is w.in_default.not-Column w.columns-is c.loop-element.invariant
]
