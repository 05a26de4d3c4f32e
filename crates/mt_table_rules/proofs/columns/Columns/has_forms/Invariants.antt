use Rattle.std.proofs.Common.{◌≡◌, drop}
use Rattle.std.specs.List.{list_all}
use Rattle.mt_table_rules.specs.Rules.{has_form}
use Rattle.mt_table_rules.proofs.columns.Columns.has_forms.Given as goal

abbrev pub invariant-loop-element : goal.invariant-loop-element
invariant-loop-element l = list_all (has_form l.self.columns.now) (drop l.element-index l.elements) ≡ list_all (has_form l.self.columns.now) l.elements
