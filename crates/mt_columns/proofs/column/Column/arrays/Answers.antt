use Rattle.std.proofs.Common.{◌≡◌, List, length, map, ap, ◌∙◌}
use Rattle.mt_types.specs.declared.value.Value.{Value}
use Rattle.mt_types.specs.declared.value.Value.TheVariants.{List as Items}
use Rattle.mt_cells.specs.Pieces.{cut}
use Rattle.mt_columns.specs.Nesting.{Columned}
use Rattle.mt_columns.proofs.ColumnLemmas.{around_nested, around_values}
use Rattle.mt_columns.proofs.column.Column.arrays.Goals as goal

pub invariant_of-result : goal.invariant_of-result
invariant_of-result c = around_nested c.args.sizes c.self.inside.levels.items c.insert.new.self.items c.self.inside.leaf.values c.in_ok-insert.ensures.items (ap (λ (d : Columned). length d.values) c.self.view_is ∙ c.requires) c.self.invariant

pub returns-clause-values : goal.returns-clause-values
returns-clause-values c =
    around_values c.args.sizes c.self.inside.levels.items c.insert.new.self.items c.self.inside.leaf.values c.in_ok-insert.ensures.items
    ∙ ap (λ (d : Columned). map (λ (xs : List Value). Items xs) (cut c.args.sizes d.values)) c.self.view_is
