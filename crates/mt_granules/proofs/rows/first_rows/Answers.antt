use Rattle.std.proofs.Common.{List, [], length, ap, sym, ◌∙◌, arith}
use Rattle.mt_defs.specs.Rows.{Row}
use Rattle.mt_granules.specs.ColumnRows.{all_values, with_column}
use Rattle.mt_granules.proofs.RowLemmas.{column_added, length-rows_of}
use Rattle.mt_granules.proofs.rows.first_rows.Goals as goal

pub append_column-requires : goal.append_column-requires
append_column-requires c = omega (arith, c.requires.many, ap (λ (l : List Row). length l) c.in_ok-rows.ensures, length-rows_of c.args.count [], c.in_ok-rows.rows.ok.0)

pub returns : goal.returns
returns c = c.in_ok-append_column.ensures ∙ ap (λ (l : List Row). with_column l (all_values c.args.values)) c.in_ok-rows.ensures ∙ sym (column_added c.args.count [] (all_values c.args.values) c.requires.many)
