use Rattle.std.proofs.Common.{◌∙◌, sym, ap}
use Rattle.std.specs.Borrow.{Bor}
use Rattle.std.proofs.lemmas.List.{take-map}
use Rattle.mt_defs.specs.Rows.{Row}
use Rattle.mt_sort.specs.References.{rows_in}
use Rattle.mt_fold.specs.Answer.{limited}
use Rattle.mt_exec.proofs.plain.limit_to.Goals as goal

pub returns-in-Some : goal.returns-in-Some
returns-in-Some c =
    ap rows_in c.truncate.ensures.items ∙ sym (take-map (λ (row : Bor Row). row.now) c.in-Some.limit c.args.rows.items)
    ∙ ap (λ limit. limited limit (rows_in c.args.rows.items)) (sym c.in-Some.is)
