use Rattle.std.proofs.Common.{◌≡◌, length, ap, ◌∙◌, arith}
use Rattle.std.specs.Ordering.{is_eq}
use Rattle.std.proofs.Math.Dec.{leb}
use Rattle.std.proofs.lemmas.Bool.{leb-true, leb-false}
use Rattle.mt_proj.proofs.WalkLemmas.{rows_end}
use Rattle.mt_proj.proofs.normal.are_cells.Goals as goal

pub returns : goal.returns
returns c =
    let ended : c.loop-i.i ≡ length c.args.rows.now = omega arith in
    let all = leb (length c.args.values.now) (length c.args.rows.now) in
    rows_end c.args.columns.now c.args.rows.now c.args.values.now c.loop-i.i all ended (λ e. omega (arith, ended, leb-true (length c.args.values.now) (length c.args.rows.now) e))
    (λ e. omega (arith, ended, leb-false (length c.args.values.now) (length c.args.rows.now) e))
    ∙ ap is_eq c.loop-i.invariant
