use Rattle.std.proofs.Common.{◌<◌, [], length, take, sym, subst, rules}
use Rattle.std.proofs.lemmas.List.{take_more}
use Rattle.mt_fold.specs.Gathered.{Gathers}
use Rattle.mt_exec.proofs.ColumnLemmas.{query_passes_any}
use Rattle.mt_exec.proofs.select.grouped_text.Goals as goal

pub add-requires-clause-shown : goal.add-requires-clause-shown
add-requires-clause-shown c = query_passes_any c.args.query.now

pub loop-row-preserved : goal.loop-row-preserved
loop-row-preserved c =
    let rows = c.args.rows.now in
    let i = c.loop-row.row in
    let within : i < length rows = search rules in
    record {
      suits = c.in_ok-partial-2.ensures.suits;
      gathers = subst (Gathers c.in_ok-partial-2.partial c.args.query.now) (sym (take_more rows i [] within)) (c.in_ok-partial-2.ensures.gathers (take i rows) c.loop-row.invariant.gathers);
    }
