use Rattle.std.proofs.Common.{◌≡◌, map, rules}
use Rattle.mt_fold.proofs.AnswerLemmas.{states_row, all_whole}
use Rattle.mt_fold.proofs.answer.rows_of_groups.Goals as goal

pub returns-clause-whole : goal.returns-clause-whole
returns-clause-whole c =
    let made : c.loop-key.rows.items ≡ map (states_row c.args.table.now c.args.query.now) c.args.groups.entries = search rules in
    rw made (all_whole c.args.table.now c.args.query.now c.args.groups.entries)
