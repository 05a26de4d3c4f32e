use Rattle.mt_exec.proofs.ColumnLemmas.{given_passes_any}
use Rattle.mt_exec.proofs.plain.kept_rows.Goals as goal

pub keeps-requires-clause-shown : goal.keeps-requires-clause-shown
keeps-requires-clause-shown c = given_passes_any c.args.cond.now
