use Rattle.std.proofs.Common.{rules}
use Rattle.mt_note.proofs.NoteLemmas.{noted_whole}
use Rattle.mt_note.proofs.reporting.report.Goals as goal

pub returns-in-Ok-write_all : goal.returns-in-Ok-write_all
returns-in-Ok-write_all g c = record {
  noted = noted_whole c.args.status _ _ _ _ c.in_default.not-Done (rw (← c.in-Ok.ensures, ← c.as_slice.ensures) c.in-Ok-write_all.ensures.ok);
  same = search rules;
}
