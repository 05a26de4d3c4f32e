use Rattle.std.proofs.Common.{Ok, Err}
use Rattle.mt_command.specs.declared.status.Status.TheVariants.{BadTable}
use Rattle.mt_law_run.proofs.TableLemmas.{defined, read, runs_found, runs_refused}
use Rattle.mt_law_run.proofs.tables.tables_are_what_texts_define.Goals as goal

pub returns-clause-table : goal.returns-clause-table
returns-clause-table c path files table = (defined path files (Ok table), read c.a_text_defines_one_table.ensures path files (Ok table))

pub returns-clause-bad : goal.returns-clause-bad
returns-clause-bad c path files why = (defined path files (Err why), read c.a_text_defines_one_table.ensures path files (Err why))

pub returns-clause-refused : goal.returns-clause-refused
returns-clause-refused c command path why files old new status known reads defines runs =
    runs_refused path files (BadTable why) (read c.a_text_defines_one_table.ensures path files (Err why) defines) command old new status known reads runs

pub returns-clause-found : goal.returns-clause-found
returns-clause-found c command why files old new known shown runs =
    let (path, reads, refused) = runs_found why files old new known command shown runs in
    (path, reads, defined path files (Err why) refused)
