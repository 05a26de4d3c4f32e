use Rattle.std.proofs.Common.{◌∙◌, sym}
use Rattle.mt_shelf.proofs.Puts.{All-HasName, HasName-all}
use Rattle.mt_shelf.proofs.writing.have_names.Goals as goal

pub returns-clause-found : goal.returns-clause-found
returns-clause-found c = λ good. All-HasName c.args.files.now (sym c.all_file_names.ensures ∙ good)

pub returns-clause-only : goal.returns-clause-only
returns-clause-only c = λ names. c.all_file_names.ensures ∙ HasName-all c.args.files.now names
