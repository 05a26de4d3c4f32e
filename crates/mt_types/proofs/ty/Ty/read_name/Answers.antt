use Rattle.mt_types.proofs.ReadingLemmas.{found_of, only_of, cause_of}
use Rattle.mt_types.proofs.ty.Ty.read_name.Goals as goal

pub returns-clause-found : goal.returns-clause-found
returns-clause-found c = found_of c.args.text.now c.read_type.result c.read_type.ensures

pub returns-clause-only : goal.returns-clause-only
returns-clause-only c = only_of c.args.text.now c.read_type.result c.read_type.ensures

pub returns-clause-cause : goal.returns-clause-cause
returns-clause-cause c = cause_of c.args.text.now c.read_type.result c.read_type.ensures
