use Rattle.mt_cells.proofs.CutLemmas.{piece_pushed}
use Rattle.mt_cells.proofs.texts.Texts.push.Goals as goal

pub returns-in-Ok-clause-ok : goal.returns-in-Ok-clause-ok
returns-in-Ok-clause-ok c = piece_pushed c.self.inside.sizes c.self.inside.bytes.items c.args.self.now c.self.invariant c.self.view_is c.push.new.self c.extend_from_slice.new.self.items c.args.text.now c.in-Ok.ensures.ok c.in_ok-extend_from_slice.ensures.items
