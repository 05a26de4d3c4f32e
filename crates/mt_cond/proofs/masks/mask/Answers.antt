use Rattle.std.proofs.Common.{◌∙◌, ap}
use Rattle.mt_query.specs.Truth.{truth_of}
use Rattle.mt_cond.specs.Masks.{allows}
use Rattle.mt_cond.proofs.SuitedLemmas.{row_suits}
use Rattle.mt_cond.proofs.SoundLemmas.{mask_sound}
use Rattle.mt_cond.proofs.masks.mask.Goals as goal

pub returns-clause-sound : goal.returns-clause-sound
returns-clause-sound c columns row k f h = ap (λ m. allows m (truth_of c.args.cond.now row)) c.mask_by.ensures ∙ mask_sound columns c.args.cond.now c.args.sides.now row (λ column i e. row_suits columns row f column) k h
