use Rattle.std.proofs.Common.{◌∙◌, [], ◌∷◌, ap}
use Rattle.mt_query.specs.Truth.{truth_of}
use Rattle.mt_cond.specs.declared.types.Interval.{Interval}
use Rattle.mt_cond.specs.Intervals.{between_sides, interval_at}
use Rattle.mt_cond.specs.Masks.{allows, mask_by}
use Rattle.mt_cond.proofs.SuitedLemmas.{row_suits}
use Rattle.mt_cond.proofs.SoundLemmas.{mask_sound}
use Rattle.mt_cond.proofs.masks.mask_between.Goals as goal

pub returns-clause-sound : goal.returns-clause-sound
returns-clause-sound c columns row k f h =
    let box = ap (λ (i : Interval). mask_by c.args.cond.now (interval_at (record { column = c.args.column; interval = i } ∷ []))) c.between.ensures in
    ap (λ m. allows m (truth_of c.args.cond.now row)) (c.mask_by.ensures ∙ box)
    ∙ mask_sound columns c.args.cond.now (between_sides c.args.column c.args.low.now c.args.high.now) row (λ column i e. row_suits columns row f column) k h
