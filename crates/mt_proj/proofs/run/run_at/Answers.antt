use Rattle.mt_proj.proofs.run.run_at.Goals as goal

pub split_at-requires-2 : goal.split_at-requires-2
split_at-requires-2 c = c.run_length.ensures.within
