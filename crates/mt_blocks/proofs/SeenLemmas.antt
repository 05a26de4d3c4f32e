-- What is seen of a value has the value's rank.
use Rattle.std.proofs.Common.{◌≡◌, ap, sym}
use Rattle.mt_types.specs.declared.value.Value.TheVariants.{outs-Num, outs-Huge, outs-Text, outs-Null, outs-List, outs-State}
use Rattle.mt_cells.specs.declared.seen.Seen.{Seen}
use Rattle.mt_cells.specs.declared.seen.Seen.TheVariants as seen
use Rattle.mt_cells.specs.Seen.{value_seen}
use Rattle.mt_blocks.specs.declared.rank.Scale.{Scale}
use Rattle.mt_blocks.specs.declared.rank.Scale.TheVariants.{Numbers, Wide, Texts}
use Rattle.mt_blocks.specs.Ranks.{level_rank, seen_rank, value_rank}

pub seen_ranked : (scale : Scale) (s : Seen) → seen_rank scale s ≡ value_rank scale (value_seen s)
seen_ranked (Numbers origin) (seen.Num n) = sym (ap (level_rank (Numbers origin)) (outs-Num n))
seen_ranked (Numbers origin) (seen.Huge n) = sym (ap (level_rank (Numbers origin)) (outs-Huge n))
seen_ranked (Numbers origin) (seen.Text bytes) = sym (ap (level_rank (Numbers origin)) (outs-Text bytes.now))
seen_ranked (Numbers origin) seen.Null = sym (ap (level_rank (Numbers origin)) outs-Null)
seen_ranked (Numbers origin) (seen.List items) = sym (ap (level_rank (Numbers origin)) (outs-List items.now))
seen_ranked (Numbers origin) (seen.State s) = sym (ap (level_rank (Numbers origin)) (outs-State s))
seen_ranked (Wide origin) (seen.Num n) = sym (ap (level_rank (Wide origin)) (outs-Num n))
seen_ranked (Wide origin) (seen.Huge n) = sym (ap (level_rank (Wide origin)) (outs-Huge n))
seen_ranked (Wide origin) (seen.Text bytes) = sym (ap (level_rank (Wide origin)) (outs-Text bytes.now))
seen_ranked (Wide origin) seen.Null = sym (ap (level_rank (Wide origin)) outs-Null)
seen_ranked (Wide origin) (seen.List items) = sym (ap (level_rank (Wide origin)) (outs-List items.now))
seen_ranked (Wide origin) (seen.State s) = sym (ap (level_rank (Wide origin)) (outs-State s))
seen_ranked Texts (seen.Num n) = sym (ap (level_rank Texts) (outs-Num n))
seen_ranked Texts (seen.Huge n) = sym (ap (level_rank Texts) (outs-Huge n))
seen_ranked Texts (seen.Text bytes) = sym (ap (level_rank Texts) (outs-Text bytes.now))
seen_ranked Texts seen.Null = sym (ap (level_rank Texts) outs-Null)
seen_ranked Texts (seen.List items) = sym (ap (level_rank Texts) (outs-List items.now))
seen_ranked Texts (seen.State s) = sym (ap (level_rank Texts) (outs-State s))
