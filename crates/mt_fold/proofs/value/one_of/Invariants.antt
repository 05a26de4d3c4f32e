use Rattle.std.proofs.Common.{◌≡◌, drop}
use Rattle.std.specs.List.{list_any}
use Rattle.mt_look.specs.Seen.{value_seen}
use Rattle.mt_query.specs.Truth.{is_same}
use Rattle.mt_fold.proofs.value.one_of.Given as goal

-- what is left decides
abbrev pub invariant-loop-literal : goal.invariant-loop-literal
invariant-loop-literal l = list_any (is_same (value_seen l.seen)) (drop l.literal-index l.literals) ≡ list_any (is_same (value_seen l.seen)) l.literals
