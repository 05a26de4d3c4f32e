use Rattle.std.proofs.Common.{◌≡◌, drop}
use Rattle.std.specs.List.{list_any}
use Rattle.mt_match.specs.Matching.{may_between}
use Rattle.mt_match.proofs.entry.may_among.Given as goal

-- what is left decides
abbrev pub invariant-loop-value : goal.invariant-loop-value
invariant-loop-value l =
    list_any (λ value. may_between l.cond l.column value value) (drop l.value-index l.values) ≡ list_any (λ value. may_between l.cond l.column value value) l.values
