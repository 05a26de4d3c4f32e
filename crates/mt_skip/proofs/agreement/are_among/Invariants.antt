use Rattle.std.proofs.Common.{◌≡◌, drop}
use Rattle.std.specs.List.{list_all, list_any}
use Rattle.mt_skip.specs.Gathering.{is_same, values_in}
use Rattle.mt_skip.proofs.agreement.are_among.Given as goal

-- what is left decides
abbrev pub invariant-loop-value : goal.invariant-loop-value
invariant-loop-value l =
    list_all (λ value. list_any (is_same value) (values_in l.distinct.keys)) (drop l.value-index l.values)
    ≡ list_all (λ value. list_any (is_same value) (values_in l.distinct.keys)) l.values
