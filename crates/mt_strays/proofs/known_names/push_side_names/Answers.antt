use Rattle.std.proofs.Common.{◌∙◌, ap, arith, ◌++◌, ◌≤◌, map, List}
use Rattle.std.specs.Borrow.{Bor}
use Rattle.std.proofs.lemmas.List.{take_all}
use Rattle.mt_strays.proofs.known_names.push_side_names.Goals as goal

pub returns : goal.returns
returns c =
    let over : 8 ≤ c.loop-name.name-index = let past = c.loop-name-test.false in omega (arith, past) in
    c.loop-name.invariant ∙ ap (λ (names : List (Bor (List _))). c.args.names.now.items ++ map (λ name. name.now) names) (take_all c.loop-name.name-index _ over)
