use Rattle.std.proofs.Common.{arith, ◌≡◌, ◌++◌, get_or, map, ap, ◌∙◌}
use Rattle.mt_cond.specs.declared.types.Interval.{Interval}
use Rattle.mt_cond.specs.Views.{interval_of}
use Rattle.mt_cond.specs.Cover.{sides_of, fronts, some_box, both_span}
use Rattle.mt_cond.proofs.BoxLemmas.{three, apart_next}
use Rattle.mt_cond.proofs.boxes.apart.Goals as goal

pub returns : goal.returns
returns c =
    let key = c.args.key.now in
    let lo = c.args.lo.now in
    let hi = c.args.hi.now in
    let i = c.args.at in
    let at : interval_of c.both_span-last.result ≡ both_span (get_or key i c.index-key-at.result) (get_or lo i c.index-lo-at.result) (get_or hi i c.index-hi-at.result) =
    grind (arith, c.index-key-at.is, c.index-lo-at.is, c.index-hi-at.is, c.both_span-last.ensures) in
    three _ _ _ _ _ _ _ _ c.new-boxes.ensures (c.in_ok-push_box.ensures ∙ ap (λ (j : Interval). c.new-boxes.result ++ map (λ is. sides_of key (fronts i lo is)) (some_box j)) at)
    c.in_ok-push_past.ensures c.in_ok-push_before.ensures
    (apart_next (sides_of key) key lo hi i c.index-key-at.result c.index-lo-at.result c.index-hi-at.result (omega arith) (omega arith) (omega arith) (c.requires.apart c.index-lo-at.result c.index-hi-at.result) c.requires.alike)
