use Rattle.std.proofs.Common.{◌≡◌, ◌+◌, ◌-◌, length, take, drop, sym, arith}
use Rattle.std.proofs.lemmas.List.{take_all, length-drop}
use Rattle.mt_meta.proofs.SplitLemmas.{once_none, once_some}
use Rattle.mt_meta.proofs.split.split_once.Goals as goal

pub returns-in-None-clause-parts : goal.returns-in-None-clause-parts
returns-in-None-clause-parts c = sym (once_none c.args.separator c.args.bytes.now (sym c.in-None.ensures))

pub returns-in-Some-clause-parts : goal.returns-in-Some-clause-parts
returns-in-Some-clause-parts c =
    let s = once_some c.args.separator c.args.bytes.now c.in-Some.i (sym c.in-Some.ensures) in
    let all : take (length c.args.bytes.now - (c.in-Some.i + 1)) (drop (c.in-Some.i + 1) c.args.bytes.now) ≡ drop (c.in-Some.i + 1) c.args.bytes.now = take_all (length c.args.bytes.now - (c.in-Some.i + 1)) (drop (c.in-Some.i + 1) c.args.bytes.now) (omega (arith, length-drop (c.in-Some.i + 1) c.args.bytes.now)) in
    rw all (sym s)
