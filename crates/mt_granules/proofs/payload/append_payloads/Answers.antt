use Rattle.std.proofs.Common.{arith}
use Rattle.mt_granules.proofs.WalkLemmas.{first_there, walk_starts, walk_takes, walk_goes_on, walk_ends}
use Rattle.mt_granules.proofs.payload.append_payloads.Goals as goal

pub loop-left-init : goal.loop-left-init
loop-left-init c = walk_starts c.args.frames.now c.args.size c.args.out.now.items c.requires

pub split_frame-requires : goal.split_frame-requires
split_frame-requires c = let had = c.loop-left.invariant in first_there had.blocks c.loop-left.rest.now had.is_file (omega (arith, c.loop-left-test.true, had.there))

pub loop-left-smaller : goal.loop-left-smaller
loop-left-smaller c =
    let some = walk_takes c.args.frames.now c.loop-left.rest.now c.split_frame.result.1.now c.split_frame.result.0.now c.args.size c.loop-left.left c.args.out.now.items c.loop-left.out.items c.loop-left-test.true c.split_frame.ensures c.loop-left.invariant in
    omega (arith, some, c.min-count.ensures, c.loop-left-test.true)

pub loop-left-preserved : goal.loop-left-preserved
loop-left-preserved c =
    walk_goes_on c.args.frames.now c.loop-left.rest.now c.split_frame.result.1.now c.split_frame.result.0.now c.args.size c.loop-left.left c.min-count.result c.args.out.now.items c.loop-left.out.items c.extend_from_slice.new.self.items
    c.loop-left-test.true c.min-count.ensures c.split_frame.ensures c.in_ok-extend_from_slice.ensures.items c.loop-left.invariant

pub returns : goal.returns
returns c = walk_ends c.args.frames.now c.loop-left.rest.now c.args.size c.loop-left.left c.args.out.now.items c.loop-left.out.items c.loop-left-test.false c.loop-left.invariant
