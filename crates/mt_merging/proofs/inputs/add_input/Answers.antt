use Rattle.std.proofs.Common.{◌≡◌, Ok}
use Rattle.mt_merging.specs.Inputs.{inputs_partition}
use Rattle.mt_merging.proofs.InputLemmas.{input_added, inputs_added, limit_refused, room_added}
use Rattle.mt_merging.proofs.inputs.add_input.Goals as goal

pub returns-in-Err-clause-err : goal.returns-in-Err-clause-err
returns-in-Err-clause-err c =
    let one : inputs_partition c.args.table.now c.args.read.now c.args.rows ≡ Ok tt = rw (c.as_slice.ensures, c.as_slice-2.ensures) at c.in_ok-inputs_partition.ensures.gives in
    λ inside. limit_refused c.args.table.now c.args.read.now c.args.rows c.args.room c.in-Err.status c.requires.room one (rw c.as_slice-3.ensures at c.in-Err.ensures.err)

pub returns-in-Ok-push-clause-ok : goal.returns-in-Ok-push-clause-ok
returns-in-Ok-push-clause-ok c =
    let one : inputs_partition c.args.table.now c.args.read.now c.args.rows ≡ Ok tt = rw (c.as_slice.ensures, c.as_slice-2.ensures) at c.in_ok-inputs_partition.ensures.gives in
    rw c.in-Ok-push.ensures.ok (input_added c.args.table.now c.args.read.now c.args.rows c.args.room c.requires.room one (rw c.as_slice-3.ensures at c.in-Ok.ensures.ok))

pub returns-in-Ok-push-clause-inputs : goal.returns-in-Ok-push-clause-inputs
returns-in-Ok-push-clause-inputs c =
    let one : inputs_partition c.args.table.now c.args.read.now c.args.rows ≡ Ok tt = rw (c.as_slice.ensures, c.as_slice-2.ensures) at c.in_ok-inputs_partition.ensures.gives in
    let room = room_added c.args.table.now c.args.read.now c.args.rows c.args.room c.in-Ok.left c.requires.room (rw c.as_slice-3.ensures at c.in-Ok.ensures.rows) (rw c.as_slice-3.ensures at c.in-Ok.ensures.cells) in
    rw c.in-Ok-push.ensures.ok (inputs_added c.args.table.now c.args.read.now c.args.rows c.in-Ok.left c.requires.inputs c.requires.some c.requires.fit c.requires.one_partition one room)

pub returns-in-Ok-push-clause-room : goal.returns-in-Ok-push-clause-room
returns-in-Ok-push-clause-room c =
    rw c.in-Ok-push.ensures.ok (room_added c.args.table.now c.args.read.now c.args.rows c.args.room c.in-Ok.left c.requires.room (rw c.as_slice-3.ensures at c.in-Ok.ensures.rows) (rw c.as_slice-3.ensures at c.in-Ok.ensures.cells))
