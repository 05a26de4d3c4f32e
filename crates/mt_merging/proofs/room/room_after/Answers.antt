use Rattle.std.proofs.Common.{◌≤◌, length, sym, arith}
use Rattle.mt_merging.proofs.RoomLemmas.{all_have_room, cells_have_no_room}
use Rattle.mt_merging.proofs.room.room_after.Goals as goal

pub returns-in-Some-room_after_rows-clause-ok : goal.returns-in-Some-room_after_rows-clause-ok
returns-in-Some-room_after_rows-clause-ok c =
    let few : length c.args.rows.now ≤ c.args.room.rows = search (arith, c.in-Some.ensures) in
    (all_have_room c.args.table.now.columns c.args.rows.now c.args.room.rows c.args.room.cells c.in-Some-room_after_rows.cells c.requires few (sym c.in-Some-room_after_rows.ensures)).0

pub returns-in-Some-room_after_rows-clause-cells : goal.returns-in-Some-room_after_rows-clause-cells
returns-in-Some-room_after_rows-clause-cells c =
    let few : length c.args.rows.now ≤ c.args.room.rows = search (arith, c.in-Some.ensures) in
    (all_have_room c.args.table.now.columns c.args.rows.now c.args.room.rows c.args.room.cells c.in-Some-room_after_rows.cells c.requires few (sym c.in-Some-room_after_rows.ensures)).1

pub returns-in-None-clause-err : goal.returns-in-None-clause-err
returns-in-None-clause-err c =
    let few : length c.args.rows.now ≤ c.args.room.rows = search (arith, c.in-Some.ensures) in
    cells_have_no_room c.args.table.now.columns c.args.rows.now c.args.room.rows c.args.room.cells c.requires few (sym c.in-None.ensures)
