use Rattle.mt_item.proofs.ReadingLemmas.{count_read, count_wrong}
use Rattle.mt_item.proofs.reading.count_item.Goals as goal

pub returns-in-Ok : goal.returns-in-Ok
returns-in-Ok c = count_read c.args.bytes.now c.in-Ok.rows c.in-Ok.rest.now c.in-Ok.ensures

pub returns-in-Err : goal.returns-in-Err
returns-in-Err c = count_wrong c.args.bytes.now c.in-Err.why c.in-Err.ensures
