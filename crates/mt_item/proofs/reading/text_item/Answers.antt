use Rattle.mt_item.proofs.ReadingLemmas.{str_read, str_wrong}
use Rattle.mt_item.proofs.reading.text_item.Goals as goal

pub returns-in_ok-of_bytes-in-Ok : goal.returns-in_ok-of_bytes-in-Ok
returns-in_ok-of_bytes-in-Ok c = str_read c.args.bytes.now c.in-Ok.text.now c.in-Ok.rest.now _ c.in-Ok.ensures c.in_ok-of_bytes-in-Ok.ensures

pub returns-in-Err : goal.returns-in-Err
returns-in-Err c = str_wrong c.args.bytes.now c.in-Err.why c.in-Err.ensures
