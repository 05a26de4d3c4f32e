use Rattle.std.proofs.Common.{◌∙◌}
use Rattle.mt_item.proofs.ExactLemmas.{text_wrong, text_long, text_rest, bytes_read, bytes_short}
use Rattle.mt_item.proofs.text.read_text.Goals as goal

pub returns-in-Err : goal.returns-in-Err
returns-in-Err c = text_wrong c.args.bytes.now c.in-Err.why c.in-Err.ensures

pub returns-then-size : goal.returns-then-size
returns-then-size c = text_long c.args.bytes.now c.in-Ok.size c.in-Ok.rest.now c.in-Ok.ensures c.if-size.true

pub returns-in-Some : goal.returns-in-Some
returns-in-Some c =
    let h = c.in-Some.ensures.cases in
    text_rest c.args.bytes.now c.in-Ok.size c.in-Ok.rest.now c.in-Ok.ensures c.if-size.false ∙ bytes_read c.in-Ok.size c.in-Ok.rest.now c.in-Some.text.now c.in-Some.rest.now h.0 h.1 h.2

pub returns-in-None : goal.returns-in-None
returns-in-None c = text_rest c.args.bytes.now c.in-Ok.size c.in-Ok.rest.now c.in-Ok.ensures c.if-size.false ∙ bytes_short c.in-Ok.size c.in-Ok.rest.now c.in-None.ensures.cases
