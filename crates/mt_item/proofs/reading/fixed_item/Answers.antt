use Rattle.mt_item.proofs.ReadingLemmas.{fixed_read, fixed_short}
use Rattle.mt_item.proofs.reading.fixed_item.Goals as goal

pub returns-in_default : goal.returns-in_default
returns-in_default c = fixed_short c.args.size c.args.bytes.now c.in_default.ensures.cases

pub returns : goal.returns
returns c =
    let h = c.in-Some.ensures.cases in
    fixed_read c.args.size c.args.bytes.now c.in-Some.text.now c.in-Some.rest.now _ h.0 h.1 h.2 c.in_ok-of_bytes.ensures
