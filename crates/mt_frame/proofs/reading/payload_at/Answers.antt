use Rattle.std.proofs.Common.{arith, drop}
use Rattle.std.proofs.lemmas.List.{length-take, length-drop}
use Rattle.mt_frame.proofs.HeaderLemmas.{is_short}
use Rattle.mt_frame.proofs.reading.payload_at.Goals as goal

pub returns-then-left-clause-gives : goal.returns-then-left-clause-gives
returns-then-left-clause-gives c = is_short (drop c.args.offset c.args.file.now) (omega (arith, c.if-left.true, length-drop c.args.offset c.args.file.now))

pub payload_len-requires-clause-header : goal.payload_len-requires-clause-header
payload_len-requires-clause-header c =
    rw c.header_at.ensures (omega (arith, c.if-left.false, c.requires, length-take 25 (drop c.args.offset c.args.file.now), length-drop c.args.offset c.args.file.now))
