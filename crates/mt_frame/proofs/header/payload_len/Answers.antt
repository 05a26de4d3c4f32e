use Rattle.std.proofs.Common.{◌∙◌, arith}
use Rattle.mt_frame.proofs.HeaderLemmas.{is_method, is_unlike, is_none, is_over, is_cut, is_frame}
use Rattle.mt_frame.proofs.BytesLemmas.{method_in, number_in}
use Rattle.mt_frame.proofs.header.payload_len.Goals as goal

pub returns-then-header-ne-METHOD_NONE-clause-gives : goal.returns-then-header-ne-METHOD_NONE-clause-gives
returns-then-header-ne-METHOD_NONE-clause-gives c = λ bytes is len.
    let m = method_in bytes c.args.header.now is in
    is_method bytes (omega (arith, c.requires.long)) (rw m c.if-header-ne-METHOD_NONE.true)

pub returns-then-frame_size-payload_size-clause-gives : goal.returns-then-frame_size-payload_size-clause-gives
returns-then-frame_size-payload_size-clause-gives c = λ bytes is len.
    let h = c.args.header.now in
    is_unlike bytes (omega (arith, c.requires.long)) c.number_at-frame_size.result c.number_at-payload_size.result (method_in bytes h is ∙ c.if-header-ne-METHOD_NONE.false)
    (number_in bytes h 17 8 _ (omega arith) (omega arith) c.number_at-frame_size.ensures.small is c.number_at-frame_size.ensures.bytes) (number_in bytes h 21 4 _ (omega arith) (omega arith) c.number_at-payload_size.ensures.small is c.number_at-payload_size.ensures.bytes) c.if-frame_size-payload_size.true

pub returns-then-payload_size-eq0-clause-gives : goal.returns-then-payload_size-eq0-clause-gives
returns-then-payload_size-eq0-clause-gives c = λ bytes is len.
    let h = c.args.header.now in
    is_none bytes (omega (arith, c.requires.long)) c.number_at-frame_size.result c.number_at-payload_size.result (method_in bytes h is ∙ c.if-header-ne-METHOD_NONE.false)
    (number_in bytes h 17 8 _ (omega arith) (omega arith) c.number_at-frame_size.ensures.small is c.number_at-frame_size.ensures.bytes) (number_in bytes h 21 4 _ (omega arith) (omega arith) c.number_at-payload_size.ensures.small is c.number_at-payload_size.ensures.bytes) c.if-payload_size-eq0.true

pub returns-then-payload_size-gt-MAX_PAYLOAD-clause-gives : goal.returns-then-payload_size-gt-MAX_PAYLOAD-clause-gives
returns-then-payload_size-gt-MAX_PAYLOAD-clause-gives c = λ bytes is len.
    let h = c.args.header.now in
    is_over bytes (omega (arith, c.requires.long)) c.number_at-frame_size.result c.number_at-payload_size.result (method_in bytes h is ∙ c.if-header-ne-METHOD_NONE.false)
    (number_in bytes h 17 8 _ (omega arith) (omega arith) c.number_at-frame_size.ensures.small is c.number_at-frame_size.ensures.bytes) (number_in bytes h 21 4 _ (omega arith) (omega arith) c.number_at-payload_size.ensures.small is c.number_at-payload_size.ensures.bytes)
    c.if-frame_size-payload_size.false c.if-payload_size-eq0.false c.if-payload_size-gt-MAX_PAYLOAD.true

pub returns-then-left-payload_size-clause-gives : goal.returns-then-left-payload_size-clause-gives
returns-then-left-payload_size-clause-gives c = λ bytes is len.
    let h = c.args.header.now in
    is_cut bytes (omega (arith, c.requires.long)) c.number_at-frame_size.result c.number_at-payload_size.result (method_in bytes h is ∙ c.if-header-ne-METHOD_NONE.false)
    (number_in bytes h 17 8 _ (omega arith) (omega arith) c.number_at-frame_size.ensures.small is c.number_at-frame_size.ensures.bytes) (number_in bytes h 21 4 _ (omega arith) (omega arith) c.number_at-payload_size.ensures.small is c.number_at-payload_size.ensures.bytes)
    c.if-frame_size-payload_size.false c.if-payload_size-eq0.false c.if-payload_size-gt-MAX_PAYLOAD.false (omega (arith, c.if-left-payload_size.true))

pub returns-clause-gives : goal.returns-clause-gives
returns-clause-gives c = λ bytes is len.
    let h = c.args.header.now in
    is_frame bytes (omega (arith, c.requires.long)) c.number_at-frame_size.result c.number_at-payload_size.result (method_in bytes h is ∙ c.if-header-ne-METHOD_NONE.false)
    (number_in bytes h 17 8 _ (omega arith) (omega arith) c.number_at-frame_size.ensures.small is c.number_at-frame_size.ensures.bytes) (number_in bytes h 21 4 _ (omega arith) (omega arith) c.number_at-payload_size.ensures.small is c.number_at-payload_size.ensures.bytes)
    c.if-frame_size-payload_size.false c.if-payload_size-eq0.false c.if-payload_size-gt-MAX_PAYLOAD.false (omega (arith, c.if-left-payload_size.false))
