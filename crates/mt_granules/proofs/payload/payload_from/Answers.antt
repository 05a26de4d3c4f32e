use Rattle.std.proofs.Common.{◌∙◌, ◌++◌, ℕ, List, ap, arith}
use Rattle.mt_granules.proofs.WalkLemmas.{has_first, first_parts, within_first, past_first, others_have}
use Rattle.mt_granules.proofs.payload.payload_from.Goals as goal

pub split_frame-requires : goal.split_frame-requires
split_frame-requires c = has_first c.args.frames.now c.args.inner c.args.size (omega (arith, c.if-size-eq0.false)) c.requires

pub tail-first-requires : goal.tail-first-requires
tail-first-requires c =
    (first_parts c.args.frames.now c.split_frame.result.0.now c.split_frame.result.1.now c.args.inner c.args.size (omega (arith, c.if-size-eq0.false)) c.split_frame.ensures c.requires).in_first

pub returns-then-size-first : goal.returns-then-size-first
returns-then-size-first c =
    within_first c.args.frames.now c.split_frame.result.0.now c.split_frame.result.1.now c.tail-first.result.now c.args.inner c.args.size c.tail-first.ensures c.if-size-first.true
    (first_parts c.args.frames.now c.split_frame.result.0.now c.split_frame.result.1.now c.args.inner c.args.size (omega (arith, c.if-size-eq0.false)) c.split_frame.ensures c.requires)

pub append_payloads-requires : goal.append_payloads-requires
append_payloads-requires c =
    others_have c.args.frames.now c.split_frame.result.0.now c.split_frame.result.1.now c.tail-first.result.now c.args.inner c.args.size c.tail-first.ensures
    (first_parts c.args.frames.now c.split_frame.result.0.now c.split_frame.result.1.now c.args.inner c.args.size (omega (arith, c.if-size-eq0.false)) c.split_frame.ensures c.requires)

pub returns : goal.returns
returns c = λ blocks are.
    c.of.ensures ∙ past_first c.args.frames.now c.split_frame.result.0.now c.split_frame.result.1.now c.tail-first.result.now c.extend_from_slice.new.self.items c.append_payloads.new.out.items c.args.inner c.args.size
    c.tail-first.ensures (omega (arith, c.if-size-first.false)) (c.in_ok-extend_from_slice.ensures.items ∙ ap (λ (l : List ℕ). l ++ c.tail-first.result.now) c.in_ok-bytes.ensures.items) c.in_ok-append_payloads.ensures
    (first_parts c.args.frames.now c.split_frame.result.0.now c.split_frame.result.1.now c.args.inner c.args.size (omega (arith, c.if-size-eq0.false)) c.split_frame.ensures c.requires) blocks are
