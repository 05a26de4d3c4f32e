use Rattle.std.proofs.Common.{length, sym, ap, ◌∙◌, arith}
use Rattle.mt_tokens.specs.Texts.{text_len}
use Rattle.mt_tokens.proofs.TextLemmas.{text_ends, text_goes_on, escape_is_cut, escape_is_bad, escape_goes_on, text_is_open}
use Rattle.mt_tokens.proofs.escape.text_len.Goals as goal

pub returns-then-first-eq-QUOTE-clause-value : goal.returns-then-first-eq-QUOTE-clause-value
returns-then-first-eq-QUOTE-clause-value c = text_ends c.bytes.count c.bytes.rest.now c.in-Some.first c.in-Some.after.now (text_len c.args.bytes.now) c.in-Some.ensures c.bytes.invariant.so_far c.if-first-eq-QUOTE.true

pub returns-in_default-split_byte-clause-value : goal.returns-in_default-split_byte-clause-value
returns-in_default-split_byte-clause-value c = escape_is_cut c.bytes.count c.bytes.rest.now c.in-Some.first c.in-Some.after.now (text_len c.args.bytes.now) c.in-Some.ensures c.bytes.invariant.so_far c.if-first-eq-QUOTE.false c.if-first-eq-BACKSLASH.true c.in_default-split_byte.ensures

pub returns-then-not-is_escape-clause-value : goal.returns-then-not-is_escape-clause-value
returns-then-not-is_escape-clause-value c = escape_is_bad c.bytes.count c.bytes.rest.now c.in-Some.first c.in-Some.after.now (text_len c.args.bytes.now) c.in-Some.ensures c.bytes.invariant.so_far c.if-first-eq-QUOTE.false c.if-first-eq-BACKSLASH.true c.in-Some-split_byte.letter c.in-Some-split_byte.behind.now c.in-Some-split_byte.ensures (sym c.is_escape.ensures ∙ c.if-not-is_escape.true)

pub bytes-preserved-then-first-eq-BACKSLASH : goal.bytes-preserved-then-first-eq-BACKSLASH
bytes-preserved-then-first-eq-BACKSLASH c = record {
  so_far = escape_goes_on c.bytes.count c.bytes.rest.now c.in-Some.first c.in-Some.after.now (text_len c.args.bytes.now) c.in-Some.ensures c.bytes.invariant.so_far c.if-first-eq-QUOTE.false c.if-first-eq-BACKSLASH.true c.in-Some-split_byte.letter c.in-Some-split_byte.behind.now c.in-Some-split_byte.ensures (sym c.is_escape.ensures ∙ c.if-not-is_escape.false);
  within = omega (arith, c.bytes.invariant.within, ap length c.in-Some.ensures, ap length c.in-Some-split_byte.ensures);
}

pub bytes-preserved : goal.bytes-preserved
bytes-preserved c = record {
  so_far = text_goes_on c.bytes.count c.bytes.rest.now c.in-Some.first c.in-Some.after.now (text_len c.args.bytes.now) c.in-Some.ensures c.bytes.invariant.so_far c.if-first-eq-QUOTE.false c.if-first-eq-BACKSLASH.false;
  within = omega (arith, c.bytes.invariant.within, ap length c.in-Some.ensures);
}

pub returns-clause-value : goal.returns-clause-value
returns-clause-value c = text_is_open c.bytes.count c.bytes.rest.now (text_len c.args.bytes.now) c.in_default.ensures c.bytes.invariant.so_far
