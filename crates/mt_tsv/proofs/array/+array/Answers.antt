use Rattle.std.proofs.Common.{◌∙◌, ap, arith}
use Rattle.std.specs.Option.{option_copied}
use Rattle.std.proofs.lemmas.Result.{err_from_is_err_and}
use Rattle.mt_tsv.specs.Arrays.{element_of, elements_after, element_values}
use Rattle.mt_tsv.proofs.Items.{items_more, items_end, items_done, array_level_fails, array_items_fail, array_too_long, array_is}
use Rattle.mt_tsv.proofs.array.+array.Goals as goal

pub read_array-returns-in_err-rest : goal.read_array-returns-in_err-rest
read_array-returns-in_err-rest t c =
    let p = err_from_is_err_and c.from_residual.result c.from_residual.ensures.1 in
    let fails = rw c.in_quotes.ensures at c.in_err-rest.ensures in
    rw (p.1, p.2) (array_level_fails _ (element_of c.args.inner.now) c.args.text.now fails)

pub read_array-returns-in_err-read_element : goal.read_array-returns-in_err-read_element
read_array-returns-in_err-read_element t c =
    let p = err_from_is_err_and c.from_residual-in_err-read_element.result c.from_residual-in_err-read_element.ensures.1 in
    let texts = ap (λ r. elements_after (option_copied r)) c.in-Some.is ∙ c.cut_element.ensures.elements in
    let level = rw c.in_quotes.ensures at c.in_ok-rest.ensures in
    let fails = items_end c.in_err-read_element.field-0.0 (element_of c.args.inner.now).read c.elements.items _ _ _ (element_values (element_of c.args.inner.now).read (elements_after (option_copied c.in_ok-rest.rest))) texts c.in_err-read_element.ensures c.elements.invariant in
    rw (p.1, p.2) (array_items_fail _ (element_of c.args.inner.now) c.args.text.now _ level fails)

pub read_array-elements-preserved : goal.read_array-elements-preserved
read_array-elements-preserved t c =
    let texts = ap (λ r. elements_after (option_copied r)) c.in-Some.is ∙ c.cut_element.ensures.elements in
    rw c.in_ok-push.ensures.ok (items_more (element_of c.args.inner.now).read c.elements.items _ _ _ c.in_ok-read_element.field-0 (element_values (element_of c.args.inner.now).read (elements_after (option_copied c.in_ok-rest.rest))) texts c.in_ok-read_element.ensures c.elements.invariant)

pub read_array-returns-then-len-gt-MAX_ELEMENTS : goal.read_array-returns-then-len-gt-MAX_ELEMENTS
read_array-returns-then-len-gt-MAX_ELEMENTS t c =
    let level = rw c.in_quotes.ensures at c.in_ok-rest.ensures in
    let none = ap (λ r. elements_after (option_copied r)) c.in_default.is in
    let done = items_done (element_of c.args.inner.now).read c.elements.items _ (element_values (element_of c.args.inner.now).read (elements_after (option_copied c.in_ok-rest.rest))) none c.elements.invariant in
    array_too_long (element_of c.args.inner.now) c.args.text.now _ c.elements.items level done (omega (arith, c.len.ensures))

pub read_array-returns : goal.read_array-returns
read_array-returns t c =
    let level = rw c.in_quotes.ensures at c.in_ok-rest.ensures in
    let none = ap (λ r. elements_after (option_copied r)) c.in_default.is in
    let done = items_done (element_of c.args.inner.now).read c.elements.items _ (element_values (element_of c.args.inner.now).read (elements_after (option_copied c.in_ok-rest.rest))) none c.elements.invariant in
    array_is (element_of c.args.inner.now) c.args.text.now _ c.elements.items level done (omega (arith, c.len.ensures))
