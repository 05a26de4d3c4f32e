use Rattle.std.proofs.Common.{◌∙◌, sym, ap, arith, ◌+◌, ◌-◌, ◌/◌}
use Rattle.std.proofs.lemmas.List.{get_or_default}
use Rattle.mt_shelf.specs.declared.file.Entry.{Entry}
use Rattle.mt_files.proofs.ListingLemmas.{cmp, is_greater_here, is_here, is_less_here, none_left}
use Rattle.mt_files.proofs.listing.size_of.Goals as goal

pub loop-low-preserved-in-Less : goal.loop-low-preserved-in-Less
loop-low-preserved-in-Less c =
    let name = c.args.name.now in
    let less = c.loop-low-test.true in
    is_less_here c.args.listing.now name c.loop-low.low c.loop-low.high (c.loop-low.low + (c.loop-low.high - c.loop-low.low) / 2) c.index-listing-middle.result c.requires.rising c.loop-low.invariant (omega arith) (omega (arith, less))
    (ap (λ n. cmp n name) (sym c.as_slice.ensures) ∙ sym c.cmp.ensures ∙ c.in-Less.is)

pub returns-in-Equal : goal.returns-in-Equal
returns-in-Equal c =
    let name = c.args.name.now in
    let less = c.loop-low-test.true in
    let middle = c.loop-low.low + (c.loop-low.high - c.loop-low.low) / 2 in
    sym (is_here c.args.listing.now name c.loop-low.low c.loop-low.high middle c.index-listing-middle-in-Equal.result c.requires.rising c.loop-low.invariant (omega arith) (omega (arith, less))
    (ap (λ (e : Entry). cmp e.name name) (get_or_default c.args.listing.now middle c.index-listing-middle-in-Equal.result c.index-listing-middle.result (let within = c.loop-low.invariant.within in omega (arith, less, within)))
    ∙ ap (λ n. cmp n name) (sym c.as_slice.ensures) ∙ sym c.cmp.ensures ∙ c.in-Equal.is))

pub loop-low-preserved : goal.loop-low-preserved
loop-low-preserved c =
    let name = c.args.name.now in
    let less = c.loop-low-test.true in
    is_greater_here c.args.listing.now name c.loop-low.low c.loop-low.high (c.loop-low.low + (c.loop-low.high - c.loop-low.low) / 2) c.index-listing-middle.result c.requires.rising c.loop-low.invariant (omega arith) (omega (arith, less))
    (ap (λ n. cmp n name) (sym c.as_slice.ensures) ∙ sym c.cmp.ensures ∙ c.in-Greater.is)

pub returns : goal.returns
returns c = let over = c.loop-low-test.false in sym (none_left c.args.listing.now c.args.name.now c.loop-low.low c.loop-low.high c.loop-low.invariant (omega (arith, over)))
