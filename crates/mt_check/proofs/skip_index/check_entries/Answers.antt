use Rattle.std.proofs.Common.{◌≡◌, List, ◌∷◌, sym, ◌∙◌, subst, get_or, ℕ}
use Rattle.std.proofs.lemmas.List.{get_or_default}
use Rattle.mt_files.specs.SkipMarks.{pieces_at}
use Rattle.mt_check.proofs.GroupLemmas.{no_entry, no_group, entry_differs, entry_agrees, cut_next, values_taken, values_left}
use Rattle.mt_check.proofs.skip_index.check_entries.Goals as goal

pub returns-in_default : goal.returns-in_default
returns-in_default c =
    no_entry c.args.skip.now c.args.ty.now c.args.sizes.now c.args.entries.now.payload c.loop-index.index c.loop-index.rest.now c.loop-index.ahead.now _ c.loop-index.invariant.ahead c.in_default.ensures

pub is_entry_of-requires-clause-fit : goal.is_entry_of-requires-clause-fit
is_entry_of-requires-clause-fit c = values_taken c.args.ty.now c.args.skip.now.column _ c.loop-index.rest.now c.split_at.result.0.now c.split_at.ensures.front c.loop-index.invariant.fit

pub returns-in-Ok-false : goal.returns-in-Ok-false
returns-in-Ok-false c =
    let size = get_or c.args.sizes.now c.loop-index.index 0 in
    let first = subst (λ (p : List ℕ). pieces_at p c.loop-index.ahead.now ≡ c.in-Some.entry.now ∷ pieces_at p c.in-Some.later.now) c.as_slice.ensures c.in-Some.ensures in
    entry_differs c.args.skip.now c.args.ty.now c.args.sizes.now c.args.entries.now.payload c.loop-index.index size c.loop-index.rest.now c.split_at.result.0.now c.split_at.result.1.now c.loop-index.ahead.now
    c.in-Some.later.now c.in-Some.entry.now _ c.value_fault.result c.loop-index.invariant.ahead c.loop-index-test.true (get_or_default c.args.sizes.now c.loop-index.index 0 size c.loop-index-test.true) c.split_at.ensures.front c.split_at.ensures.back first
    (sym c.in-Ok-false.ensures ∙ c.in-Ok-false.field-0-test) c.value_fault.ensures

pub loop-index-preserved : goal.loop-index-preserved
loop-index-preserved c =
    let size = get_or c.args.sizes.now c.loop-index.index 0 in
    let at = get_or_default c.args.sizes.now c.loop-index.index 0 size c.loop-index-test.true in
    let first = subst (λ (p : List ℕ). pieces_at p c.loop-index.ahead.now ≡ c.in-Some.entry.now ∷ pieces_at p c.in-Some.later.now) c.as_slice.ensures c.in-Some.ensures in
    record {
      ahead = entry_agrees c.args.skip.now c.args.ty.now c.args.sizes.now c.args.entries.now.payload c.loop-index.index size c.loop-index.rest.now c.split_at.result.0.now c.split_at.result.1.now
          c.loop-index.ahead.now c.in-Some.later.now c.in-Some.entry.now _ c.loop-index.invariant.ahead c.loop-index-test.true at c.split_at.ensures.front c.split_at.ensures.back first (sym c.in-Ok-true.ensures ∙ c.in-Ok-true.field-0-test);
      fit = values_left c.args.ty.now c.args.skip.now.column size c.loop-index.rest.now c.split_at.result.1.now c.split_at.ensures.back c.loop-index.invariant.fit;
      cut = cut_next c.args.sizes.now c.loop-index.index size c.loop-index.rest.now c.split_at.result.1.now c.loop-index-test.true at c.split_at.ensures.back c.loop-index.invariant.cut;
    }

pub returns : goal.returns
returns c =
    no_group c.args.skip.now c.args.ty.now c.args.sizes.now c.args.entries.now.payload c.loop-index.index c.loop-index.rest.now c.loop-index.ahead.now _ c.loop-index.invariant.ahead c.loop-index-test.false
