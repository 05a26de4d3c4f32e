use Rattle.std.proofs.Common.{◌≡◌, ◌<◌, ◌≤◌, ◌+◌, ◌-◌, ◌++◌, ◌∷◌, [], ℕ, suc, true, List, length, set, get_or, ap, sym, subst, ◌∙◌, arith, rules}
use Rattle.std.proofs.lemmas.List.{take_all}
use Rattle.std.proofs.lemmas.Result.{on_ok_weaker}
use Rattle.mt_types.specs.declared.value.Value.{Value}
use Rattle.mt_types.specs.declared.value.Value.TheVariants.{List as Items}
use Rattle.mt_columns.specs.Leaves.{leaf_fits}
use Rattle.mt_columns.specs.Nesting.{IsPushed, fits_depth}
use Rattle.mt_columns.proofs.PushLemmas.{below_nested, element_fits, pushed_array, pushed_none}
use Rattle.mt_columns.proofs.push.+push_value.Goals as goal

pub loop-item-init : goal.loop-item-init
loop-item-init t c =
    let below : c.args.level < length c.args.levels.now.items = omega (arith, c.if-level-len.false, c.len.ensures, c.requires.within) in
    pushed_none (c.args.level + 1) c.args.levels.now.items c.args.leaf.now (below_nested c.args.level c.args.levels.now.items c.args.leaf.now.values below c.requires.nested)

pub push_value-requires : goal.push_value-requires
push_value-requires t c =
    let l0 = c.args.levels.now.items in
    let l1 = c.loop-item.levels.items in
    let inv = c.loop-item.invariant in
    let below : c.args.level < length l0 = omega (arith, c.if-level-len.false, c.len.ensures, c.requires.within) in
    let within : c.args.level + 1 ≤ length l1 = omega (arith, below, inv.many) in
    let depth : length l0 - c.args.level ≡ suc (length l1 - (c.args.level + 1)) = omega (arith, below, inv.many) in
    let less : length l1 - (c.args.level + 1) < length l0 - c.args.level = omega (arith, below, inv.many) in
    let array : fits_depth (leaf_fits c.args.leaf.now.nullable c.args.leaf.now.kind) (length l0 - c.args.level) (Items c.as_slice-item-items.result.now) ≡ true =
    ap (λ (xs : List Value). fits_depth (leaf_fits c.args.leaf.now.nullable c.args.leaf.now.kind) (length l0 - c.args.level) (Items xs)) c.as_slice-item-items.ensures
    ∙ ap (fits_depth (leaf_fits c.args.leaf.now.nullable c.args.leaf.now.kind) (length l0 - c.args.level)) (sym c.in-List.is) ∙ c.requires.fits in
    let there : c.loop-item.item-index < length c.as_slice-item-items.result.now = omega (arith, c.loop-item-test.true) in
    let element = element_fits (leaf_fits c.args.leaf.now.nullable c.args.leaf.now.kind) (length l0 - c.args.level) (length l1 - (c.args.level + 1)) c.loop-item.item-index c.as_slice-item-items.result.now c.item-item.result depth array there c.item-item.is in
    let fits : fits_depth (leaf_fits c.loop-item.leaf.nullable c.loop-item.leaf.kind) (length l1 - (c.args.level + 1)) c.item-item.result ≡ true =
    rw (inv.nullable, inv.kind) element in
    (search rules, (within, (inv.nested, fits)))

pub returns : goal.returns
returns t c =
    let l0 = c.args.levels.now.items in
    let l1 = c.loop-item.levels.items in
    let items = c.in-List.items in
    let below : c.args.level < length l0 = omega (arith, c.if-level-len.false, c.len.ensures, c.requires.within) in
    let ended : length items ≤ c.loop-item.item-index = omega (arith, c.loop-item-test.false, ap (λ (xs : List Value). length xs) c.as_slice-item-items.ensures) in
    let whole : IsPushed (c.args.level + 1) l0 l1 c.args.leaf.now c.loop-item.leaf items =
    subst (λ (xs : List Value). IsPushed (c.args.level + 1) l0 l1 c.args.leaf.now c.loop-item.leaf xs) (take_all c.loop-item.item-index items ended) c.loop-item.invariant in
    on_ok_weaker c.end_array.result
    (λ e. subst (λ (v : Value). IsPushed c.args.level l0 c.end_array.new.levels.items c.args.leaf.now c.loop-item.leaf (v ∷ [])) (sym c.in-List.is)
    (pushed_array c.args.level l0 l1 c.end_array.new.levels.items c.args.leaf.now c.loop-item.leaf items below c.requires.nested whole (e ∙ ap (λ (n : ℕ). set l1 c.args.level (get_or l1 c.args.level [] ++ n ∷ [])) c.len-in-List.ensures)))
    c.end_array.ensures
