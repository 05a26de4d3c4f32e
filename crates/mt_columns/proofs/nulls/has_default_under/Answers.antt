use Rattle.std.proofs.Common.{◌<◌, ◌++◌, ◌∷◌, [], List, length, get_or, refl, sym, ap₂, ◌∙◌, arith}
use Rattle.std.proofs.lemmas.List.{take_more}
use Rattle.mt_types.specs.declared.value.Value.{Value}
use Rattle.mt_types.specs.declared.value.Value.TheVariants.{Null}
use Rattle.mt_cells.specs.Items.{default_item, items_in, kind_in}
use Rattle.mt_columns.proofs.LeafLemmas.{kept_item, under_none, under_step}
use Rattle.mt_columns.proofs.nulls.has_default_under.Goals as goal

pub loop-index-init : goal.loop-index-init
loop-index-init c = sym (under_none (default_item (kind_in c.args.items.now)) c.args.nulls.now (items_in c.args.items.now))

pub loop-index-preserved : goal.loop-index-preserved
loop-index-preserved c =
    let i = c.loop-index.index in
    let d = default_item (kind_in c.args.items.now) in
    let bytes = c.args.nulls.now in
    let items = items_in c.args.items.now in
    let there : c.loop-index.index < length c.args.nulls.now = omega (arith, c.loop-index-test.true) in
    let within : c.loop-index.index < length (items_in c.args.items.now) = omega (arith, there, c.requires) in
    take_more items i Null within
    ∙ ap₂ (λ (vs : List Value) (v : Value). vs ++ v ∷ []) c.loop-index.invariant (sym (kept_item d (get_or bytes i 0) (get_or items i Null) (c.if-not-may_stand.ensures refl)))
    ∙ sym (under_step d bytes items i c.requires there)
