use Rattle.std.proofs.Common.{◌<◌, ◌++◌, ◌∷◌, [], List, length, get_or, sym, ap, ap₂, ◌∙◌, arith}
use Rattle.std.specs.Prelude.{◌==◌, if◌then◌else◌}
use Rattle.mt_types.specs.declared.value.Value.{Value}
use Rattle.mt_types.specs.declared.value.Value.TheVariants.{Null}
use Rattle.mt_cells.specs.Items.{ItemKind, default_item, items_in, kind_in}
use Rattle.mt_columns.proofs.LeafLemmas.{under_none, under_step}
use Rattle.mt_columns.proofs.nulls.replace_under.Goals as goal

pub loop-index-init : goal.loop-index-init
loop-index-init c = (c.in_ok-made.ensures.kind, c.in_ok-made.ensures.values ∙ sym (under_none (default_item (kind_in c.args.items.now)) c.args.nulls.now (items_in c.args.items.now)))

pub loop-index-preserved : goal.loop-index-preserved
loop-index-preserved c =
    let i = c.loop-index.index in
    let bytes = c.args.nulls.now in
    let items = items_in c.args.items.now in
    let there : c.loop-index.index < length c.args.nulls.now = omega (arith, c.loop-index-test.true) in (
      c.in_ok-made-2.ensures.kind ∙ c.loop-index.invariant.0,
      c.in_ok-made-2.ensures.values
          ∙ ap₂ (λ (vs : List Value) (v : Value). vs ++ v ∷ []) c.loop-index.invariant.1 (ap (λ (k : ItemKind). if get_or bytes i 0 == 1 then default_item k else get_or items i Null) c.loop-index.invariant.0)
          ∙ sym (under_step (default_item (kind_in c.args.items.now)) bytes items i c.requires there),
    )
