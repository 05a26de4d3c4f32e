use Rattle.std.proofs.Common.{◌≡◌, ◌↔◌, ◌++◌, ap, sym, ◌∙◌, subst}
use Rattle.std.specs.Prelude.{IsTrue, Some, None}
use Rattle.std.specs.Option.{option_map}
use Rattle.std.proofs.lemmas.Result.{IfOk-weaker}
use Rattle.mt_defs.specs.SkipIndexes.{ListsDistinct}
use Rattle.mt_skip.specs.Gathering.{has_each}
use Rattle.mt_skip.specs.Items.{ReadsItems}
use Rattle.mt_skip.proofs.ListingLemmas.{other_count, no_items, some_items}
use Rattle.mt_skip.proofs.agreement.lists_distinct.Goals as goal

pub returns-in_default : goal.returns-in_default
returns-in_default c = (
  λ e. cc,
  λ lists. absurd (other_count c.args.ty.now c.args.values.now c.args.entry.now c.args.count c.requires.fit c.requires.counted (λ rest e. c.in_default.ensures rest (e ∙ ap (λ b. b ++ rest) (sym c.to_le_bytes.ensures))) lists),
)

pub returns-in-Some-2 : goal.returns-in-Some-2
returns-in-Some-2 c =
    let values = c.args.values.now in
    let read : ReadsItems c.args.ty.now c.args.count c.in-Some.bytes.now (Some c.in-Some-2.listed.items) =
    subst (λ r. ReadsItems c.args.ty.now c.args.count c.in-Some.bytes.now (option_map (λ some. some.items) r)) c.in-Some-2.is c.in_ok-listed.ensures in
    IfOk-weaker c.has_each.result (λ has. has ≡ has_each c.as_slice.result.now values) (λ lists. IsTrue lists ↔ ListsDistinct c.args.ty.now values c.args.entry.now)
    (λ has is. some_items c.args.ty.now values c.args.entry.now c.args.count c.requires.fit c.requires.counted c.in-Some.bytes.now (c.in-Some.ensures ∙ ap (λ b. b ++ c.in-Some.bytes.now) c.to_le_bytes.ensures)
    c.in-Some-2.listed.items has read (is ∙ ap (λ l. has_each l values) c.as_slice.ensures.value))
    c.has_each.ensures

pub returns-in-None : goal.returns-in-None
returns-in-None c =
    let read : ReadsItems c.args.ty.now c.args.count c.in-Some.bytes.now None =
    subst (λ r. ReadsItems c.args.ty.now c.args.count c.in-Some.bytes.now (option_map (λ some. some.items) r)) c.in-None.is c.in_ok-listed.ensures in (
      λ e. cc,
      λ lists. absurd (no_items c.args.ty.now c.args.values.now c.args.entry.now c.args.count c.requires.fit c.requires.counted c.in-Some.bytes.now (c.in-Some.ensures ∙ ap (λ b. b ++ c.in-Some.bytes.now) c.to_le_bytes.ensures) read lists),
    )
