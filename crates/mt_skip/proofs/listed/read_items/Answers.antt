use Rattle.std.proofs.Common.{ℕ, List, subst}
use Rattle.std.specs.Prelude.{Option, Some, None}
use Rattle.std.specs.Borrow.{Bor}
use Rattle.std.specs.Option.{option_map}
use Rattle.mt_types.specs.declared.value.Value.{Value}
use Rattle.mt_types.specs.Fits.{fits_of}
use Rattle.mt_types.specs.Items.{item_bytes}
use Rattle.mt_item.specs.Results.{IsFirst}
use Rattle.mt_skip.proofs.ReadLemmas.{read_more, read_fails}
use Rattle.mt_skip.proofs.listed.read_items.Goals as goal

pub returns-in_default : goal.returns-in_default
returns-in_default c =
    let ty = c.args.ty.now in
    let rest = c.loop-i.rest.now in
    let P : Option (Value × Bor (List ℕ)) → Type 0 = λ read. IsFirst (fits_of ty) (item_bytes ty) rest (option_map (λ (first : Value × Bor (List ℕ)). (first.0, first.1.now)) read) in
    let first : IsFirst (fits_of ty) (item_bytes ty) rest None = subst P c.in_default.is c.in_ok-value.ensures in
    read_fails ty c.args.count c.loop-i._i c.args.bytes.now rest c.loop-i.values.items c.loop-i-test.true c.loop-i.invariant first

pub loop-i-preserved : goal.loop-i-preserved
loop-i-preserved c =
    let ty = c.args.ty.now in
    let rest = c.loop-i.rest.now in
    let P : Option (Value × Bor (List ℕ)) → Type 0 = λ read. IsFirst (fits_of ty) (item_bytes ty) rest (option_map (λ (first : Value × Bor (List ℕ)). (first.0, first.1.now)) read) in
    let first : IsFirst (fits_of ty) (item_bytes ty) rest (Some (c.in-Some.value, c.in-Some.after.now)) = subst P c.in-Some.is c.in_ok-value.ensures in
    read_more ty c.args.count c.loop-i._i c.args.bytes.now rest c.in-Some.after.now c.loop-i.values.items c.push.new.self.items c.in-Some.value c.loop-i-test.true c.loop-i.invariant first c.in_ok-push.ensures.items
