use Rattle.std.proofs.Common.{◌≡◌, ◌+◌, ◌++◌, [], ◌∷◌, true, take, get_or, ap, sym, ◌∙◌, subst, append_assoc}
use Rattle.std.specs.Prelude.{Some, slice_get}
use Rattle.std.specs.List.{flat_map}
use Rattle.std.specs.Option.{option_copied}
use Rattle.std.proofs.lemmas.Grind.{flat_map-append}
use Rattle.std.proofs.lemmas.List.{append-nil, take_more}
use Rattle.mt_types.specs.Fits.{fits_of}
use Rattle.mt_types.specs.Items.{item_bytes}
use Rattle.mt_skip.specs.Gathering.{values_in}
use Rattle.mt_skip.proofs.DistinctLemmas.{key_at}
use Rattle.mt_skip.proofs.entry.append_items.Goals as goal

pub put_item-requires-clause-fits : goal.put_item-requires-clause-fits
put_item-requires-clause-fits c =
    let keys = c.args.values.now.keys in
    let v = c.in-Some.seen.now.value.now in
    let there : slice_get keys c.loop-i.i ≡ Some c.in-Some.seen.now = sym c.get_index.ensures.key ∙ ap option_copied c.in-Some.is in
    let at = key_at keys c.loop-i.i c.in-Some.seen.now v there in
    subst (λ value. fits_of c.args.ty.now value ≡ true) at.1 (c.requires.fit c.loop-i.i v at.0)

pub loop-i-preserved : goal.loop-i-preserved
loop-i-preserved c =
    let keys = c.args.values.now.keys in
    let values = values_in keys in
    let i = c.loop-i.i in
    let v = c.in-Some.seen.now.value.now in
    let item = item_bytes c.args.ty.now in
    let there : slice_get keys i ≡ Some c.in-Some.seen.now = sym c.get_index.ensures.key ∙ ap option_copied c.in-Some.is in
    let at = key_at keys i c.in-Some.seen.now v there in
    let more : flat_map item (take (i + 1) values) ≡ flat_map item (take i values) ++ item v =
    ap (flat_map item) (take_more values i v at.0) ∙ flat_map-append item (take i values) (get_or values i v ∷ []) ∙ ap (λ w. flat_map item (take i values) ++ flat_map item (w ∷ [])) at.1 ∙ ap (λ b. flat_map item (take i values) ++ b) (append-nil (item v)) in
    c.in_ok-put_item.ensures ∙ ap (λ b. b ++ item v) c.loop-i.invariant ∙ append_assoc c.args.out.now (flat_map item (take i values)) (item v) ∙ ap (λ b. c.args.out.now ++ b) (sym more)
