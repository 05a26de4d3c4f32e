use Rattle.std.proofs.Common.{◌≤◌, ◌<◌, [], length, map, ap, sym, ◌∙◌, arith}
use Rattle.std.proofs.lemmas.List.{get_or-map, length-map}
use Rattle.mt_types.specs.declared.value.AggState.{AggState}
use Rattle.mt_types.specs.declared.value.Value.TheVariants.{Null, State}
use Rattle.mt_types.specs.Fits.{fits_of}
use Rattle.mt_types.specs.Items.{item_bytes}
use Rattle.mt_codec.proofs.RunLemmas.{all_of_one}
use Rattle.mt_cells.proofs.CutLemmas.{put_more}
use Rattle.mt_column_codec.proofs.written.states_of.Goals as goal

pub put_item-requires-clause-fits : goal.put_item-requires-clause-fits
put_item-requires-clause-fits c =
    let states = c.args.states.now in
    let i = c.loop-index.index in
    let there : i < length states = omega arith in
    let within : i < length (map (λ (s : AggState). State s) states) = omega (arith, there, length-map states (λ (s : AggState). State s)) in
    ap (fits_of c.args.ty.now) (sym (get_or-map (λ (s : AggState). State s) states i _ Null there)) ∙ all_of_one (fits_of c.args.ty.now) (map (λ (s : AggState). State s) states) i Null within c.requires.fit

pub loop-index-preserved : goal.loop-index-preserved
loop-index-preserved c =
    let states = c.args.states.now in
    let i = c.loop-index.index in
    let order : c.args.from ≤ i = omega arith in
    let there : i < length states = omega arith in
    let within : i < length (map (λ (s : AggState). State s) states) = omega (arith, there, length-map states (λ (s : AggState). State s)) in
    put_more (item_bytes c.args.ty.now) c.args.from i (map (λ (s : AggState). State s) states) [] c.loop-index.bytes c.put_item.new.out _ Null order within c.loop-index.invariant c.in_ok-put_item.ensures
    (sym (get_or-map (λ (s : AggState). State s) states i _ Null there))
