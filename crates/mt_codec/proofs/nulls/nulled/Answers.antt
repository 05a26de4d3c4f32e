use Rattle.std.proofs.Common.{◌∙◌, ℕ, List, length, set, ap, sym, add-one}
use Rattle.mt_types.specs.declared.value.Value.{Value}
use Rattle.mt_types.specs.declared.value.Value.TheVariants.{Null}
use Rattle.std.proofs.lemmas.List.{length-set}
use Rattle.mt_codec.proofs.NullLemmas.{nulled_to, null_put, value_kept}
use Rattle.mt_codec.proofs.nulls.nulled.Goals as goal

pub loop-i-preserved-then-nulls-i-ne1 : goal.loop-i-preserved-then-nulls-i-ne1
loop-i-preserved-then-nulls-i-ne1 c = record {
  done = c.loop-i.invariant.done ∙ value_kept c.loop-i.i c.args.nulls.now c.args.values c.loop-i-test.true c.requires c.if-nulls-i-ne1.true ∙ ap (λ (n : ℕ). nulled_to n c.args.nulls.now c.args.values) (sym (add-one c.loop-i.i));
  long = c.loop-i.invariant.long;
}

pub loop-i-preserved : goal.loop-i-preserved
loop-i-preserved c = record {
  done = c.put_null.ensures ∙ ap (λ (vs : List Value). set vs c.loop-i.i Null) c.loop-i.invariant.done ∙ null_put c.loop-i.i c.args.nulls.now c.args.values c.loop-i-test.true c.requires c.if-nulls-i-ne1.false ∙ ap (λ (n : ℕ). nulled_to n c.args.nulls.now c.args.values) (sym (add-one c.loop-i.i));
  long = ap length c.put_null.ensures ∙ length-set c.loop-i.values.items c.loop-i.i Null ∙ c.loop-i.invariant.long;
}
