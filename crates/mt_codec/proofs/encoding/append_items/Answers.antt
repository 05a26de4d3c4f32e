use Rattle.std.proofs.Common.{◌≡◌, true, ap, ◌∙◌}
use Rattle.mt_types.specs.Fits.{fits_of}
use Rattle.mt_types.specs.Defaults.{default_of}
use Rattle.mt_defs.specs.WrittenStreams.{or_default}
use Rattle.mt_codec.specs.Runs.{fits_or_null}
use Rattle.mt_codec.proofs.RunLemmas.{all_of_one}
use Rattle.mt_codec.proofs.WrittenLemmas.{default_fits_too}
use Rattle.mt_codec.proofs.encoding.append_items.Goals as goal

pub put_item-requires-clause-fits : goal.put_item-requires-clause-fits
put_item-requires-clause-fits c =
    let ty = c.args.ty.now in
    let one = all_of_one (fits_or_null ty) c.args.values.now c.loop-value.value-index c.value-item.result c.loop-value-test.true c.requires.fit in
    let fits : fits_or_null ty c.value-item.result ≡ true = ap (fits_or_null ty) c.value-item.is ∙ one in
    let put : fits_of ty (or_default (default_of ty) c.value-item.result) ≡ true = default_fits_too ty c.value-item.result fits in
    ap (fits_of ty) (c.value_or.ensures ∙ ap (λ d. or_default d c.value-item.result) c.requires.default) ∙ put
