use Rattle.std.proofs.Common.{[], ◌∷◌, ap, sym, ◌∙◌}
use Rattle.std.specs.Prelude.{option_and_then, option_copied}
use Rattle.std.proofs.lemmas.Bool.Decides.{Decides-eqb}
use Rattle.std.proofs.lemmas.Slice.Eq.{strip_prefix_is, strip_suffix_is}
use Rattle.mt_types.specs.NameReading.{before_close}
use Rattle.mt_types.proofs.TextLemmas.{strip_prefix_result, strip_close_result}
use Rattle.mt_types.proofs.ty.scalar.between.Goals as goal

pub returns-in_err-strip_prefix : goal.returns-in_err-strip_prefix
returns-in_err-strip_prefix c =
    let h = strip_prefix_is Decides-eqb c.args.text.now c.args.opening.now c.strip_prefix.result c.strip_prefix.ensures.cases in
    ap option_copied c.from_residual.ensures
    ∙ ap (option_and_then before_close) (ap option_copied (sym (c.in_err-strip_prefix.was)) ∙ strip_prefix_result c.args.text.now c.args.opening.now c.strip_prefix.result h)

pub returns : goal.returns
returns c =
    let h = strip_prefix_is Decides-eqb c.args.text.now c.args.opening.now c.strip_prefix.result c.strip_prefix.ensures.cases in
    let rest = c.in_ok-strip_prefix.field-0.now in
    let g = strip_suffix_is Decides-eqb rest (41 ∷ []) c.strip_suffix.result c.strip_suffix.ensures.cases in
    strip_close_result rest c.strip_suffix.result g
    ∙ ap (option_and_then before_close) (ap option_copied (sym (c.in_ok-strip_prefix.was)) ∙ strip_prefix_result c.args.text.now c.args.opening.now c.strip_prefix.result h)
