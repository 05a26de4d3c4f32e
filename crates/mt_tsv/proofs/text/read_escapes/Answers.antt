use Rattle.std.proofs.Common.{◌∷◌, sym, ap, ◌∙◌}
use Rattle.std.specs.Option.{option_copied}
use Rattle.mt_tsv.specs.declared.ascii.TheConstants.{BACKSLASH}
use Rattle.mt_tsv.specs.Reading.{parts}
use Rattle.mt_tsv.specs.Texts.{text_of}
use Rattle.mt_tsv.proofs.Escapes.{escape_more, escape_cut, escape_bad, text_done}
use Rattle.mt_tsv.proofs.text.read_escapes.Goals as goal

pub returns-in_default : goal.returns-in_default
returns-in_default c =
    let here = c.cut.ensures.parts ∙ ap (λ o. c.cut.result.0.now ∷ parts BACKSLASH (option_copied o)) c.in_default.is in
    rw c.in_ok-append.ensures.ok (text_done c.runs.text c.runs.rest.now c.cut.result.0.now (text_of c.args.field.now) here c.runs.invariant)

pub returns-in_default-split_first : goal.returns-in_default-split_first
returns-in_default-split_first c =
    let here = c.cut.ensures.parts ∙ ap (λ o. c.cut.result.0.now ∷ parts BACKSLASH (option_copied o)) c.in-Some.is in
    escape_cut c.runs.text c.runs.rest.now c.cut.result.0.now c.in-Some.after.now (text_of c.args.field.now) here c.in_default-split_first.ensures c.runs.invariant

pub returns-in_default-unescaped : goal.returns-in_default-unescaped
returns-in_default-unescaped c =
    let here = c.cut.ensures.parts ∙ ap (λ o. c.cut.result.0.now ∷ parts BACKSLASH (option_copied o)) c.in-Some.is in
    escape_bad c.runs.text c.runs.rest.now c.cut.result.0.now c.in-Some.after.now c.in-Some-split_first.letter c.in-Some-split_first.after.now (text_of c.args.field.now) here c.in-Some-split_first.ensures (sym c.unescaped.ensures ∙ c.in_default-unescaped.is) c.runs.invariant

pub runs-preserved : goal.runs-preserved
runs-preserved c =
    let here = c.cut.ensures.parts ∙ ap (λ o. c.cut.result.0.now ∷ parts BACKSLASH (option_copied o)) c.in-Some.is in
    rw (c.in_ok-push.ensures.ok, c.in_ok-append.ensures.ok) (escape_more c.runs.text c.runs.rest.now c.cut.result.0.now c.in-Some.after.now c.in-Some-split_first.letter c.in-Some-split_first.after.now c.in-Some-unescaped.byte (text_of c.args.field.now) here c.in-Some-split_first.ensures (sym c.unescaped.ensures ∙ c.in-Some-unescaped.is) c.runs.invariant)
