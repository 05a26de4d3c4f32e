use Rattle.std.proofs.Common.{List, ℕ, [], ◌∷◌, ap, ◌∙◌}
use Rattle.std.specs.Str.{bytes_eq}
use Rattle.mt_meta.specs.declared.ascii.TheConstants.{LINE_END}
use Rattle.mt_meta.proofs.LineLemmas.{prefix_is, prefix_not}
use Rattle.mt_meta.proofs.order.is_line.Goals as goal

pub returns-in-Some : goal.returns-in-Some
returns-in-Some c =
    let h = c.in-Some.ensures.cases in
    c.eq.ensures ∙ ap (λ (rest : List ℕ). bytes_eq c.in-Some.rest.now rest) c.as_slice.ensures
    ∙ ap (λ (rest : List ℕ). bytes_eq rest (LINE_END ∷ [])) h.1 ∙ prefix_is c.args.line.now (LINE_END ∷ []) c.args.text.now h.0

pub returns-in-None : goal.returns-in-None
returns-in-None c = prefix_not c.args.line.now (LINE_END ∷ []) c.args.text.now c.in-None.ensures.cases
