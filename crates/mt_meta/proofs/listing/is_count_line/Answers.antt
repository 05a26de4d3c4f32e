use Rattle.std.proofs.Common.{◌≡◌, List, ℕ, ap, ◌∙◌}
use Rattle.std.specs.Prelude.{codes}
use Rattle.std.specs.Fmt.{decimal}
use Rattle.std.specs.Str.{bytes_eq}
use Rattle.mt_meta.proofs.LineLemmas.{prefix_is, prefix_not}
use Rattle.mt_meta.proofs.listing.is_count_line.Goals as goal

pub returns-in-Some : goal.returns-in-Some
returns-in-Some c =
    let text : c.as_bytes.result.now ≡ decimal c.args.columns = c.as_bytes.ensures.value ∙ c.format.ensures.text in
    let h = rw text at c.in-Some.ensures.cases in
    c.eq.ensures ∙ ap (λ (rest : List ℕ). bytes_eq rest (codes " columns:")) h.1 ∙ prefix_is (decimal c.args.columns) (codes " columns:") c.args.line.now h.0

pub returns-in-None : goal.returns-in-None
returns-in-None c =
    let text : c.as_bytes.result.now ≡ decimal c.args.columns = c.as_bytes.ensures.value ∙ c.format.ensures.text in
    prefix_not (decimal c.args.columns) (codes " columns:") c.args.line.now (rw text at c.in-None.ensures.cases)
