use Rattle.std.proofs.Common.{arith, refl, length}
use Rattle.std.specs.Prelude.{◌==◌}
use Rattle.std.proofs.lemmas.Bool.{eq-eqb, ne_eqb}
use Rattle.std.proofs.lemmas.List.Splits.{length-slice_split}
use Rattle.mt_tsv.specs.declared.ascii.TheConstants.{TAB}
use Rattle.mt_tsv.specs.Reading.{line_fields}
use Rattle.mt_tsv.proofs.line.first_error.Goals as goal

pub returns-then-count_of-columns : goal.returns-then-count_of-columns
returns-then-count_of-columns c =
    let n = length-slice_split (λ b. b == TAB) c.args.line.now in
    rw (eq-eqb (length (line_fields c.args.line.now)) c.args.columns (omega (arith, n, c.count_of.ensures, c.if-count_of-columns.true))) refl

pub returns-else-count_of-columns : goal.returns-else-count_of-columns
returns-else-count_of-columns c =
    let n = length-slice_split (λ b. b == TAB) c.args.line.now in
    rw (ne_eqb (length (line_fields c.args.line.now)) c.args.columns (λ e. c.if-count_of-columns.false (omega (arith, n, c.count_of.ensures, e)))) refl
