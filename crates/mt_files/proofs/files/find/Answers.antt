use Rattle.std.proofs.Common.{sym, ap, ◌∙◌}
use Rattle.std.specs.Prelude.{Some}
use Rattle.std.proofs.lemmas.Slice.Eq.{bytes_eq-Decides}
use Rattle.mt_files.proofs.FileLemmas.{file_found, file_passed}
use Rattle.mt_files.proofs.files.find.Goals as goal

pub returns-then-eq : goal.returns-then-eq
returns-then-eq c =
    let same = (bytes_eq-Decides c.as_slice.result.now c.args.name.now).0 (sym c.eq.ensures ∙ c.if-eq.true) in
    ap Some c.as_slice-then-eq.ensures
    ∙ sym (file_found c.args.files.now c.args.name.now c.loop-file.file-index c.file-item.result _ c.loop-file.invariant c.loop-file-test.true c.file-item.is (sym c.as_slice.ensures ∙ same))

pub loop-file-preserved : goal.loop-file-preserved
loop-file-preserved c =
    file_passed c.args.files.now c.args.name.now c.loop-file.file-index c.file-item.result _ c.loop-file.invariant c.loop-file-test.true c.file-item.is
    (λ is. let e = sym ((bytes_eq-Decides c.as_slice.result.now c.args.name.now).1 (c.as_slice.ensures ∙ is)) ∙ (sym c.eq.ensures ∙ c.if-eq.false) in cc)
