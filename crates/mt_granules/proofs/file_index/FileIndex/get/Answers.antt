use Rattle.std.proofs.Common.{List, length, get_or, ap, sym, ◌∙◌, arith, Bor}
use Rattle.std.specs.Prelude.{option_copied, Some}
use Rattle.std.specs.Str.{bytes_eq}
use Rattle.std.proofs.lemmas.Bool.{ltb-true, ltb-false}
use Rattle.std.proofs.lemmas.Map.Text.{is_eq-slice_cmp}
use Rattle.mt_fault.specs.declared.file.FileBytes.{FileBytes}
use Rattle.mt_granules.specs.FileOrder.{referenced_files}
use Rattle.mt_granules.proofs.FileLemmas.{not_found, found_there, other_there, reference_at, files_many}
use Rattle.mt_granules.proofs.file_index.FileIndex.get.Goals as goal

pub returns-in_err-file : goal.returns-in_err-file
returns-in_err-file c =
    let over = ltb-false _ _ (sym c.in_err-file.ensures.lookup.0) in
    ap option_copied c.from_residual.ensures
    ∙ sym (not_found c.args.name.now (referenced_files c.args.self.now.sorted.items) c.count_below-index.result c.count_below-index.ensures
    (omega (arith, over, ap (λ (l : List (Bor FileBytes)). length l) c.as_slice.ensures.value, files_many c.args.self.now.sorted.items)))

pub returns-then-eq : goal.returns-then-eq
returns-then-eq c =
    let files = c.args.self.now.sorted.items in
    let file = c.in_ok-file.field-0.now in
    let inside = ltb-true _ _ (sym c.in_ok-file.ensures.lookup.0) in
    let many = ap (λ (l : List (Bor FileBytes)). length l) c.as_slice.ensures.value in
    let there = reference_at files c.count_below-index.result file (omega (arith, inside, many)) (c.in_ok-file.ensures.lookup.1 ∙ ap (λ (l : List (Bor FileBytes)). get_or l c.count_below-index.result file) c.as_slice.ensures.value) in
    ap (λ b. Some b) c.as_slice-then-eq.ensures
    ∙ sym (found_there c.args.name.now (referenced_files files) c.count_below-index.result file.now c.count_below-index.ensures (omega (arith, inside, many, files_many files)) there
    (is_eq-slice_cmp file.now.name c.args.name.now ∙ ap (λ n. bytes_eq n c.args.name.now) (sym c.as_slice-2.ensures) ∙ sym c.if-eq.ensures))

pub returns : goal.returns
returns c =
    let files = c.args.self.now.sorted.items in
    let file = c.in_ok-file.field-0.now in
    let inside = ltb-true _ _ (sym c.in_ok-file.ensures.lookup.0) in
    let many = ap (λ (l : List (Bor FileBytes)). length l) c.as_slice.ensures.value in
    let there = reference_at files c.count_below-index.result file (omega (arith, inside, many)) (c.in_ok-file.ensures.lookup.1 ∙ ap (λ (l : List (Bor FileBytes)). get_or l c.count_below-index.result file) c.as_slice.ensures.value) in
    sym (other_there c.args.name.now (referenced_files files) c.count_below-index.result file.now c.args.self.now.rising c.count_below-index.ensures (omega (arith, inside, many, files_many files)) there
    (is_eq-slice_cmp file.now.name c.args.name.now ∙ ap (λ n. bytes_eq n c.args.name.now) (sym c.as_slice-2.ensures) ∙ sym c.if-eq.ensures))
