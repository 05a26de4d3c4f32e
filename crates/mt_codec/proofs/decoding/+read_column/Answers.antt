use Rattle.std.proofs.Common.{Bool, List, ℕ, Ok, ◌≡◌, ◌+◌, sum, ap, sym, subst, ◌∙◌}
use Rattle.std.proofs.lemmas.Result.{err_from_is_err_and}
use Rattle.mt_types.specs.declared.ty.Ty.TheVariants.{Array}
use Rattle.mt_types.specs.declared.value.Value.{Value}
use Rattle.mt_codec.specs.Results.{CodecFailsAs}
use Rattle.mt_codec.specs.ColumnReading.{Read, Column, column_from, array_from, arrays_from}
use Rattle.mt_codec.specs.Cursor.{is_apart, lists}
use Rattle.mt_codec.proofs.ColumnLemmas.{column_Array, array_wrong, array_inner_wrong, array_read}
use Rattle.mt_codec.proofs.decoding.+read_column.Goals as goal

pub returns-in_err-sizes-in-Array : goal.returns-in_err-sizes-in-Array
returns-in_err-sizes-in-Array t c =
    let p = err_from_is_err_and c.from_residual.result c.from_residual.ensures.1 in
    let apart = is_apart c.args.streams in
    let u = c.get-inner.result.now in
    let is : c.args.ty.now ≡ Array u = c.in-Array.is ∙ ap (λ u. Array u) (sym c.get-inner.ensures) in
    let column : column_from apart c.args.ty.now ≡ array_from apart (column_from apart u) = ap (column_from apart) is ∙ column_Array apart u in
    rw (p.1, p.2) (subst (λ (f : Column). CodecFailsAs c.in_err-sizes-in-Array.field-0.0 (f c.args.stream c.args.count (lists c.args.streams))) (sym column)
    (array_wrong apart (column_from apart u) c.args.stream c.args.count (lists c.args.streams) c.in_err-sizes-in-Array.field-0.0 c.in_err-sizes-in-Array.ensures))

pub returns-in_err-elements-in-Array : goal.returns-in_err-elements-in-Array
returns-in_err-elements-in-Array t c =
    let p = err_from_is_err_and c.from_residual-in_err-elements-in-Array.result c.from_residual-in_err-elements-in-Array.ensures.1 in
    let apart = is_apart c.args.streams in
    let u = c.get-inner.result.now in
    let e = c.in_err-elements-in-Array.field-0.0 in
    let sizes = c.in_ok-sizes-in-Array.sizes in
    let left = c.in_ok-sizes-in-Array.left in
    let is : c.args.ty.now ≡ Array u = c.in-Array.is ∙ ap (λ u. Array u) (sym c.get-inner.ensures) in
    let column : column_from apart c.args.ty.now ≡ array_from apart (column_from apart u) = ap (column_from apart) is ∙ column_Array apart u in
    let total : c.sum_of-total.result ≡ sum sizes = c.sum_of-total.ensures ∙ ap sum c.as_slice.ensures in
    let inner = subst (λ (a : Bool). CodecFailsAs e (column_from a u (c.args.stream + 1) (sum sizes) (lists left))) c.in_ok-sizes-in-Array.ensures.0
    (subst (λ (n : ℕ). CodecFailsAs e (column_from (is_apart left) u (c.args.stream + 1) n (lists left))) total c.in_err-elements-in-Array.ensures) in
    rw (p.1, p.2) (subst (λ (f : Column). CodecFailsAs e (f c.args.stream c.args.count (lists c.args.streams))) (sym column)
    (array_inner_wrong apart (column_from apart u) c.args.stream c.args.count (lists c.args.streams) sizes (lists left) e c.in_ok-sizes-in-Array.ensures.1 inner))

pub returns-in_ok-arrays_from-in-Array : goal.returns-in_ok-arrays_from-in-Array
returns-in_ok-arrays_from-in-Array t c =
    let apart = is_apart c.args.streams in
    let u = c.get-inner.result.now in
    let sizes = c.in_ok-sizes-in-Array.sizes in
    let left = c.in_ok-sizes-in-Array.left in
    let elements = c.in_ok-elements-in-Array.elements in
    let more = c.in_ok-elements-in-Array.left in
    let is : c.args.ty.now ≡ Array u = c.in-Array.is ∙ ap (λ u. Array u) (sym c.get-inner.ensures) in
    let column : column_from apart c.args.ty.now ≡ array_from apart (column_from apart u) = ap (column_from apart) is ∙ column_Array apart u in
    let total : c.sum_of-total.result ≡ sum sizes = c.sum_of-total.ensures ∙ ap sum c.as_slice.ensures in
    let inner : column_from apart u (c.args.stream + 1) (sum sizes) (lists left) ≡ Ok (elements, lists more) = subst (λ (a : Bool). column_from a u (c.args.stream + 1) (sum sizes) (lists left) ≡ Ok (elements, lists more)) c.in_ok-sizes-in-Array.ensures.0
    (subst (λ (n : ℕ). column_from (is_apart left) u (c.args.stream + 1) n (lists left) ≡ Ok (elements, lists more)) total c.in_ok-elements-in-Array.ensures.1) in
    let whole = array_read apart (column_from apart u) c.args.stream c.args.count (lists c.args.streams) sizes (lists left) elements (lists more) c.in_ok-sizes-in-Array.ensures.1 inner in (
      c.in_ok-elements-in-Array.ensures.0 ∙ c.in_ok-sizes-in-Array.ensures.0,
      ap (λ (f : Column). f c.args.stream c.args.count (lists c.args.streams)) column ∙ whole
          ∙ ap (λ (vs : List Value). let r : Read (List Value × List (List ℕ)) = Ok (vs, lists more) in r) (ap (λ (ns : List ℕ). arrays_from ns elements) (sym c.as_slice-in-Array.ensures) ∙ sym c.in_ok-arrays_from-in-Array.ensures),
    )
