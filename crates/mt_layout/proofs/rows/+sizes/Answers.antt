use Rattle.std.proofs.Common.{◌≡◌, refl, ap, sym, ◌∙◌}
use Rattle.std.specs.List.{sum_by}
use Rattle.mt_types.specs.declared.ty.Ty.TheVariants.{Nullable, Array}
use Rattle.mt_types.specs.declared.value.Value.{out-Value}
use Rattle.mt_types.specs.Defaults.{default_of}
use Rattle.mt_layout.specs.Sizes.{saturated, value_size}
use Rattle.mt_layout.proofs.SizeLemmas.{nullable_size, array_size, single_size, or_default_null, or_default_value, elements_of_list, elements_of_other, saturated-more}
use Rattle.mt_layout.proofs.rows.+sizes.Goals as goal

pub value_size-returns-in-Nullable : goal.value_size-returns-in-Nullable
value_size-returns-in-Nullable t c =
    let inner = c.get.result.now in
    let is : c.args.ty.now ≡ Nullable inner = c.in-Nullable.is ∙ ap (λ u. Nullable u) (sym c.get.ensures) in
    saturated-more _ _ 1 _ _ c.saturating_add.ensures c.filled_size.ensures (nullable_size c.args.ty.now inner c.args.value.now is)

pub value_size-returns-in-Array : goal.value_size-returns-in-Array
value_size-returns-in-Array t c =
    let inner = c.get-in-Array.result.now in
    let is : c.args.ty.now ≡ Array inner = c.in-Array.is ∙ ap (λ u. Array u) (sym c.get-in-Array.ensures) in
    saturated-more _ _ 8 _ _ c.saturating_add-in-Array.ensures c.elements_size.ensures (array_size c.args.ty.now inner c.args.value.now is)

pub value_size-returns-in_default : goal.value_size-returns-in_default
value_size-returns-in_default t c = c.item_size.ensures ∙ ap saturated (sym (single_size c.args.ty.now c.args.value.now c.in_default.not-Nullable c.in_default.not-Array))

pub filled_size-returns-in-Null : goal.filled_size-returns-in-Null
filled_size-returns-in-Null t c =
    c.default_size.ensures ∙ ap (λ v. saturated (value_size c.args.ty.now v)) (sym (or_default_null (default_of c.args.ty.now) c.args.value.now c.in-Null.is))

pub filled_size-returns-in_default : goal.filled_size-returns-in_default
filled_size-returns-in_default t c =
    c.value_size.ensures ∙ ap (λ v. saturated (value_size c.args.ty.now v)) (sym (or_default_value (default_of c.args.ty.now) c.args.value.now (out-Value c.args.value.now) refl c.in_default.not-Null))

pub elements_size-returns-in-List : goal.elements_size-returns-in-List
elements_size-returns-in-List t c =
    c.values_size.ensures ∙ ap (λ vs. saturated (sum_by (value_size c.args.ty.now) vs)) (c.as_slice.ensures ∙ sym (elements_of_list c.args.array.now c.in-List.elements c.in-List.is))

pub elements_size-returns-in_default : goal.elements_size-returns-in_default
elements_size-returns-in_default t c =
    ap (λ vs. saturated (sum_by (value_size c.args.ty.now) vs)) (sym (elements_of_other c.args.array.now (out-Value c.args.array.now) refl c.in_default.not-List))
