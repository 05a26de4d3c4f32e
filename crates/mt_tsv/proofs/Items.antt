-- The values of an array, element by element.
use Rattle.std.proofs.Common.{◌≡◌, ℕ, ◌<◌, ◌≤◌, List, [], ◌∷◌, ◌++◌, length, Result, Ok, Err, refl, sym, ap, ◌∙◌}
use Rattle.std.proofs.lemmas.Bool.{le-leb, lt-leb}
use Rattle.std.proofs.lemmas.List.{append-nil}
use Rattle.mt_types.specs.declared.value.Value.{Value}
use Rattle.mt_types.specs.declared.value.Value.TheVariants.{List as Items}
use Rattle.mt_types.specs.declared.limits.TheConstants.{MAX_ELEMENTS}
use Rattle.mt_tsv.specs.declared.fault.RowWhy.{RowWhy}
use Rattle.mt_tsv.specs.declared.fault.RowWhy.TheVariants.{TooLong}
use Rattle.mt_tsv.specs.declared.fault.FieldError.{FieldError}
use Rattle.mt_tsv.specs.declared.fault.FieldError.TheVariants as field_error
use Rattle.mt_types.specs.Steps.{onto}
use Rattle.mt_tsv.specs.Results.{FieldFails}
use Rattle.mt_tsv.specs.Arrays.{Element, array_of, element_values, level_of}
use Rattle.mt_tsv.proofs.Prefixes.{with_prefix, with_prefix-onto}

pub items_more : (read : List ℕ → Result Value RowWhy) (prefix : List Value) (texts : List (List ℕ)) (text : List ℕ) (next : List (List ℕ)) (value : Value) (whole : Result (List Value) RowWhy)
    → texts ≡ text ∷ next → read text ≡ Ok value → with_prefix prefix (element_values read texts) ≡ whole → with_prefix (prefix ++ value ∷ []) (element_values read next) ≡ whole
unfolding element_values
items_more read prefix texts text next value whole e f h =
    let one : element_values read texts ≡ onto value (element_values read next) = ap (element_values read) e ∙ rw f refl in
    sym (with_prefix-onto prefix value (element_values read next)) ∙ sym (ap (with_prefix prefix) one) ∙ h

pub items_end : (error : FieldError) (read : List ℕ → Result Value RowWhy) (prefix : List Value) (texts : List (List ℕ)) (text : List ℕ) (next : List (List ℕ)) (whole : Result (List Value) RowWhy)
    → texts ≡ text ∷ next → FieldFails error (read text) → with_prefix prefix (element_values read texts) ≡ whole → FieldFails error whole
unfolding element_values
items_end field_error.NoMemory read prefix texts text next whole e f h = tt
items_end (field_error.Bad why) read prefix texts text next whole e f h =
    let one : element_values read texts ≡ Err why = ap (element_values read) e ∙ rw f refl in
    sym h ∙ ap (with_prefix prefix) one

pub items_done : (read : List ℕ → Result Value RowWhy) (prefix : List Value) (texts : List (List ℕ)) (whole : Result (List Value) RowWhy) → texts ≡ [] → with_prefix prefix (element_values read texts) ≡ whole → whole ≡ Ok prefix
unfolding element_values
items_done read prefix texts whole e h =
    let one : element_values read texts ≡ Ok [] = ap (element_values read) e in
    sym h ∙ ap (with_prefix prefix) one ∙ ap (λ (values : List Value). let r : Result (List Value) RowWhy = Ok values in r) (append-nil prefix)

pub array_level_fails : (error : FieldError) (element : Element) (text : List ℕ) → FieldFails error (level_of element.in_quotes text) → FieldFails error (array_of element text)
unfolding array_of
array_level_fails field_error.NoMemory element text h = tt
array_level_fails (field_error.Bad why) element text h = rw h refl

pub array_items_fail : (error : FieldError) (element : Element) (text : List ℕ) (texts : List (List ℕ)) → level_of element.in_quotes text ≡ Ok texts → FieldFails error (element_values element.read texts) → FieldFails error (array_of element text)
unfolding array_of
array_items_fail field_error.NoMemory element text texts e h = tt
array_items_fail (field_error.Bad why) element text texts e h = rw (e, h) refl

pub array_too_long : (element : Element) (text : List ℕ) (texts : List (List ℕ)) (values : List Value) → level_of element.in_quotes text ≡ Ok texts → element_values element.read texts ≡ Ok values → MAX_ELEMENTS < length values
    → array_of element text ≡ Err TooLong
unfolding array_of
array_too_long element text texts values e h long = rw (e, h, lt-leb (length values) MAX_ELEMENTS long) refl

pub array_is : (element : Element) (text : List ℕ) (texts : List (List ℕ)) (values : List Value) → level_of element.in_quotes text ≡ Ok texts → element_values element.read texts ≡ Ok values → length values ≤ MAX_ELEMENTS
    → array_of element text ≡ Ok (Items values)
unfolding array_of
array_is element text texts values e h fits = rw (e, h, le-leb (length values) MAX_ELEMENTS fits) refl
