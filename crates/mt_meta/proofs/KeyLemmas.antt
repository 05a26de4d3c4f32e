-- The keys of granules, and the values of a row.
use Rattle.std.proofs.Common.{◌≡◌, ℕ, ◌+◌, ◌-◌, List, ◌∷◌, ◌++◌, length, take, drop, min, sym, ap, ◌∙◌, arith, append_assoc, subst}
use Rattle.std.specs.Prelude.{sum, All}
use Rattle.std.specs.List.{flat_map}
use Rattle.std.proofs.lemmas.List.{length-drop, take_min}
use Rattle.std.proofs.lemmas.List.Concat.{flat_map-append}
use Rattle.std.proofs.lemmas.List.Elements.{All-drop}
use Rattle.std.proofs.lemmas.List.Sums.{sum_by-cons}
use Rattle.mt_table.specs.declared.column.Column.{Column}
use Rattle.mt_defs.specs.Granules.{granule_rows}
use Rattle.mt_defs.specs.Rows.{Row, RowFits}

-- a granule of the primary index
pub index_step : (key : Row → List ℕ) (bytes new all granules later : List ℕ) (count : ℕ) (rest granule first after : List Row) → granules ≡ count ∷ later → granule ≡ take count rest → after ≡ drop count rest
    → first ≡ take (min 1 (length granule)) granule → new ≡ bytes ++ flat_map key first
    → bytes ++ flat_map key (flat_map (take 1) (granule_rows granules rest)) ≡ all → new ++ flat_map key (flat_map (take 1) (granule_rows later after)) ≡ all
index_step key bytes new all granules later count rest granule first after here front back one push ahead =
    let firsts = flat_map (take 1) (granule_rows later after) in
    let head : first ≡ take 1 (take count rest) = one ∙ take_min 1 granule ∙ ap (take 1) front in
    ap (λ l. l ++ flat_map key firsts) (push ∙ ap (λ l. bytes ++ flat_map key l) head)
    ∙ append_assoc bytes (flat_map key (take 1 (take count rest))) (flat_map key firsts)
    ∙ ap (λ l. bytes ++ l) (sym (flat_map-append key (take 1 (take count rest)) firsts))
    ∙ ap (λ a. bytes ++ flat_map key (take 1 (take count rest) ++ flat_map (take 1) (granule_rows later a))) back
    ∙ ap (λ g. bytes ++ flat_map key (flat_map (take 1) (granule_rows g rest))) (sym here) ∙ ahead

pub fit_left : (columns : List Column) (count : ℕ) (rest after : List Row) → after ≡ drop count rest → All (RowFits columns) rest → All (RowFits columns) after
fit_left columns count rest after back fit = subst (All (RowFits columns)) (sym back) (All-drop (RowFits columns) count rest fit)

pub cut_step : (granules later : List ℕ) (count : ℕ) (rest after : List Row) → granules ≡ count ∷ later → after ≡ drop count rest → sum granules ≡ length rest → sum later ≡ length after
cut_step granules later count rest after here back cut =
    let total : sum (count ∷ later) ≡ count + sum later = sum_by-cons (λ x. x) count later in
    let all : sum granules ≡ sum (count ∷ later) = ap sum here in
    let left : length after ≡ length rest - count = ap length back ∙ length-drop count rest in
    omega arith
