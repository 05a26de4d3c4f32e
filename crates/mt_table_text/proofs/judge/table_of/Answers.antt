use Rattle.std.proofs.Common.{◌≤◌, ◌∙◌, ap, arith, length, map, subst, sym}
use Rattle.std.specs.List.{filter_map}
use Rattle.mt_table.specs.declared.limits.TheConstants.{MAX_KEY}
use Rattle.mt_table.specs.Kept.{keeps_rules}
use Rattle.mt_table_names.specs.NameSets.{listed}
use Rattle.mt_table_names.specs.Places.{expression_of, projection_in, skip_of}
use Rattle.mt_table_text.specs.Judging.{fields_of}
use Rattle.mt_table_names.specs.Sentence.{places_in}
use Rattle.mt_table_text.proofs.JudgeLemmas.{same_fields}
use Rattle.mt_table.proofs.KeptLemmas.{primary_small}
use Rattle.mt_table_text.proofs.judge.table_of.Goals as goal

pub overflow_cast-result : goal.overflow_cast-result
overflow_cast-result c =
    let few = primary_small (fields_of c.args.columns c.args.settings c.args.text.now) c.requires.rules in
    let here : length c.primary_names.result.now ≤ MAX_KEY = subst (λ names. length names ≤ MAX_KEY) (sym c.primary_names.ensures) few in
    omega (arith, here)

pub invariant_of-result : goal.invariant_of-result
invariant_of-result c =
    let same = same_fields _ _ c.args.columns _ _ _ _ _ _ _ _ _ _ c.args.settings
    (c.in_ok-name.ensures ∙ c.as_slice.ensures)
    (c.in_ok-partition.ensures ∙ ap (map (expression_of (listed c.args.names.now))) c.as_slice-2.ensures ∙ ap (λ names. map (expression_of names) c.args.text.now.partition) c.requires.named)
    (c.in_ok-sort.ensures ∙ ap (places_in (listed c.args.names.now)) c.as_slice-3.ensures ∙ ap (λ names. places_in names c.args.text.now.order) c.requires.named)
    (ap length c.primary_names.ensures)
    (c.in_ok-skips.ensures ∙ ap (filter_map (skip_of (listed c.args.names.now))) c.as_slice-4.ensures ∙ ap (λ names. filter_map (skip_of names) c.args.text.now.elements) c.requires.named)
    (c.in_ok-projections.ensures ∙ ap (filter_map (projection_in (listed c.args.names.now))) c.as_slice-5.ensures ∙ ap (λ names. filter_map (projection_in names) c.args.text.now.elements) c.requires.named) in
    record { rules = ap keeps_rules same ∙ c.requires.rules }

pub returns : goal.returns
returns c = same_fields _ _ c.args.columns _ _ _ _ _ _ _ _ _ _ c.args.settings
    (c.in_ok-name.ensures ∙ c.as_slice.ensures)
    (c.in_ok-partition.ensures ∙ ap (map (expression_of (listed c.args.names.now))) c.as_slice-2.ensures ∙ ap (λ names. map (expression_of names) c.args.text.now.partition) c.requires.named)
    (c.in_ok-sort.ensures ∙ ap (places_in (listed c.args.names.now)) c.as_slice-3.ensures ∙ ap (λ names. places_in names c.args.text.now.order) c.requires.named)
    (ap length c.primary_names.ensures)
    (c.in_ok-skips.ensures ∙ ap (filter_map (skip_of (listed c.args.names.now))) c.as_slice-4.ensures ∙ ap (λ names. filter_map (skip_of names) c.args.text.now.elements) c.requires.named)
    (c.in_ok-projections.ensures ∙ ap (filter_map (projection_in (listed c.args.names.now))) c.as_slice-5.ensures ∙ ap (λ names. filter_map (projection_in names) c.args.text.now.elements) c.requires.named)
