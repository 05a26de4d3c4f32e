use Rattle.std.proofs.Common.{◌∙◌, ap, sym}
use Rattle.std.specs.List.{list_all}
use Rattle.mt_table.specs.Kept.{names_of}
use Rattle.mt_table_text.specs.Judging.{fields_judged, from_codecs, from_forms, from_indexes, from_partition}
use Rattle.mt_table_rules.specs.Rules.{has_form, has_keys, is_index, is_partition}
use Rattle.mt_table_text.proofs.JudgeLemmas.{broken, kept}
use Rattle.mt_table_text.proofs.judge.judge_uses.Goals as goal

pub invariant_of-known : goal.invariant_of-known
invariant_of-known c = record { same = c.requires.same ∙ ap names_of (sym c.as_slice.ensures) }

pub returns-then-not-branch : goal.returns-then-not-branch
returns-then-not-branch c =
    broken _ _ (from_partition c.args.columns c.args.text.now) (fields_judged c.args.text.now) c.requires.so_far (ap (λ columns. has_keys columns c.args.text.now) (sym c.as_slice.ensures) ∙ sym c.in_ok-has_keys.ensures ∙ c.if-not-branch.true)

pub returns-then-not-branch-2 : goal.returns-then-not-branch-2
returns-then-not-branch-2 c =
    let keys = kept _ _ (from_partition c.args.columns c.args.text.now) (fields_judged c.args.text.now) c.requires.so_far (ap (λ columns. has_keys columns c.args.text.now) (sym c.as_slice.ensures) ∙ sym c.in_ok-has_keys.ensures ∙ c.if-not-branch.false) in
    broken _ _ (from_indexes c.args.columns c.args.text.now) (fields_judged c.args.text.now) keys (ap (λ columns. is_partition columns c.args.text.now.partition) (sym c.as_slice.ensures) ∙ ap (is_partition c.as_slice.result.now) (sym c.as_slice-2.ensures) ∙ sym c.in_ok-has_partition.ensures ∙ c.if-not-branch-2.true)

pub returns-then-not-has_indexes : goal.returns-then-not-has_indexes
returns-then-not-has_indexes c =
    let keys = kept _ _ (from_partition c.args.columns c.args.text.now) (fields_judged c.args.text.now) c.requires.so_far (ap (λ columns. has_keys columns c.args.text.now) (sym c.as_slice.ensures) ∙ sym c.in_ok-has_keys.ensures ∙ c.if-not-branch.false) in
    let partition = kept _ _ (from_indexes c.args.columns c.args.text.now) (fields_judged c.args.text.now) keys (ap (λ columns. is_partition columns c.args.text.now.partition) (sym c.as_slice.ensures) ∙ ap (is_partition c.as_slice.result.now) (sym c.as_slice-2.ensures) ∙ sym c.in_ok-has_partition.ensures ∙ c.if-not-branch-2.false) in
    broken _ _ (from_forms c.args.columns c.args.text.now) (fields_judged c.args.text.now) partition (ap (λ columns. list_all (is_index columns) c.args.text.now.elements) (sym c.as_slice.ensures) ∙ ap (list_all (is_index c.as_slice.result.now)) (sym c.as_slice-elements.ensures) ∙ sym c.has_indexes.ensures ∙ c.if-not-has_indexes.true)

pub returns-then-not-branch-3 : goal.returns-then-not-branch-3
returns-then-not-branch-3 c =
    let keys = kept _ _ (from_partition c.args.columns c.args.text.now) (fields_judged c.args.text.now) c.requires.so_far (ap (λ columns. has_keys columns c.args.text.now) (sym c.as_slice.ensures) ∙ sym c.in_ok-has_keys.ensures ∙ c.if-not-branch.false) in
    let partition = kept _ _ (from_indexes c.args.columns c.args.text.now) (fields_judged c.args.text.now) keys (ap (λ columns. is_partition columns c.args.text.now.partition) (sym c.as_slice.ensures) ∙ ap (is_partition c.as_slice.result.now) (sym c.as_slice-2.ensures) ∙ sym c.in_ok-has_partition.ensures ∙ c.if-not-branch-2.false) in
    let indexes = kept _ _ (from_forms c.args.columns c.args.text.now) (fields_judged c.args.text.now) partition (ap (λ columns. list_all (is_index columns) c.args.text.now.elements) (sym c.as_slice.ensures) ∙ ap (list_all (is_index c.as_slice.result.now)) (sym c.as_slice-elements.ensures) ∙ sym c.has_indexes.ensures ∙ c.if-not-has_indexes.false) in
    broken _ _ (from_codecs c.args.columns c.args.text.now) (fields_judged c.args.text.now) indexes (ap (λ columns. list_all (has_form columns) c.args.text.now.elements) (sym c.as_slice.ensures) ∙ ap (list_all (has_form c.as_slice.result.now)) (sym c.as_slice-elements.ensures) ∙ sym c.in_ok-has_forms.ensures ∙ c.if-not-branch-3.true)

pub judge_rest-requires-clause-so_far : goal.judge_rest-requires-clause-so_far
judge_rest-requires-clause-so_far c =
    let keys = kept _ _ (from_partition c.args.columns c.args.text.now) (fields_judged c.args.text.now) c.requires.so_far (ap (λ columns. has_keys columns c.args.text.now) (sym c.as_slice.ensures) ∙ sym c.in_ok-has_keys.ensures ∙ c.if-not-branch.false) in
    let partition = kept _ _ (from_indexes c.args.columns c.args.text.now) (fields_judged c.args.text.now) keys (ap (λ columns. is_partition columns c.args.text.now.partition) (sym c.as_slice.ensures) ∙ ap (is_partition c.as_slice.result.now) (sym c.as_slice-2.ensures) ∙ sym c.in_ok-has_partition.ensures ∙ c.if-not-branch-2.false) in
    let indexes = kept _ _ (from_forms c.args.columns c.args.text.now) (fields_judged c.args.text.now) partition (ap (λ columns. list_all (is_index columns) c.args.text.now.elements) (sym c.as_slice.ensures) ∙ ap (list_all (is_index c.as_slice.result.now)) (sym c.as_slice-elements.ensures) ∙ sym c.has_indexes.ensures ∙ c.if-not-has_indexes.false) in
    kept _ _ (from_codecs c.args.columns c.args.text.now) (fields_judged c.args.text.now) indexes (ap (λ columns. list_all (has_form columns) c.args.text.now.elements) (sym c.as_slice.ensures) ∙ ap (list_all (has_form c.as_slice.result.now)) (sym c.as_slice-elements.ensures) ∙ sym c.in_ok-has_forms.ensures ∙ c.if-not-branch-3.false)
