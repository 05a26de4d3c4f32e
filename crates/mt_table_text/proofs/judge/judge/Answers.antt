use Rattle.std.proofs.Common.{◌≡◌, ◌∙◌, ap, false, subst, sym, true}
use Rattle.std.specs.Prelude.{MatchOption}
use Rattle.mt_table_names.specs.NameSets.{AreListed}
use Rattle.mt_table_text.specs.Judging.{fields_judged, from_keys}
use Rattle.mt_table_names.specs.Present.{all_are_there}
use Rattle.mt_table_names.specs.OwnNames.{are_own}
use Rattle.mt_table_rules.specs.Columns.{columns_of}
use Rattle.mt_table_names.specs.SentenceNames.{AreOfElements}
use Rattle.mt_table_rules.proofs.ColumnLemmas.{read_names}
use Rattle.mt_table_text.proofs.JudgeLemmas.{begun, broken, kept, no_types, owned, set_found, two_names}
use Rattle.mt_table_text.proofs.judge.judge.Goals as goal

pub returns-in_default : goal.returns-in_default
returns-in_default c =
    no_types c.args.text.now (sym c.in_default.is ∙ c.in_ok-columns.ensures ∙ ap columns_of c.as_slice-elements.ensures)

pub returns-in_default-2 : goal.returns-in_default-2
returns-in_default-2 c =
    let are = subst (AreOfElements c.in_ok-names.names) c.as_slice-elements.ensures c.in_ok-names.ensures in
    let read = sym c.in-Some.is ∙ c.in_ok-columns.ensures ∙ ap columns_of c.as_slice-elements.ensures in
    let none = subst (λ o. MatchOption o (are_own c.in_ok-names.names.columns c.in_ok-names.names.indexes c.in_ok-names.names.projections ≡ false) (λ names. (are_own c.in_ok-names.names.columns c.in_ok-names.names.indexes c.in_ok-names.names.projections ≡ true) × AreListed names c.in_ok-names.names.columns)) c.in_default-2.is c.in_ok-set.ensures in
    two_names c.args.text.now c.in-Some.columns read (owned c.in_ok-names.names c.args.text.now.elements false are none)

pub returns-then-not-has_all : goal.returns-then-not-has_all
returns-then-not-has_all c =
    let are = subst (AreOfElements c.in_ok-names.names) c.as_slice-elements.ensures c.in_ok-names.ensures in
    let read = sym c.in-Some.is ∙ c.in_ok-columns.ensures ∙ ap columns_of c.as_slice-elements.ensures in
    let found = set_found c.in_ok-names.names c.args.text.now.elements c.in-Some-2.set are (subst (λ o. MatchOption o (are_own c.in_ok-names.names.columns c.in_ok-names.names.indexes c.in_ok-names.names.projections ≡ false) (λ names. (are_own c.in_ok-names.names.columns c.in_ok-names.names.indexes c.in_ok-names.names.projections ≡ true) × AreListed names c.in_ok-names.names.columns)) c.in-Some-2.is c.in_ok-set.ensures) in
    broken _ _ (from_keys c.in-Some.columns c.args.text.now) (fields_judged c.args.text.now) (begun c.args.text.now c.in-Some.columns read found.1)
    (ap (λ names. all_are_there names c.args.text.now) (sym found.0) ∙ sym c.has_all.ensures ∙ c.if-not-has_all.true)

pub judge_uses-requires-clause-names : goal.judge_uses-requires-clause-names
judge_uses-requires-clause-names c = subst (AreOfElements c.in_ok-names.names) c.as_slice-elements.ensures c.in_ok-names.ensures

pub judge_uses-requires-clause-named : goal.judge_uses-requires-clause-named
judge_uses-requires-clause-named c =
    let are = subst (AreOfElements c.in_ok-names.names) c.as_slice-elements.ensures c.in_ok-names.ensures in
    let found = set_found c.in_ok-names.names c.args.text.now.elements c.in-Some-2.set are (subst (λ o. MatchOption o (are_own c.in_ok-names.names.columns c.in_ok-names.names.indexes c.in_ok-names.names.projections ≡ false) (λ names. (are_own c.in_ok-names.names.columns c.in_ok-names.names.indexes c.in_ok-names.names.projections ≡ true) × AreListed names c.in_ok-names.names.columns)) c.in-Some-2.is c.in_ok-set.ensures) in
    found.0

pub judge_uses-requires-clause-same : goal.judge_uses-requires-clause-same
judge_uses-requires-clause-same c =
    let are = subst (AreOfElements c.in_ok-names.names) c.as_slice-elements.ensures c.in_ok-names.ensures in
    let read = sym c.in-Some.is ∙ c.in_ok-columns.ensures ∙ ap columns_of c.as_slice-elements.ensures in
    let found = set_found c.in_ok-names.names c.args.text.now.elements c.in-Some-2.set are (subst (λ o. MatchOption o (are_own c.in_ok-names.names.columns c.in_ok-names.names.indexes c.in_ok-names.names.projections ≡ false) (λ names. (are_own c.in_ok-names.names.columns c.in_ok-names.names.indexes c.in_ok-names.names.projections ≡ true) × AreListed names c.in_ok-names.names.columns)) c.in-Some-2.is c.in_ok-set.ensures) in
    found.0 ∙ read_names c.args.text.now.elements c.in-Some.columns read

pub judge_uses-requires-clause-so_far : goal.judge_uses-requires-clause-so_far
judge_uses-requires-clause-so_far c =
    let are = subst (AreOfElements c.in_ok-names.names) c.as_slice-elements.ensures c.in_ok-names.ensures in
    let read = sym c.in-Some.is ∙ c.in_ok-columns.ensures ∙ ap columns_of c.as_slice-elements.ensures in
    let found = set_found c.in_ok-names.names c.args.text.now.elements c.in-Some-2.set are (subst (λ o. MatchOption o (are_own c.in_ok-names.names.columns c.in_ok-names.names.indexes c.in_ok-names.names.projections ≡ false) (λ names. (are_own c.in_ok-names.names.columns c.in_ok-names.names.indexes c.in_ok-names.names.projections ≡ true) × AreListed names c.in_ok-names.names.columns)) c.in-Some-2.is c.in_ok-set.ensures) in
    kept _ _ (from_keys c.in-Some.columns c.args.text.now) (fields_judged c.args.text.now) (begun c.args.text.now c.in-Some.columns read found.1)
    (ap (λ names. all_are_there names c.args.text.now) (sym found.0) ∙ sym c.has_all.ensures ∙ c.if-not-has_all.false)
