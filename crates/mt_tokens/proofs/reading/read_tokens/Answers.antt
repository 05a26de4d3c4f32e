use Rattle.std.proofs.Common.{◌≡◌, ◌∷◌, ◌++◌, [], sym, ◌∙◌}
use Rattle.std.proofs.lemmas.Bool.{eqb-true, eqb-false}
use Rattle.std.proofs.lemmas.List.{map_push, nil_from_length}
use Rattle.mt_tokens.specs.Tokens.{as_read, plains}
use Rattle.mt_tokens.proofs.TokenRuns.{reads_more, reads_end, reads_only, reads_stuck, shorter}
use Rattle.mt_tokens.proofs.reading.read_tokens.Goals as goal

pub returns-in_default-clause-only : goal.returns-in_default-clause-only
returns-in_default-clause-only c = λ tokens h. reads_stuck c.args.text.now c.tokens.rest.now (plains c.tokens.tokens) tokens (eqb-false _ _ (sym c.is_empty.ensures ∙ c.tokens-test.true)) (sym c.in_default.ensures) c.tokens.invariant h

pub tokens-smaller : goal.tokens-smaller
tokens-smaller c = rw c.skip_blanks-rest-in-tokens.ensures (shorter c.tokens.rest.now (as_read c.in-Some.token) c.in-Some.after.now (sym c.in-Some.ensures))

pub tokens-preserved : goal.tokens-preserved
tokens-preserved c =
    let e : plains c.push.new.self ≡ plains c.tokens.tokens ++ as_read c.in-Some.token ∷ [] = rw c.in_ok-push.ensures.ok (map_push _ c.tokens.tokens c.in-Some.token) in
    rw (e, c.skip_blanks-rest-in-tokens.ensures) (reads_more c.args.text.now c.tokens.rest.now (plains c.tokens.tokens) (as_read c.in-Some.token) c.in-Some.after.now (sym c.in-Some.ensures) c.tokens.invariant)

pub returns-clause-found : goal.returns-clause-found
returns-clause-found c =
    let empty = nil_from_length c.tokens.rest.now (eqb-true _ _ (sym c.is_empty.ensures ∙ c.tokens-test.false)) in
    reads_end c.args.text.now (plains c.tokens.tokens) (rw empty at c.tokens.invariant)

pub returns-clause-only : goal.returns-clause-only
returns-clause-only c = λ tokens h.
    let empty = nil_from_length c.tokens.rest.now (eqb-true _ _ (sym c.is_empty.ensures ∙ c.tokens-test.false)) in
    reads_only c.args.text.now (plains c.tokens.tokens) tokens (rw empty at c.tokens.invariant) h
