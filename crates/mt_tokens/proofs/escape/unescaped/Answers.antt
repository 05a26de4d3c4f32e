use Rattle.std.proofs.Common.{sym, ◌∙◌}
use Rattle.mt_tokens.specs.Texts.{unescaped}
use Rattle.mt_tokens.proofs.TextLemmas.{unescaped_ends, unescaped_is_cut, unescaped_goes_on}
use Rattle.mt_tokens.proofs.escape.unescaped.Goals as goal

pub returns-in_default : goal.returns-in_default
returns-in_default c = rw (c.in_ok-append.ensures.ok, c.split_run.ensures.run) (unescaped_ends c.runs.bytes c.runs.rest.now (unescaped c.args.text.now) c.runs.invariant (sym c.split_run.ensures.rest ∙ c.in_default.ensures))

pub returns-in_default-split_byte : goal.returns-in_default-split_byte
returns-in_default-split_byte c = rw (c.in_ok-append.ensures.ok, c.split_run.ensures.run) (unescaped_is_cut c.runs.bytes c.runs.rest.now (unescaped c.args.text.now) c.runs.invariant c.in-Some.field-0-0 c.in-Some.after.now (sym c.split_run.ensures.rest ∙ c.in-Some.ensures) c.in_default-split_byte.ensures)

pub runs-preserved : goal.runs-preserved
runs-preserved c = rw (c.in_ok-push.ensures.ok, c.in_ok-append.ensures.ok, c.split_run.ensures.run, c.byte_of.ensures) (unescaped_goes_on c.runs.bytes c.runs.rest.now (unescaped c.args.text.now) c.runs.invariant c.in-Some.field-0-0 c.in-Some.after.now (sym c.split_run.ensures.rest ∙ c.in-Some.ensures) c.in-Some-split_byte.letter c.in-Some-split_byte.after.now c.in-Some-split_byte.ensures)
