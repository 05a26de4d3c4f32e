use Rattle.std.proofs.Common.{List, Bor, ℕ, ap, sym}
use Rattle.mt_codec.specs.Results.{bytes_of}
use Rattle.mt_codec.specs.Cursor.{others}
use Rattle.mt_codec.proofs.CursorLemmas.{after_apart, after_some, after_bytes, no_more}
use Rattle.mt_codec.proofs.streams.Streams.after.Goals as goal

pub returns-then-not-is_empty : goal.returns-then-not-is_empty
returns-then-not-is_empty c = after_some c.args.self c.in-Apart.streams c.args.stream c.args.count c.args.rest.now c.in-Apart.is (sym c.if-not-is_empty.ensures)

pub returns-in-Some : goal.returns-in-Some
returns-in-Some c = after_apart c.args.self c.in-Apart.streams c.args.stream c.args.count c.args.rest.now (bytes_of c.in-Some.others.now) c.in-Apart.is (sym c.if-not-is_empty.ensures) (ap (λ (s : List (Bor (List ℕ))). others (bytes_of s)) c.in-Some.ensures.cases.0)

pub returns-in-None : goal.returns-in-None
returns-in-None c = no_more c.args.self c.in-Apart.streams c.args.stream c.args.count c.args.rest.now c.in-Apart.is (sym c.if-not-is_empty.ensures) c.in-None.ensures.cases

pub returns-in-Joined : goal.returns-in-Joined
returns-in-Joined c = after_bytes c.args.self c.in-Joined.field-0 c.args.stream c.args.count c.args.rest.now c.in-Joined.is
