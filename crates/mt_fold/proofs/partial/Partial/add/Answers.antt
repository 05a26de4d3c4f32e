use Rattle.std.proofs.Common.{◌≡◌, ◌∙◌, sym, ap, [], ◌∷◌, ◌++◌, map, length, true}
use Rattle.std.proofs.lemmas.List.{length-map}
use Rattle.mt_defs.specs.Rows.{Row, key_of}
use Rattle.mt_look.specs.Seen.{row_by_index}
use Rattle.mt_fold.specs.Answer.{keeps, plain_item, plain_row}
use Rattle.mt_fold.proofs.GroupLemmas.{grouped_more, plain_more, all_more}
use Rattle.mt_fold.proofs.partial.Partial.add.Goals as goal

pub returns-in_ok-groups-clause-gathers : goal.returns-in_ok-groups-clause-gathers
returns-in_ok-groups-clause-gathers g c = λ R had.
    let row = row_by_index (g.L.Look.rows_of c.args.from.now) c.args.row in
    let q = c.args.query.now in
    let keep : keeps q.cond row ≡ true = sym c.keeps.ensures ∙ c.if-not-keeps.false in
    grouped_more c.args.self.rows c.args.self.groups.entries c.in_ok-groups.groups.entries q R row c.in_ok-key.key
    (sym c.is_grouped.ensures ∙ c.if-is_grouped.true) keep
    (c.in_ok-key.ensures ∙ ap (λ p. key_of p row) c.as_slice.ensures)
    c.in_ok-groups.ensures.unique (rw c.as_slice-then-is_grouped.ensures at c.in_ok-groups.ensures.added) had

pub returns-in_ok-push-clause-suits : goal.returns-in_ok-push-clause-suits
returns-in_ok-push-clause-suits g c =
    let row = row_by_index (g.L.Look.rows_of c.args.from.now) c.args.row in
    let q = c.args.query.now in
    let made : c.push.new.self ≡ c.args.self.rows ++ plain_row q row ∷ [] =
    c.in_ok-push.ensures.ok ∙ ap (λ r. c.args.self.rows ++ r ∷ []) (c.in_ok-plain_row.ensures ∙ ap (map (plain_item row)) c.as_slice-else-is_grouped.ensures) in
    rw made (all_more (λ (made_row : Row). length made_row ≡ length q.items) c.args.self.rows (plain_row q row) c.requires.suits (length-map q.items (plain_item row)))

pub returns-in_ok-push-clause-gathers : goal.returns-in_ok-push-clause-gathers
returns-in_ok-push-clause-gathers g c = λ R had.
    let row = row_by_index (g.L.Look.rows_of c.args.from.now) c.args.row in
    let q = c.args.query.now in
    let keep : keeps q.cond row ≡ true = sym c.keeps.ensures ∙ c.if-not-keeps.false in
    let made : c.push.new.self ≡ c.args.self.rows ++ plain_row q row ∷ [] =
    c.in_ok-push.ensures.ok ∙ ap (λ r. c.args.self.rows ++ r ∷ []) (c.in_ok-plain_row.ensures ∙ ap (map (plain_item row)) c.as_slice-else-is_grouped.ensures) in
    rw made (plain_more c.args.self.rows c.args.self.groups.entries q R row (sym c.is_grouped.ensures ∙ c.if-is_grouped.false) keep had)
