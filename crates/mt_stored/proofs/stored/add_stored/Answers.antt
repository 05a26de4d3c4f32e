use Rattle.std.proofs.Common.{◌≡◌, ◌∙◌, sym, ap, map, refl, true}
use Rattle.mt_defs.specs.Rows.{key_of}
use Rattle.mt_look.specs.Seen.{row_by_index}
use Rattle.mt_fold.specs.Answer.{keeps}
use Rattle.mt_stored.specs.Placed.{as_row}
use Rattle.mt_stored.proofs.StoredLemmas.{merges_in, row_shown}
use Rattle.mt_stored.proofs.stored.add_stored.Goals as goal

pub returns-clause-merges : goal.returns-clause-merges
returns-clause-merges g c = λ before stored merges.
    let query = c.args.query.now in
    let projection = c.args.projection.now in
    let keys = projection.keys.now in
    let rows = g.L.Look.rows_of c.args.from.now in
    let row = row_by_index rows c.args.row in
    let shown : row_by_index (map (as_row keys projection.width) rows) c.args.row ≡ as_row keys projection.width row = row_shown keys projection.width rows c.args.row c.requires.there in
    let keep : keeps query.cond (as_row keys projection.width row) ≡ true = sym (ap (keeps query.cond) shown) ∙ sym c.keeps.ensures ∙ c.if-not-keeps.false in
    merges_in keys projection.aggs.now projection.width query before c.args.partial record { rows = c.args.partial.rows; groups = c.in_ok-groups.groups } stored row c.in_ok-key.key keep
    (c.in_ok-key.ensures ∙ ap (λ columns. key_of columns (row_by_index (map (as_row keys projection.width) rows) c.args.row)) c.as_slice.ensures ∙ ap (key_of query.keys) shown)
    refl c.in_ok-groups.ensures.unique (rw c.as_slice-2.ensures at c.in_ok-groups.ensures.joined) merges
