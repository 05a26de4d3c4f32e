use Rattle.std.proofs.Common.{◌≡◌, ◌↔◌, ap, ◌∙◌, subst}
use Rattle.std.specs.Prelude.{IsTrue}
use Rattle.mt_defs.specs.Projections.{FoldsRows, stored_key}
use Rattle.mt_defs.specs.Rows.{key_of}
use Rattle.mt_sort.specs.References.{rows_in}
use Rattle.mt_proj.proofs.WalkLemmas.{sorted_in_order, stands_sorted}
use Rattle.mt_proj.proofs.grouped.stands_grouped.Goals as goal

pub runs_stand-requires-clause-in_order : goal.runs_stand-requires-clause-in_order
runs_stand-requires-clause-in_order c = sorted_in_order (key_of c.as_slice-columns.result.now) c.args.rows.now (rows_in c.as_slice.result.now) (ap rows_in c.as_slice.ensures.value ∙ c.in_ok-wanted.ensures)

pub runs_stand-requires-clause-stored_in_order : goal.runs_stand-requires-clause-stored_in_order
runs_stand-requires-clause-stored_in_order c =
    sorted_in_order (stored_key c.as_slice-columns.result.now) c.args.stored.now (rows_in c.as_slice-2.result.now) (ap rows_in c.as_slice-2.ensures.value ∙ c.in_ok-found.ensures)

pub returns : goal.returns
returns c =
    let columns_are : c.as_slice-columns.result.now ≡ c.args.keys.now = c.as_slice-columns.ensures.value ∙ c.in_ok-indexes.ensures in
    subst (λ keys. IsTrue c.runs_stand.result ↔ FoldsRows keys c.args.aggs.now c.args.rows.now c.args.stored.now) columns_are
    (stands_sorted c.as_slice-columns.result.now c.args.aggs.now c.args.rows.now c.args.stored.now (rows_in c.as_slice.result.now) (rows_in c.as_slice-2.result.now) c.runs_stand.result
    (ap rows_in c.as_slice.ensures.value ∙ c.in_ok-wanted.ensures) (ap rows_in c.as_slice-2.ensures.value ∙ c.in_ok-found.ensures) c.runs_stand.ensures)
