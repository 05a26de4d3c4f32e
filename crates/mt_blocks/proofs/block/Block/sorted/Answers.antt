use Rattle.std.proofs.Common.{◌≡◌, List, ◌∙◌, subst}
use Rattle.std.proofs.lemmas.Result.{IfOk-weaker}
use Rattle.mt_defs.specs.Rows.{Row}
use Rattle.mt_defs.specs.Sorting.{sorted_rows}
use Rattle.mt_blocks.specs.Rows.{IsKeyOrder, rows_at}
use Rattle.mt_blocks.proofs.block.Block.sorted.Goals as goal

pub returns-in-None : goal.returns-in-None
returns-in-None c =
    subst (λ (rows : List Row). rows ≡ sorted_rows c.args.sort.now rows) c.self.view_is (rw (c.as_slice.ensures.value, c.in-None.is) at c.in_ok-key_order.ensures)

pub returns-in-Some : goal.returns-in-Some
returns-in-Some c =
    let key = subst (λ (rows : List Row). IsKeyOrder c.args.sort.now rows c.in_ok-key_order.field-0) c.self.view_is (rw c.as_slice.ensures.value at c.in_ok-key_order.ensures) in
    let sorted : rows_at c.in-Some.order.items c.args.self ≡ sorted_rows c.args.sort.now c.args.self = (rw c.in-Some.is at key).1 in
    IfOk-weaker c.gather.result (λ rows. rows ≡ rows_at c.in-Some.order.items c.args.self) (λ rows. rows ≡ sorted_rows c.args.sort.now c.args.self) (λ rows is. is ∙ sorted) (rw c.as_slice-in-Some.ensures.value at c.gather.ensures)
