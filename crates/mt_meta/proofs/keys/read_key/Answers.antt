use Rattle.std.proofs.Common.{get_or, drop, ap, ◌+◌, ◌∷◌, ◌∙◌}
use Rattle.mt_table.specs.declared.column.Column.{Column}
use Rattle.mt_meta.specs.KeyReading.{types_of_key}
use Rattle.mt_meta.proofs.KeyReadingLemmas.{key_more, key_end, next_type, dropped}
use Rattle.mt_meta.proofs.keys.read_key.Goals as goal

pub loop-column_index-preserved : goal.loop-column_index-preserved
loop-column_index-preserved c =
    let i = c.loop-column_index.column_index-index in
    let column = c.index-columns-column_index.result in
    let left = next_type c.args.columns.now c.args.keys.now i column c.loop-column_index-test.true (c.requires.known i 0 c.loop-column_index-test.true) c.index-columns-column_index.is in
    let at = get_or c.args.columns.now (get_or c.args.keys.now i 0) column in
    let here = left ∙ ap (λ (x : Column). x.ty ∷ types_of_key c.args.columns.now (drop (i + 1) c.args.keys.now)) c.index-columns-column_index.is in
    let first = rw c.in-Some.is at c.in_ok-value.ensures in
    rw c.in_ok-push.ensures.ok (key_more (types_of_key c.args.columns.now c.args.keys.now) c.args.bytes.now at.ty (types_of_key c.args.columns.now (drop (i + 1) c.args.keys.now))
    (types_of_key c.args.columns.now (drop i c.args.keys.now)) c.loop-column_index.key c.in-Some.value c.loop-column_index.rest.now c.in-Some.after.now here first c.loop-column_index.invariant)

pub returns : goal.returns
returns c =
    key_end (types_of_key c.args.columns.now c.args.keys.now) c.args.bytes.now (types_of_key c.args.columns.now (drop c.loop-column_index.column_index-index c.args.keys.now)) c.loop-column_index.key c.loop-column_index.rest.now
    (ap (types_of_key c.args.columns.now) (dropped c.args.keys.now c.loop-column_index.column_index-index c.loop-column_index-test.false)) c.loop-column_index.invariant
