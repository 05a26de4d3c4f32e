use Rattle.std.proofs.Common.{◌+◌, ◌∷◌, drop, ap, sym, ◌∙◌, subst}
use Rattle.std.proofs.lemmas.List.{drop_more, drop_all}
use Rattle.mt_defs.specs.Rows.{RowFits}
use Rattle.mt_writing.specs.Partitions.{other_line}
use Rattle.mt_writing.proofs.PartitionLemmas.{other_next, other_here, other_end}
use Rattle.mt_writing.proofs.partition.other_line.Goals as goal

pub same_partition-requires-clause-second : goal.same_partition-requires-clause-second
same_partition-requires-clause-second c =
    let at = c.index-rows-i in
    subst (RowFits c.args.table.now.columns) (sym at.is) (c.requires.fit c.loop-i.i at.result c.loop-i-test.true)

pub returns-then-not-same_partition : goal.returns-then-not-same_partition
returns-then-not-same_partition c =
    let t = c.args.table.now in
    let rows = c.args.rows.now in
    let i = c.loop-i.i in
    let row = c.index-rows-i.result in
    let rest = drop_more rows i row c.loop-i-test.true ∙ ap (λ r. r ∷ drop (i + 1) rows) (sym c.index-rows-i.is) in
    other_here t c.args.first.now row (i + 1) (drop i rows) (drop (i + 1) rows) (other_line t c.args.first.now 1 rows) c.same_partition.result rest c.if-not-same_partition.true c.same_partition.ensures c.loop-i.invariant

pub loop-i-preserved : goal.loop-i-preserved
loop-i-preserved c =
    let t = c.args.table.now in
    let rows = c.args.rows.now in
    let i = c.loop-i.i in
    let row = c.index-rows-i.result in
    let rest = drop_more rows i row c.loop-i-test.true ∙ ap (λ r. r ∷ drop (i + 1) rows) (sym c.index-rows-i.is) in
    other_next t c.args.first.now row (i + 1) (drop i rows) (drop (i + 1) rows) (other_line t c.args.first.now 1 rows) c.same_partition.result rest c.if-not-same_partition.false c.same_partition.ensures c.loop-i.invariant

pub returns : goal.returns
returns c =
    let rows = c.args.rows.now in
    let i = c.loop-i.i in
    other_end c.args.table.now c.args.first.now (i + 1) (drop i rows) (other_line c.args.table.now c.args.first.now 1 rows) (drop_all i rows c.loop-i-test.false) c.loop-i.invariant
