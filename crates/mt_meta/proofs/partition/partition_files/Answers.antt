use Rattle.std.proofs.Common.{◌≡◌, ◌∙◌, ◌<◌, [], ◌∷◌, ◌++◌, true, refl, ap, map, take, length}
use Rattle.std.specs.List.{flat_map}
use Rattle.std.proofs.lemmas.List.{take_all}
use Rattle.mt_defs.specs.Metadata.{column_at}
use Rattle.mt_defs.specs.Partition.{expression_column, partition_bytes, partition_name}
use Rattle.mt_defs.specs.WrittenColumns.{file}
use Rattle.mt_defs.specs.WrittenPartition.{minmax_file}
use Rattle.mt_meta.specs.Keys.{is_scalar}
use Rattle.mt_meta.proofs.PartitionLemmas.{distinct, at_index, first_row, key_columns_are, not_empty, one_more_file}
use Rattle.mt_meta.proofs.partition.partition_files.Goals as goal

pub minmax_file-requires-clause-known : goal.minmax_file-requires-clause-known
minmax_file-requires-clause-known c =
    let t = c.args.table.now in
    let are = key_columns_are t.columns t.partition c.requires.key in
    let same = c.as_slice-column_index-items.ensures ∙ c.in_ok-columns.ensures ∙ ap (λ es. distinct (map expression_column es)) c.as_slice.ensures in
    at_index (λ i. i < length t.columns) (distinct (map expression_column t.partition)) c.as_slice-column_index-items.result.now c.loop-column_index.column_index-index 0 same are.known c.loop-column_index-test.true

pub minmax_file-requires-clause-scalar : goal.minmax_file-requires-clause-scalar
minmax_file-requires-clause-scalar c =
    let t = c.args.table.now in
    let are = key_columns_are t.columns t.partition c.requires.key in
    let same = c.as_slice-column_index-items.ensures ∙ c.in_ok-columns.ensures ∙ ap (λ es. distinct (map expression_column es)) c.as_slice.ensures in
    at_index (λ i. is_scalar (column_at t.columns i).ty ≡ true) (distinct (map expression_column t.partition)) c.as_slice-column_index-items.result.now c.loop-column_index.column_index-index 0 same are.scalar c.loop-column_index-test.true

pub loop-column_index-init : goal.loop-column_index-init
loop-column_index-init c =
    let t = c.args.table.now in
    let first = first_row (partition_bytes t) c.args.rows.now c.index-rows-0.result c.requires.some c.index-rows-0.is in
    c.in_ok-push.ensures.ok ∙ ap (λ l. l ++ c.in_ok-values_file.field-0 ∷ []) c.new-files.ensures ∙ ap (λ f. f ∷ []) (c.in_ok-values_file.ensures ∙ ap (file partition_name) first)

pub loop-column_index-preserved : goal.loop-column_index-preserved
loop-column_index-preserved c =
    let t = c.args.table.now in
    one_more_file (minmax_file t c.args.rows.now) (file partition_name (flat_map (partition_bytes t) (take 1 c.args.rows.now))) c.in_ok-minmax_file.field-0 c.loop-column_index.files c.push-in-loop-column_index.new.self
    c.as_slice-column_index-items.result.now c.loop-column_index.column_index-index 0 c.loop-column_index-test.true c.in_ok-push-2.ensures.ok c.in_ok-minmax_file.ensures c.loop-column_index.invariant

pub returns : goal.returns
returns c =
    let t = c.args.table.now in
    let some = not_empty t.partition c.is_empty.result c.if-is_empty.false c.is_empty.ensures.1 in
    let first = file partition_name (flat_map (partition_bytes t) (take 1 c.args.rows.now)) in
    let same = c.as_slice-column_index-items.ensures ∙ c.in_ok-columns.ensures ∙ ap (λ es. distinct (map expression_column es)) c.as_slice.ensures in
    let all = take_all c.loop-column_index.column_index-index c.as_slice-column_index-items.result.now c.loop-column_index-test.false in
    c.loop-column_index.invariant ∙ ap (λ l. first ∷ map (minmax_file t c.args.rows.now) l) (all ∙ same) ∙ rw some refl
