use Rattle.std.proofs.Common.{◌≡◌, ◌∙◌, ◌++◌, List, ℕ, ap}
use Rattle.std.specs.List.{flat_map}
use Rattle.mt_defs.specs.Partition.{expression_bytes, partition_name}
use Rattle.mt_defs.specs.WrittenColumns.{file}
use Rattle.mt_meta.proofs.partition.values_file.Goals as goal

pub returns : goal.returns
returns c =
    let t = c.args.table.now in
    let row = c.args.row.now in
    let key = c.as_slice-2.ensures in
    let from = ap (λ columns. flat_map (expression_bytes columns row) c.as_slice-2.result.now) c.as_slice.ensures in
    let over = ap (λ partition. flat_map (expression_bytes t.columns row) partition) key in
    let bytes = c.in_ok-append_values.ensures ∙ ap (λ old. old ++ flat_map (expression_bytes c.as_slice.result.now row) c.as_slice-2.result.now) c.new-bytes.ensures ∙ from ∙ over in
    ap (λ (n : List ℕ). file n c.append_values.new.out) c.in_ok-of_bytes.ensures ∙ ap (file partition_name) bytes
