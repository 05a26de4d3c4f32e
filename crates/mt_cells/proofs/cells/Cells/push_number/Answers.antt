use Rattle.std.proofs.Common.{◌≡◌, ℕ, ◌++◌, List, take, ap, sym, ◌∙◌}
use Rattle.std.specs.Int.{w128, to_le_bytes}
use Rattle.std.specs.Int.RustNames.{FitsSigned}
use Rattle.std.proofs.lemmas.Int.{to_z-of_z}
use Rattle.std.proofs.lemmas.Result.{on_ok_weaker}
use Rattle.mt_types.specs.declared.value.Value.{Value, out-Value}
use Rattle.mt_types.specs.declared.value.Value.TheVariants.{Num, outs-Num}
use Rattle.mt_types.specs.Numbers.{bits_in}
use Rattle.mt_cells.specs.Kinds.{size_of, values_of}
use Rattle.mt_cells.proofs.CellLemmas.{one_item}
use Rattle.mt_cells.proofs.NumberLemmas.{is_numeric, number_cell, number_within}
use Rattle.mt_cells.proofs.cells.Cells.push_number.Goals as goal

pub push_bits-requires : goal.push_bits-requires
push_bits-requires c = number_within c.args.self.now.kind (Num c.args.number) (ap is_numeric (outs-Num c.args.number)) c.requires

pub returns-clause-ok : goal.returns-clause-ok
returns-clause-ok c =
    let fits : FitsSigned w128 c.args.number = c.ranges.number in
    let k = c.args.self.now.kind in
    let is : c.cast_unsigned.result ≡ bits_in (out-Value (Num c.args.number)) = (simp to_z-of_z at c.cast_unsigned.ensures) ∙ sym (ap bits_in (outs-Num c.args.number)) in
    let item = number_cell k (Num c.args.number) (ap is_numeric (outs-Num c.args.number)) c.requires in
    let one = one_item k (Num c.args.number) (take (size_of k) (to_le_bytes w128 (bits_in (out-Value (Num c.args.number))))) item in
    on_ok_weaker c.push_bits.result (λ e. e ∙ ap (λ (n : ℕ). c.args.self.now.values ++ values_of k 1 (take (size_of k) (to_le_bytes w128 n))) is
    ∙ ap (λ (vs : List Value). c.args.self.now.values ++ vs) one.1) c.push_bits.ensures.ok
