use Rattle.std.proofs.Common.{◌≡◌, ℕ, ◌++◌, ◌∷◌, [], true, List, take, ap, sym, ◌∙◌}
use Rattle.std.specs.Int.{w128, to_le_bytes}
use Rattle.std.proofs.lemmas.Result.{on_ok_weaker}
use Rattle.mt_types.specs.Fits.{fits_of}
use Rattle.mt_types.specs.declared.value.Value.{Value, out-Value}
use Rattle.mt_types.specs.declared.value.Value.TheVariants.{Huge, Text, outs-Huge}
use Rattle.mt_types.specs.Numbers.{bits_in}
use Rattle.mt_cells.specs.Kinds.{size_of, type_of, values_of}
use Rattle.mt_cells.specs.Seen.{value_seen}
use Rattle.mt_cells.proofs.CellLemmas.{one_item}
use Rattle.mt_cells.proofs.FitLemmas.{not_of_fixed, text_cell}
use Rattle.mt_cells.proofs.NumberLemmas.{is_numeric, number_cell, number_within}
use Rattle.mt_cells.proofs.cells.Cells.push.Goals as goal

pub unreachable-requires : goal.unreachable-requires
unreachable-requires c = not_of_fixed c.args.self.now.kind c.args.value c.in_default.not-Num c.in_default.not-Huge c.in_default.not-Text c.requires

pub push_bits-requires : goal.push_bits-requires
push_bits-requires c =
    let fits : fits_of (type_of c.args.self.now.kind) (Huge c.in-Huge.number) ≡ true = sym (ap (λ s. fits_of (type_of c.args.self.now.kind) (value_seen s)) c.in-Huge.is) ∙ c.requires in
    number_within c.args.self.now.kind (Huge c.in-Huge.number) (ap is_numeric (outs-Huge c.in-Huge.number)) fits

pub append_items-requires : goal.append_items-requires
append_items-requires c =
    let fits : fits_of (type_of c.args.self.now.kind) (Text c.in-Text.text.now) ≡ true = sym (ap (λ s. fits_of (type_of c.args.self.now.kind) (value_seen s)) c.in-Text.is) ∙ c.requires in
    (one_item c.args.self.now.kind (Text c.in-Text.text.now) c.in-Text.text.now (text_cell c.args.self.now.kind c.in-Text.text.now fits)).0

pub returns-in-Huge-clause-ok : goal.returns-in-Huge-clause-ok
returns-in-Huge-clause-ok c =
    let k = c.args.self.now.kind in
    let fits : fits_of (type_of k) (Huge c.in-Huge.number) ≡ true = sym (ap (λ s. fits_of (type_of k) (value_seen s)) c.in-Huge.is) ∙ c.requires in
    let item = number_cell k (Huge c.in-Huge.number) (ap is_numeric (outs-Huge c.in-Huge.number)) fits in
    let one = one_item k (Huge c.in-Huge.number) (take (size_of k) (to_le_bytes w128 (bits_in (out-Value (Huge c.in-Huge.number))))) item in
    on_ok_weaker c.push_bits.result (λ e. e ∙ ap (λ (n : ℕ). c.args.self.now.values ++ values_of k 1 (take (size_of k) (to_le_bytes w128 n))) (sym (ap bits_in (outs-Huge c.in-Huge.number)))
    ∙ ap (λ (vs : List Value). c.args.self.now.values ++ vs) (one.1 ∙ ap (λ s. value_seen s ∷ []) (sym c.in-Huge.is))) c.push_bits.ensures.ok

pub returns-in-Text-clause-ok : goal.returns-in-Text-clause-ok
returns-in-Text-clause-ok c =
    let k = c.args.self.now.kind in
    let fits : fits_of (type_of k) (Text c.in-Text.text.now) ≡ true = sym (ap (λ s. fits_of (type_of k) (value_seen s)) c.in-Text.is) ∙ c.requires in
    let one = one_item k (Text c.in-Text.text.now) c.in-Text.text.now (text_cell k c.in-Text.text.now fits) in
    on_ok_weaker c.append_items.result (λ e. e ∙ ap (λ (vs : List Value). c.args.self.now.values ++ vs) (one.1 ∙ ap (λ s. value_seen s ∷ []) (sym c.in-Text.is))) c.append_items.ensures.ok
