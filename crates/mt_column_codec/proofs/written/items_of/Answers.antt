use Rattle.std.proofs.Common.{◌≡◌, ◌-◌, List, ℕ, take, drop, ap, sym, subst, ◌∙◌}
use Rattle.std.specs.Prelude.{IfOk}
use Rattle.std.specs.List.{flat_map}
use Rattle.mt_types.specs.declared.value.Value.{Value}
use Rattle.mt_types.specs.Items.{item_bytes}
use Rattle.mt_cells.specs.Items.{items_in, kind_in}
use Rattle.mt_column_codec.proofs.WrittenLemmas.{cells_written, texts_written}
use Rattle.mt_column_codec.proofs.written.items_of.Goals as goal

pub returns-in-Cells : goal.returns-in-Cells
returns-in-Cells c =
    let ty = c.args.ty.now in
    let range = take (c.args.to - c.args.from) (drop c.args.from c.in-Cells.cells.values) in
    let written = cells_written ty c.in-Cells.cells.kind range c.requires.items (sym c.requires.kind ∙ ap kind_in c.in-Cells.is) in
    subst (λ (bs : List ℕ). IfOk c.of_bytes.result (λ bytes. bytes ≡ bs))
    (c.items.ensures.written ∙ written ∙ ap (λ (vs : List Value). flat_map (item_bytes ty) (take (c.args.to - c.args.from) (drop c.args.from vs))) (sym (ap items_in c.in-Cells.is)))
    c.of_bytes.ensures

pub returns-in-Texts : goal.returns-in-Texts
returns-in-Texts c =
    let ty = c.args.ty.now in
    let written = texts_written ty c.args.from (c.args.to - c.args.from) c.in-Texts.texts c.requires.items (sym c.requires.kind ∙ ap kind_in c.in-Texts.is) in
    subst (λ (bs : List ℕ). IfOk c.texts_of.result (λ bytes. bytes ≡ bs))
    (written ∙ ap (λ (vs : List Value). flat_map (item_bytes ty) (take (c.args.to - c.args.from) (drop c.args.from vs))) (sym (ap items_in c.in-Texts.is)))
    c.texts_of.ensures
