use Rattle.std.proofs.Common.{true, ℕ, ◌++◌, ◌∷◌, [], ap, sym, ◌∙◌}
use Rattle.std.proofs.lemmas.Result.{on_ok_weaker}
use Rattle.mt_types.specs.declared.value.Value.{Value}
use Rattle.mt_cells.specs.Items.{default_item, items_in, kind_in}
use Rattle.mt_columns.proofs.LeafLemmas.{null_has_byte, null_has_item, seen_byte, seen_fits, seen_item}
use Rattle.mt_columns.proofs.leaf.push_both.Goals as goal

pub push_item-requires : goal.push_item-requires
push_item-requires c = seen_fits true (kind_in c.args.items.now) c.args.value c.in_default.not-Null c.requires

pub returns-in-Null-clause-ok : goal.returns-in-Null-clause-ok
returns-in-Null-clause-ok c =
    rw c.in-Null.is (on_ok_weaker c.push_null.result (λ e. (
      e.0 ∙ ap (λ (n : ℕ). c.args.nulls.now.items ++ n ∷ []) (sym null_has_byte),
      e.1 ∙ ap (λ (v : Value). items_in c.args.items.now ++ v ∷ []) (sym (null_has_item (default_item (kind_in c.args.items.now)))),
    )) c.push_null.ensures.ok)

pub returns-in_default : goal.returns-in_default
returns-in_default c = record {
  kind = c.push_item.ensures.kind;
  ok = on_ok_weaker c.push_item.result (λ e. (
    e.0 ∙ ap (λ (n : ℕ). c.args.nulls.now.items ++ n ∷ []) (sym (seen_byte c.args.value c.in_default.not-Null)),
    e.1 ∙ ap (λ (v : Value). items_in c.args.items.now ++ v ∷ []) (sym (seen_item (default_item (kind_in c.args.items.now)) c.args.value c.in_default.not-Null)),
  )) c.push_item.ensures.ok;
  err = c.push_item.ensures.err;
}
