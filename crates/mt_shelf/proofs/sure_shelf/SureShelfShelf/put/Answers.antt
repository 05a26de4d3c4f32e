use Rattle.std.proofs.Common.{◌≡◌, rules, ◌∙◌, ap, sym, subst, refl, List, ◌++◌, ◌∷◌, [], is_ok, ℕ}
use Rattle.mt_shelf.specs.Paths.{joined_path}
use Rattle.mt_shelf.specs.Bytes.{AreBytes}
use Rattle.mt_shelf.specs.Held.{draft_in}
use Rattle.mt_shelf.proofs.ByteLemmas.{are_bytes, push_bytes}
use Rattle.mt_shelf.proofs.Puts.{draft_in-push, puts_either, is_put-joined_path}
use Rattle.mt_shelf.proofs.sure_shelf.SureShelfShelf.put.Goals as goal

pub invariant_of-self : goal.invariant_of-self
invariant_of-self c =
    let named : c.in-Ok.file.name ≡ joined_path c.args.self.now.target.items c.args.name.now = rw (← c.as_slice.ensures.value, ← c.as_bytes.ensures.value) c.in-Ok.ensures.name in
    record {
      some = search rules;
      paths = search rules;
      names = search rules;
      bytes = c.args.self.now.bytes;
      draft_bytes = push_bytes (is_ok c.push.result) c.args.self.now.draft.items c.push.new.self.items c.in-Ok.file c.push.ensures.items c.args.self.now.draft_bytes
          (subst AreBytes (sym c.in-Ok.ensures.bytes) (are_bytes c.args.bytes.now c.type_inv.bytes));
      puts = puts_either (is_ok c.push.result) c.args.self.now.target.items c.args.self.now.draft.items c.push.new.self.items c.in-Ok.file c.push.ensures.items c.args.self.now.puts
          (is_put-joined_path c.args.self.now.target.items c.args.name.now c.in-Ok.file named (c.args.self.now.target_path c.requires.begun) c.utf8.name c.requires.name);
      target_path = c.args.self.now.target_path;
    }

pub returns-clause-ok : goal.returns-clause-ok
returns-clause-ok c =
    let named : c.in-Ok.file.name ≡ joined_path c.args.self.now.target.items c.args.name.now = rw (← c.as_slice.ensures.value, ← c.as_bytes.ensures.value) c.in-Ok.ensures.name in
    let draft_is : draft_in c.args.self.now.target.items c.push.new.self.items ≡ draft_in c.args.self.now.target.items c.args.self.now.draft.items ++ (c.args.name.now, c.args.bytes.now) ∷ [] =
    ap (draft_in c.args.self.now.target.items) c.in_default-push.ensures.items
    ∙ draft_in-push c.args.self.now.target.items c.args.self.now.draft.items c.in-Ok.file c.args.name.now named
    ∙ ap (λ (b : List ℕ). draft_in c.args.self.now.target.items c.args.self.now.draft.items ++ (c.args.name.now, b) ∷ []) c.in-Ok.ensures.bytes in
    rw draft_is refl
