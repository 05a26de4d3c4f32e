use Rattle.std.proofs.Common.{◌≡◌, refl, sym, ◌∙◌, ap, Bool, true, false, ◌&&◌, List, ℕ}
use Rattle.std.specs.Str.{is_utf8, IsUtf8}
use Rattle.std.proofs.lemmas.Str.{is_utf8-from_IsUtf8, IsUtf8-from_is_utf8}
use Rattle.mt_shelf.specs.Paths.{is_relative}
use Rattle.mt_shelf.proofs.paths.is_file_name.Goals as goal

no_text : (name : List ℕ) → (IsUtf8 name → ⊥) → (x : Bool) → false ≡ (is_utf8 name && x)
no_text name none x = by_test (is_utf8 name) refl
  where
    by_test : (b : Bool) → is_utf8 name ≡ b → false ≡ (b && x)
    by_test true is = absurd (none (IsUtf8-from_is_utf8 name is))
    by_test false is = refl

pub returns-in-Ok : goal.returns-in-Ok
returns-in-Ok c = c.is_relative.ensures ∙ ap (λ (b : Bool). b && is_relative c.args.name.now) (sym (is_utf8-from_IsUtf8 c.args.name.now c.in-Ok.ensures.cases.1))

pub returns-in-Err : goal.returns-in-Err
returns-in-Err c = no_text c.args.name.now c.in-Err.ensures.cases.0 (is_relative c.args.name.now)
