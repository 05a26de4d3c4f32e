use Rattle.std.proofs.Common.{◌≡◌, ℕ, List, subst}
use Rattle.std.specs.Prelude.{OnOk}
use Rattle.mt_plain.proofs.TextLemmas.{line_appended}
use Rattle.mt_plain.proofs.texts.append_line.Goals as goal

pub returns : goal.returns
returns c =
    let P : List ℕ → Type 0 = λ bytes. OnOk c.append-3.result (c.append-3.new.self ≡ bytes) in
    subst P (line_appended c.args.name.now c.args.text.now _ _ c.in_ok-append.ensures.ok c.in_ok-append-2.ensures.ok) c.append-3.ensures.ok
