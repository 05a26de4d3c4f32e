use Rattle.std.proofs.Common.{◌≡◌, ◌++◌, ◌∙◌, ap, subst}
use Rattle.std.specs.Prelude.{IfOk}
use Rattle.mt_types.specs.NameReading.{type_named}
use Rattle.mt_table_rules.specs.TypeTexts.{column_type_if, type_text}
use Rattle.mt_table_rules.proofs.type_text.column_type.Goals as goal

pub returns : goal.returns
returns c =
    let name = c.as_slice.ensures ∙ c.in_ok-append_type.ensures ∙ ap (λ text. text ++ type_text c.args.text.now) c.new-name.ensures in
    subst (λ text. IfOk c.type_of.result (λ found. found ≡ column_type_if (type_named text))) name c.type_of.ensures
