use Rattle.std.proofs.Common.{◌++◌, ◌∙◌, ap, refl, sym}
use Rattle.std.proofs.lemmas.List.{take_all}
use Rattle.std.specs.List.{flat_map}
use Rattle.mt_table_rules.specs.TypeTexts.{arg_text, behind_comma}
use Rattle.mt_table_rules.proofs.TypeTextLemmas.{first_and_others, parts_are}
use Rattle.mt_table_rules.proofs.type_text.+append_type.Goals as goal

pub append_type-returns-in_ok-append-4 : goal.append_type-returns-in_ok-append-4
append_type-returns-in_ok-append-4 t c =
    let args = first_and_others c.as_slice-2.result.now _ c.first-item.result _ c.in-len1-up.len_at_least c.first-item.is refl in
    parts_are c.args.out.now c.append.new.self _ _ _ c.append-in-len1-up-2.new.self c.args.text.now c.first-item.result _ (sym c.as_slice-2.ensures ∙ args)
    (c.in_ok-append.ensures.ok ∙ ap (λ word. c.args.out.now ++ word) c.as_slice.ensures) c.in_ok-append-2.ensures.ok c.in_ok-append_arg.ensures
    (c.loop-arg.invariant ∙ ap (λ args. c.append_arg.new.out ++ flat_map (λ arg. behind_comma (arg_text arg)) args) (take_all c.loop-arg.arg-index _ c.loop-arg-test.false))
    c.in_ok-append-4.ensures.ok
