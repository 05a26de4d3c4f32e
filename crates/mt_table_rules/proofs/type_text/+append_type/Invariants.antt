use Rattle.std.proofs.Common.{◌≡◌, ◌++◌, take}
use Rattle.std.specs.List.{flat_map}
use Rattle.mt_table_rules.specs.TypeTexts.{arg_text, behind_comma}
use Rattle.mt_table_rules.proofs.type_text.+append_type.Given as goal

abbrev pub invariant-append_type-loop-arg : goal.invariant-append_type-loop-arg
invariant-append_type-loop-arg l = l.out ≡ l.initial.out ++ flat_map (λ arg. behind_comma (arg_text arg)) (take l.arg-index l.others)
