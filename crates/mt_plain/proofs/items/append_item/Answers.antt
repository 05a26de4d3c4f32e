use Rattle.std.proofs.Common.{rules, ◌≡◌, ℕ, List, ◌++◌, ap, sym, subst, ◌∙◌}
use Rattle.std.specs.Prelude.{OnOk}
use Rattle.mt_types.specs.declared.value.Value.TheVariants.{Num}
use Rattle.mt_defs.proofs.NaturalLemmas.{cast_natural, fitting_is_number}
use Rattle.mt_plain.proofs.NumberLemmas.{number_fits, number_item}
use Rattle.mt_plain.proofs.items.append_item.Goals as goal

pub overflow_cast-number : goal.overflow_cast-number
overflow_cast-number c =
    let n = number_fits c.args.value.now c.in-Num.number c.in-Num.is c.requires in
    rw (cast_natural c.in-Num.number n.natural n.is n.small) (search rules)

pub unreachable-requires : goal.unreachable-requires
unreachable-requires c =
    let n = fitting_is_number c.args.value.now c.requires in
    c.in_default.not-Num n.0 n.1

pub returns : goal.returns
returns c =
    let n = number_fits c.args.value.now c.in-Num.number c.in-Num.is c.requires in
    let item = number_item c.args.value.now n.natural (c.in-Num.is ∙ ap Num n.is) in
    let P : List ℕ → Type 0 = λ bytes. OnOk c.append_u64.result (c.append_u64.new.out ≡ c.args.out.now ++ bytes) in
    subst P (sym item) (rw (cast_natural c.in-Num.number n.natural n.is n.small) at c.append_u64.ensures)
