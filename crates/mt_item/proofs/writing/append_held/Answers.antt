use Rattle.std.proofs.Common.{◌≡◌, ap, ◌∙◌, subst, rules}
use Rattle.std.specs.Prelude.{OnOk}
use Rattle.std.specs.Int.{w128, cast_unsigned}
use Rattle.std.specs.Int.RustNames.{FitsSigned}
use Rattle.std.proofs.lemmas.Int.{to_z-of_z}
use Rattle.mt_item.proofs.StateLemmas.{held_number}
use Rattle.mt_item.proofs.writing.append_held.Goals as goal

pub returns : goal.returns
returns c =
    let fits : FitsSigned w128 c.in-Some.number = search rules in
    let bits : c.cast_unsigned.result ≡ cast_unsigned w128 c.in-Some.number = c.cast_unsigned.ensures ∙ ap (cast_unsigned w128) (to_z-of_z w128 c.in-Some.number fits) in
    let bytes = held_number c.args.ty.now c.args.number c.in-Some.number c.number_size.result c.cast_unsigned.result c.args.out.now c.append-2.new.self
    c.requires.argument c.requires.fits c.in-Some.is c.number_size.ensures bits c.in_ok-append.ensures.ok in
    subst (λ bs. OnOk c.append_number.result (c.append_number.new.out ≡ bs)) bytes c.append_number.ensures
