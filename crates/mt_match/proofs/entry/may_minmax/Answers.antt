use Rattle.std.proofs.Common.{sym, subst}
use Rattle.std.specs.Prelude.{Some, None}
use Rattle.std.specs.Option.{option_map}
use Rattle.mt_skip.specs.Items.{ReadsItems}
use Rattle.mt_match.proofs.EntryLemmas.{no_two}
use Rattle.mt_match.proofs.entry.may_minmax.Goals as goal

pub returns-in-Some : goal.returns-in-Some
returns-in-Some c =
    let ty = c.args.ty.now in
    let entry = c.args.entry.now in
    let read : ReadsItems ty 2 entry (Some c.in-Some.values.items) = subst (λ r. ReadsItems ty 2 entry (option_map (λ some. some.items) r)) c.in-Some.is c.in_ok-values.ensures in
    c.may_two.ensures ty entry (subst (λ l. ReadsItems ty 2 entry (Some l)) (sym c.as_slice.ensures.value) read)

pub returns-in-None : goal.returns-in-None
returns-in-None c =
    let read : ReadsItems c.args.ty.now 2 c.args.entry.now None = subst (λ r. ReadsItems c.args.ty.now 2 c.args.entry.now (option_map (λ some. some.items) r)) c.in-None.is c.in_ok-values.ensures in
    no_two c.args.cond.now c.args.column c.args.ty.now c.args.entry.now read
