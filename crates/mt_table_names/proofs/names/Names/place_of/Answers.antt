use Rattle.std.proofs.Common.{◌≤◌, arith, subst, sym, length}
use Rattle.mt_table_names.specs.NameSets.{listed}
use Rattle.mt_table_names.proofs.PartLemmas.{place_within}
use Rattle.mt_table_names.proofs.names.Names.place_of.Goals as goal

pub overflow_cast-result : goal.overflow_cast-result
overflow_cast-result c =
    let within : c.place.result ≤ length (listed c.args.self.now) = subst (λ n. n ≤ length (listed c.args.self.now)) (sym c.place.ensures) (place_within (listed c.args.self.now) c.args.name.now) in
    let few = c.requires in
    omega (arith, within, few)
