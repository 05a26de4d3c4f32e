use Rattle.std.proofs.Common.{◌∙◌, sym}
use Rattle.std.specs.Prelude.{not}
use Rattle.std.specs.Str.{bytes_eq}
use Rattle.mt_table_names.proofs.SetLemmas.{found_at, found_nowhere, len_map}
use Rattle.mt_table_names.proofs.names.Names.place.Goals as goal

pub returns-in-Some : goal.returns-in-Some
returns-in-Some c =
    found_at (λ k. bytes_eq c.args.name.now k.now) c.args.self.now.set.keys c.in-Some.place (sym c.in-Some.ensures.index)
    ∙ sym (len_map (λ n. not (bytes_eq c.args.name.now n)) (λ k. k.now) c.args.self.now.set.keys)

pub returns-in-None : goal.returns-in-None
returns-in-None c =
    c.len.ensures.len
    ∙ found_nowhere (λ k. bytes_eq c.args.name.now k.now) c.args.self.now.set.keys (sym c.in-None.ensures.index)
    ∙ sym (len_map (λ n. not (bytes_eq c.args.name.now n)) (λ k. k.now) c.args.self.now.set.keys)
