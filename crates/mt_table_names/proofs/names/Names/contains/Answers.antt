use Rattle.std.proofs.Common.{◌∙◌, sym}
use Rattle.std.specs.Str.{bytes_eq}
use Rattle.mt_facts.proofs.Lists.{any_map}
use Rattle.mt_table_names.proofs.names.Names.contains.Goals as goal

pub returns : goal.returns
returns c = c.contains.ensures ∙ sym (any_map (bytes_eq c.args.name.now) (λ k. k.now) c.args.self.now.set.keys)
