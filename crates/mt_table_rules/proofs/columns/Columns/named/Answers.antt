use Rattle.std.proofs.Common.{◌∙◌, ap}
use Rattle.std.specs.Prelude.{slice_get}
use Rattle.mt_table_names.specs.Sentence.{place_in}
use Rattle.mt_table_rules.proofs.ColumnLemmas.{got, named_is}
use Rattle.mt_table_rules.proofs.columns.Columns.named.Goals as goal

pub returns : goal.returns
returns c =
    got c.args.self.now.columns.now c.place.result c.get.result c.get.ensures.lookup
    ∙ ap (slice_get c.args.self.now.columns.now) (c.place.ensures ∙ ap (λ names. place_in names c.args.name.now) c.args.self.now.same)
    ∙ named_is c.args.self.now.columns.now c.args.name.now
