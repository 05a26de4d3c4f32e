use Rattle.std.proofs.Common.{◌≡◌, ◌∙◌, length, map}
use Rattle.std.proofs.lemmas.Result.{IfOk-weaker}
use Rattle.mt_defs.specs.WrittenSkips.{written_entry, written_entries}
use Rattle.mt_skip.specs.Groups.{value_groups}
use Rattle.mt_skip.proofs.GroupLemmas.{entries_written}
use Rattle.mt_skip.proofs.groups.entries.Goals as goal

pub returns-clause-entries : goal.returns-clause-entries
returns-clause-entries c table rows ty_is values_are =
    let skip = c.args.skip.now in
    let granules = c.args.granules.now in
    IfOk-weaker c.group_entries.result (λ made. made ≡ map (written_entry skip.kind c.args.ty.now) (value_groups skip.granularity (length granules) granules c.args.values.now)) (λ made. made ≡ written_entries table skip rows granules)
    (λ made is. is ∙ entries_written table skip c.args.ty.now c.args.values.now granules rows ty_is values_are) c.group_entries.ensures
