use Rattle.std.proofs.Common.{pos, ap, sym, ◌∙◌}
use Rattle.mt_defs.specs.Partition.{month_of}
use Rattle.mt_item.proofs.NumberLemmas.{num_same}
use Rattle.mt_meta.proofs.Casts.{cast_day, day_of}
use Rattle.mt_meta.proofs.ItemFacts.{day_is}
use Rattle.mt_meta.proofs.PartitionLemmas.{month_at_is}
use Rattle.mt_meta.proofs.month.month_at.Goals as goal

pub overflow_cast-day : goal.overflow_cast-day
overflow_cast-day c =
    let day = day_is c.args.value.now c.requires in
    cast_day c.in-Num.day day.0 (num_same c.in-Num.day (pos day.0) (sym c.in-Num.is ∙ day.1)) day.2

pub unreachable-requires : goal.unreachable-requires
unreachable-requires c =
    let day = day_is c.args.value.now c.requires in
    c.in_default.not-Num (pos day.0) day.1

pub returns : goal.returns
returns c =
    let day = day_is c.args.value.now c.requires in
    c.month_of.ensures ∙ ap month_of (day_of c.in-Num.day day.0 (num_same c.in-Num.day (pos day.0) (sym c.in-Num.is ∙ day.1)) day.2) ∙ sym (month_at_is c.args.value.now day.0 day.1)
