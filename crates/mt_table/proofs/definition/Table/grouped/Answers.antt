use Rattle.std.proofs.Common.{◌≡◌, arith, true, sym, subst}
use Rattle.std.specs.List.{list_all}
use Rattle.mt_table.specs.Kept.{is_place}
use Rattle.mt_table.proofs.StoredLemmas.{aggregate_kept, grouped_key, key_within}
use Rattle.mt_table.proofs.definition.Table.grouped.Goals as goal

pub copy_columns-requires : goal.copy_columns-requires
copy_columns-requires c =
    let keys = c.args.keys.now in
    let key = grouped_key c.args.self.now.columns keys c.args.aggregates.now c.requires.kept in
    record { there = subst (λ columns. list_all (is_place columns) keys ≡ true) (sym c.as_slice.ensures) (key_within c.args.self.now.columns keys key) }

pub state_column-requires : goal.state_column-requires
state_column-requires c =
    record { kept = aggregate_kept c.args.self.now.columns c.args.keys.now c.args.aggregates.now c.loop-aggregate.aggregate-index c.requires.kept (omega (arith, c.loop-aggregate-test.true)) }
