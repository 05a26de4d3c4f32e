use Rattle.mt_table.specs.Stored.{projection_at}
use Rattle.mt_show.proofs.SizeLemmas.{size_is}
use Rattle.mt_show.proofs.shape.projection_size.Goals as goal

pub returns-in_ok-stored_size-in-Some : goal.returns-in_ok-stored_size-in-Some
returns-in_ok-stored_size-in-Some c =
    size_is c.args.table.now (projection_at c.args.table.now c.args.place) c.in_ok-stored_size-in-Some.field-0 c.args.files.now c.in-Some.files c.as_slice.result.now c.in-Some.is c.as_slice.ensures c.in_ok-stored_size-in-Some.ensures
