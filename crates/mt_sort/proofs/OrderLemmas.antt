-- The order on rows is total.
use Rattle.std.proofs.Common.{ℕ, List}
use Rattle.std.specs.Cmp.{IsTotalOrder}
use Rattle.std.proofs.lemmas.Cmp.{on_total}
use Rattle.mt_types.specs.Ordered.{values_total}
use Rattle.mt_defs.specs.Rows.{key_of, key_cmp}

pub key_cmp_total : (sort : List ℕ) → IsTotalOrder (key_cmp sort)
key_cmp_total sort = on_total (key_of sort) values_total
