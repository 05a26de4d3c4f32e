-- The order of files is total.
use Rattle.std.specs.Cmp.{IsTotalOrder}
use Rattle.std.proofs.lemmas.Cmp.{on_total, nat_list_cmp_total}
use Rattle.mt_defs.specs.Writer.{file_cmp}

pub file_cmp_total : IsTotalOrder file_cmp
file_cmp_total = on_total (λ file. file.name) nat_list_cmp_total
