use Rattle.std.proofs.Common.{◌≡◌, ℕ, List, subst}
use Rattle.std.specs.Prelude.{OnOk}
use Rattle.std.specs.Int.{w64, to_le_bytes}
use Rattle.mt_plain.proofs.ColumnLemmas.{three_appends}
use Rattle.mt_plain.proofs.columns.append_entry.Goals as goal

pub returns : goal.returns
returns c =
    let P : List ℕ → Type 0 = λ bytes. OnOk c.append_u64-3.result (c.append_u64-3.new.out ≡ bytes) in
    subst P (three_appends c.args.out.now (to_le_bytes w64 c.args.offset) (to_le_bytes w64 0) (to_le_bytes w64 c.args.rows) _ _ c.in_ok-append_u64.ensures c.in_ok-append_u64-2.ensures) c.append_u64-3.ensures
