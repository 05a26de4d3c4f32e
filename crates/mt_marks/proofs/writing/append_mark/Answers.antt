use Rattle.std.proofs.Common.{append_assoc}
use Rattle.mt_defs.specs.Marks.{u64_bytes}
use Rattle.mt_marks.proofs.writing.append_mark.Goals as goal

pub returns : goal.returns
returns c =
    rw (c.in_ok-append-2.ensures.ok, c.in_ok-append.ensures.ok, c.to_le_bytes.ensures, c.to_le_bytes-2.ensures)
    (append_assoc c.args.out.now (u64_bytes c.args.mark.now.offset) (u64_bytes c.args.mark.now.inner))
