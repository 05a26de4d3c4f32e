use Rattle.std.proofs.Common.{◌++◌, ap, ◌∙◌}
use Rattle.mt_build.proofs.SkipLemmas.{mark_appended}
use Rattle.mt_build.proofs.skips.append_mark.Goals as goal

pub returns : goal.returns
returns c =
    mark_appended c.args.bytes.now c.append.new.self c.append-2.new.self c.append-3.new.self c.args.mark.now
    (c.in_ok-append.ensures.ok ∙ ap (λ l. c.args.bytes.now ++ l) c.to_le_bytes.ensures)
    (c.in_ok-append-2.ensures.ok ∙ ap (λ l. c.append.new.self ++ l) c.to_le_bytes-2.ensures)
    (c.in_ok-append-3.ensures.ok ∙ ap (λ l. c.append-2.new.self ++ l) c.to_le_bytes-3.ensures)
