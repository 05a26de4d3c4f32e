use Rattle.std.specs.Str.{is_utf8}
use Rattle.std.proofs.lemmas.Str.{IsUtf8-from_is_utf8}
use Rattle.mt_shelf.specs.Paths.{is_relative}
use Rattle.mt_shelf.proofs.Puts.{first_true}
use Rattle.mt_files.proofs.named_files.path_of.Goals as goal

pub unreachable-requires : goal.unreachable-requires
unreachable-requires c = c.in-Err.ensures.cases.0 (IsUtf8-from_is_utf8 c.args.name.now (first_true (is_utf8 c.args.name.now) (is_relative c.args.name.now) c.requires))
