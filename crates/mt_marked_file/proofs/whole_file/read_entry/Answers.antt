use Rattle.std.proofs.Common.{◌≡◌, ◌∙◌, sym, subst, true}
use Rattle.std.specs.Str.{is_utf8}
use Rattle.mt_shelf.specs.Paths.{is_path, is_relative}
use Rattle.mt_marked_file.proofs.TakenLemmas.{reads_none, reads_once}
use Rattle.mt_shelf.proofs.Puts.{path_joined, second_true}
use Rattle.mt_marked_file.proofs.whole_file.read_entry.Goals as goal

pub read_file-requires-clause-path : goal.read_file-requires-clause-path
read_file-requires-clause-path g c =
    subst (λ p. is_path p ≡ true) (sym (c.as_str.ensures.value ∙ c.in_ok-path.ensures))
    (path_joined c.args.part.now c.args.name.now c.requires.path (second_true (is_utf8 c.args.name.now) (is_relative c.args.name.now) c.requires.name))
