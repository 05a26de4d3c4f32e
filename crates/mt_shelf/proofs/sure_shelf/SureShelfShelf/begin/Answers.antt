use Rattle.std.proofs.Common.{rules, refl}
use Rattle.mt_shelf.proofs.ByteLemmas.{no_files}
use Rattle.mt_shelf.proofs.Puts.{is_file_path-from}
use Rattle.mt_shelf.proofs.sure_shelf.SureShelfShelf.begin.Goals as goal

pub returns-clause-ok : goal.returns-clause-ok
returns-clause-ok c = rw (c.close.ensures.files, c.close.ensures.emptied, c.in_ok-self.ensures, c.as_bytes.ensures.value, c.close.ensures.drops.taken) refl

pub invariant_of-self : goal.invariant_of-self
invariant_of-self c = record {
  some = search rules;
  paths = search rules;
  names = search rules;
  bytes = rw c.close.ensures.files c.args.self.now.bytes;
  draft_bytes = rw c.close.ensures.emptied no_files;
  puts = rw c.close.ensures.emptied refl;
  target_path = λ _. rw (c.in_ok-self.ensures, c.as_bytes.ensures.value) (is_file_path-from c.args.part.now c.utf8.part c.requires);
}
