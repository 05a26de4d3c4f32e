use Rattle.std.proofs.Common.{rules}
use Rattle.mt_shelf.proofs.ByteLemmas.{no_files, files_in_bytes}
use Rattle.mt_shelf.proofs.sure_shelf.SureShelf.new.Goals as goal

pub invariant_of-result : goal.invariant_of-result
invariant_of-result c = record {
  some = search rules;
  paths = search rules;
  names = search rules;
  bytes = rw (c.into_vec.ensures, ← c.as_slice.ensures) (files_in_bytes c.as_slice.result.now c.know_files.ensures);
  puts = search rules;
  draft_bytes = rw c.new-2.ensures.items no_files;
  target_path = search rules;
}
