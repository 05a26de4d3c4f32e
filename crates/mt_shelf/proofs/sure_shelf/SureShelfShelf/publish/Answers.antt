use Rattle.std.proofs.Common.{rules, ◌∙◌, sym, ap, refl, Some}
use Rattle.mt_shelf.specs.Held.{files_in, with_files}
use Rattle.mt_shelf.proofs.ByteLemmas.{no_files, with_files_bytes}
use Rattle.mt_shelf.proofs.Puts.{paths-puts, gained_files-draft_in}
use Rattle.mt_shelf.proofs.sure_shelf.SureShelfShelf.publish.Goals as goal

pub set_files-requires-clause-draft_paths : goal.set_files-requires-clause-draft_paths
set_files-requires-clause-draft_paths c = paths-puts c.args.self.now.target.items c.args.self.now.draft.items c.args.self.now.puts

pub returns-in-Ok-clause-ok : goal.returns-in-Ok-clause-ok
returns-in-Ok-clause-ok c = record {
  files = ap Some (c.set_files.ensures.files ∙ ap (λ f. with_files c.args.self.now.draft.items (files_in f)) c.reserve.ensures.items ∙ sym (gained_files-draft_in c.args.self.now.target.items c.args.self.now.draft.items (files_in c.args.self.now.files.items) c.args.self.now.puts));
  closed = refl;
  taken = refl;
}

pub invariant_of-self : goal.invariant_of-self
invariant_of-self c = record {
  some = search rules;
  paths = search rules;
  names = search rules;
  bytes = rw (c.set_files.ensures.files, c.reserve.ensures.items) (with_files_bytes c.args.self.now.draft.items (files_in c.args.self.now.files.items) c.args.self.now.draft_bytes c.args.self.now.bytes);
  puts = rw c.set_files.ensures.emptied refl;
  draft_bytes = rw c.set_files.ensures.emptied no_files;
  target_path = λ begun. c.args.self.now.target_path c.requires;
}
