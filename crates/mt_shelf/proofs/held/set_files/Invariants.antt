use Rattle.std.proofs.Common.{◌≡◌, ◌≤◌, ◌+◌, true, vec_len, vec_capacity}
use Rattle.mt_shelf.specs.Held.{files_in, with_files, all_paths, AllDiffer}
use Rattle.mt_shelf.proofs.held.set_files.Given as goal

abbrev pub invariant-loop-draft : goal.invariant-loop-draft
invariant-loop-draft l = record {
  room : vec_len l.held + vec_len l.draft ≤ vec_capacity l.held;
  files : with_files l.draft.items (files_in l.held.items) ≡ with_files l.fn.draft.items (files_in l.fn.held.items);
  paths : all_paths l.held.items ≡ true;
  names : AllDiffer l.held.items;
  draft_paths : all_paths l.draft.items ≡ true;
}

abbrev pub decreases-loop-draft : goal.decreases-loop-draft
decreases-loop-draft l = vec_len l.draft
