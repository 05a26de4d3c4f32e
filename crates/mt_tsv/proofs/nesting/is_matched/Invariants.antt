use Rattle.std.proofs.Common.{◌≡◌, ◌≤◌, drop}
use Rattle.mt_tsv.specs.Nesting.{is_matched, is_matched_from, depth_of}
use Rattle.mt_tsv.proofs.nesting.is_matched.Given as goal

abbrev pub invariant-loop-byte : goal.invariant-loop-byte
invariant-loop-byte l = record {
  left : is_matched_from l.nesting (drop l.byte-index l.content) ≡ is_matched l.content;
  depth : depth_of l.nesting ≤ l.byte-index;
}
