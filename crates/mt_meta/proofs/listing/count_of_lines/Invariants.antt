use Rattle.std.proofs.Common.{◌≡◌, ◌+◌, ◌≤◌, length}
use Rattle.std.specs.Prelude.{◌==◌, option_map}
use Rattle.std.specs.List.{slice_split}
use Rattle.mt_meta.specs.declared.ascii.TheConstants.{LINE_END}
use Rattle.mt_meta.specs.ColumnsReading.{column_lines}
use Rattle.mt_meta.proofs.ListingLemmas.{counted}
use Rattle.mt_meta.proofs.listing.count_of_lines.Given as goal

abbrev pub invariant-lines : goal.invariant-lines
invariant-lines l = record {
  so_far : counted l.count (column_lines (slice_split (λ byte. byte == LINE_END) l.rest)) ≡ option_map length (column_lines (slice_split (λ byte. byte == LINE_END) l.fn.text));
  room : l.count + length l.rest ≤ length l.fn.text;
}

abbrev pub decreases-lines : goal.decreases-lines
decreases-lines l = length l.rest
