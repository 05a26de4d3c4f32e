use Rattle.std.proofs.Common.{◌≡◌}
use Rattle.std.specs.Option.{option_copied}
use Rattle.mt_tsv.specs.Arrays.{element_of, elements_after, element_values}
use Rattle.mt_tsv.proofs.Prefixes.{with_prefix}
use Rattle.mt_tsv.proofs.Elements.{bytes_left}
use Rattle.mt_tsv.proofs.array.+array.Given as goal

abbrev pub invariant-read_array-elements : goal.invariant-read_array-elements
invariant-read_array-elements l = with_prefix l.items (element_values (element_of l.inner).read (elements_after (option_copied l.rest))) ≡ element_values (element_of l.inner).read (elements_after (option_copied l.initial.rest))

abbrev pub decreases-read_array-elements : goal.decreases-read_array-elements
decreases-read_array-elements l = bytes_left (option_copied l.rest)
