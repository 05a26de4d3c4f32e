use Rattle.std.proofs.Common.{◌≡◌}
use Rattle.std.specs.Option.{option_copied}
use Rattle.std.specs.List.{list_all}
use Rattle.mt_tsv.specs.Arrays.{elements_after, is_text_element}
use Rattle.mt_tsv.proofs.Elements.{bytes_left}
use Rattle.mt_tsv.proofs.level.are_text_elements.Given as goal

abbrev pub invariant-elements : goal.invariant-elements
invariant-elements l = list_all is_text_element (elements_after (option_copied l.rest)) ≡ list_all is_text_element (elements_after (option_copied l.content))

abbrev pub decreases-elements : goal.decreases-elements
decreases-elements l = bytes_left (option_copied l.rest)
