use Rattle.std.proofs.Common.{◌≡◌, ◌∙◌, ℕ, List, ap, refl}
use Rattle.std.specs.Prelude.{Option, Some, None, is_some, option_copied}
use Rattle.std.specs.Borrow.{Bor}
use Rattle.std.proofs.lemmas.Bool.Decides.{Decides-eqb}
use Rattle.std.proofs.lemmas.Slice.Eq.{strip_prefix_is}
use Rattle.mt_types.specs.NameReading.{after_prefix}
use Rattle.mt_types.proofs.TextLemmas.{strip_prefix_result}
use Rattle.mt_files.proofs.listing.is_below.Goals as goal

copied : (found : Option (Bor (List ℕ))) → is_some found ≡ is_some (option_copied found)
copied None = refl
copied (Some rest) = refl

pub returns : goal.returns
returns c =
    let text = c.as_slice.result.now in
    let prefix = c.args.prefix.now in
    c.is_some.ensures ∙ copied c.strip_prefix.result ∙ ap is_some (strip_prefix_result text prefix c.strip_prefix.result (strip_prefix_is Decides-eqb text prefix c.strip_prefix.result c.strip_prefix.ensures.cases)) ∙ ap (λ (name : List ℕ). is_some (after_prefix prefix name)) c.as_slice.ensures
