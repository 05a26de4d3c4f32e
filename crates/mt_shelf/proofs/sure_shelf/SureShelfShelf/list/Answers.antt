use Rattle.std.proofs.Common.{◌≡◌, ◌∙◌, sym, subst, List}
use Rattle.mt_shelf.specs.Files.{IsListing, entries_below}
use Rattle.mt_shelf.specs.Held.{files_in}
use Rattle.mt_shelf.specs.KeptPaths.{known_paths}
use Rattle.mt_shelf.specs.declared.file.Entry.{Entry}
use Rattle.mt_shelf.proofs.Listings.{is_listing}
use Rattle.mt_shelf.proofs.sure_shelf.SureShelfShelf.list.Goals as goal

pub returns-else-is_empty-clause-form : goal.returns-else-is_empty-clause-form
returns-else-is_empty-clause-form c =
    let P : List Entry → Type 0 = IsListing in
    let is : entries_below c.args.part.now (files_in c.args.self.now.files.items) ≡ c.of.result = sym (c.of.ensures ∙ (rw (← c.as_bytes.ensures.value, ← c.as_slice.ensures.value) c.in_ok-entries.ensures)) in
    subst P is (is_listing c.args.part.now (files_in c.args.self.now.files.items) c.utf8.part c.requires (known_paths c.args.self.now.files.items c.args.self.now.paths))
