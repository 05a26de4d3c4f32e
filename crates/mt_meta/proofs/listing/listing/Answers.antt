use Rattle.std.proofs.Common.{false, refl, sym, ◌∙◌}
use Rattle.mt_meta.proofs.ListingLemmas.{listing_first, listing_second, listing_is, listing_none, listing_unless, listing_found}
use Rattle.mt_meta.proofs.listing.listing.Goals as goal

pub returns-in_err-version : goal.returns-in_err-version
returns-in_err-version c = rw c.from_residual.ensures (listing_first c.args.text.now (sym c.in_err-version.ensures.parts))

pub returns-in_err-count : goal.returns-in_err-count
returns-in_err-count c = rw c.from_residual-in_err-count.ensures (listing_second c.args.text.now c.in_ok-version.version.now c.in_ok-version.rest.now (sym c.in_ok-version.ensures.parts) (sym c.in_err-count.ensures.parts))

pub returns-in_err-columns : goal.returns-in_err-columns
returns-in_err-columns c =
    let is = listing_is c.args.text.now c.in_ok-version.version.now c.in_ok-version.rest.now c.in_ok-count.count.now c.in_ok-count.lines.now (sym c.in_ok-version.ensures.parts) (sym c.in_ok-count.ensures.parts) in
    rw c.from_residual-in_err-columns.ensures (listing_none c.args.text.now c.in_ok-version.version.now c.in_ok-count.count.now c.in_ok-count.lines.now is c.in_err-columns.ensures)

pub returns-then-not-is_version_line : goal.returns-then-not-is_version_line
returns-then-not-is_version_line c =
    let is = listing_is c.args.text.now c.in_ok-version.version.now c.in_ok-version.rest.now c.in_ok-count.count.now c.in_ok-count.lines.now (sym c.in_ok-version.ensures.parts) (sym c.in_ok-count.ensures.parts) in
    let no = sym c.is_version_line.ensures ∙ c.if-not-is_version_line.true in
    listing_unless c.args.text.now c.in_ok-version.version.now c.in_ok-count.count.now c.in_ok-count.lines.now c.in_ok-columns.columns false is c.in_ok-columns.ensures refl (rw no refl)

pub returns-then-not-is_count_line : goal.returns-then-not-is_count_line
returns-then-not-is_count_line c =
    let is = listing_is c.args.text.now c.in_ok-version.version.now c.in_ok-version.rest.now c.in_ok-count.count.now c.in_ok-count.lines.now (sym c.in_ok-version.ensures.parts) (sym c.in_ok-count.ensures.parts) in
    let yes = sym c.is_version_line.ensures ∙ c.if-not-is_version_line.false in
    let no = sym c.is_count_line.ensures ∙ c.if-not-is_count_line.true in
    listing_unless c.args.text.now c.in_ok-version.version.now c.in_ok-count.count.now c.in_ok-count.lines.now c.in_ok-columns.columns false is c.in_ok-columns.ensures refl (rw (yes, no) refl)

pub returns : goal.returns
returns c =
    let is = listing_is c.args.text.now c.in_ok-version.version.now c.in_ok-version.rest.now c.in_ok-count.count.now c.in_ok-count.lines.now (sym c.in_ok-version.ensures.parts) (sym c.in_ok-count.ensures.parts) in
    listing_found c.args.text.now c.in_ok-version.version.now c.in_ok-count.count.now c.in_ok-count.lines c.in_ok-columns.columns is c.in_ok-columns.ensures
    (sym c.is_version_line.ensures ∙ c.if-not-is_version_line.false) (sym c.is_count_line.ensures ∙ c.if-not-is_count_line.false)
