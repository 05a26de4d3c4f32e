use Rattle.std.proofs.Common.{◌∙◌, ap, refl, sym}
use Rattle.mt_shelf.specs.Files.{entries_below}
use Rattle.mt_definition.specs.declared.accepted.Accepted.{Accepted}
use Rattle.mt_defs.specs.Writer.{written_folder}
use Rattle.mt_law_written.proofs.FolderLemmas.{granules_of}
use Rattle.mt_headline.proofs.PublishedLemmas.{not_both, same_accepted, steps_accept, steps_checks, steps_refuse, with_draft}
use Rattle.mt_headline.proofs.WrittenLemmas.{written_published}
use Rattle.mt_headline.proofs.law.published_parts_are_accepted.Goals as goal

pub returns-clause-stands : goal.returns-clause-stands
returns-clause-stands c table rows part files writable free within =
    let p = written_published table rows part files (c.written_names_differ.ensures table rows) (c.written_folder_stands.ensures table rows writable) free within in
    (granules_of table rows, p.stands_for)

pub returns-clause-accepted : goal.returns-clause-accepted
returns-clause-accepted c table rows part files writable free within =
    let after = with_draft part (written_folder table rows) files in
    let p = written_published table rows part files (c.written_names_differ.ensures table rows) (c.written_folder_stands.ensures table rows writable) free within in
    let accepted : Accepted = record { rows = rows; granules = granules_of table rows } in
    (accepted, steps_accept table part after (entries_below part after) accepted p.listed ((c.parts_are_checked_exactly.ensures.accepted table part after accepted).1 p.stands_for), refl)

pub returns-clause-no_other : goal.returns-clause-no_other
returns-clause-no_other c table rows part files accepted writable free within steps =
    let after = with_draft part (written_folder table rows) files in
    let p = written_published table rows part files (c.written_names_differ.ensures table rows) (c.written_folder_stands.ensures table rows writable) free within in
    let first : Accepted = record { rows = rows; granules = granules_of table rows } in
    let checks = (c.parts_are_checked_exactly.ensures.accepted table part after first).1 p.stands_for in
    ap (λ (a : Accepted). a.rows) (same_accepted accepted first (sym (steps_checks table part after accepted steps) ∙ checks))

pub returns-clause-no_refusal : goal.returns-clause-no_refusal
returns-clause-no_refusal c table rows part files status writable free within =
    let after = with_draft part (written_folder table rows) files in
    let p = written_published table rows part files (c.written_names_differ.ensures table rows) (c.written_folder_stands.ensures table rows writable) free within in
    let first : Accepted = record { rows = rows; granules = granules_of table rows } in
    let checks = (c.parts_are_checked_exactly.ensures.accepted table part after first).1 p.stands_for in
    steps_refuse table part after (entries_below part after) status p.listed (λ fault fails. not_both first fault (sym checks ∙ fails))
