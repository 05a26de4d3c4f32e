use Rattle.mt_defs.specs.Sorting.{sorted_rows}
use Rattle.mt_headline.proofs.StorableLemmas.{rows_writable}
use Rattle.mt_headline.proofs.law.storable_rows_are_accepted.Goals as goal

pub returns-clause-writable : goal.returns-clause-writable
returns-clause-writable c = rows_writable

pub returns-clause-stands : goal.returns-clause-stands
returns-clause-stands c table rows part files are = c.published_parts_are_accepted.ensures.stands table (sorted_rows table.sort rows) part files (rows_writable table rows are)

pub returns-clause-accepted : goal.returns-clause-accepted
returns-clause-accepted c table rows part files are = c.published_parts_are_accepted.ensures.accepted table (sorted_rows table.sort rows) part files (rows_writable table rows are)

pub returns-clause-no_other : goal.returns-clause-no_other
returns-clause-no_other c table rows part files accepted are = c.published_parts_are_accepted.ensures.no_other table (sorted_rows table.sort rows) part files accepted (rows_writable table rows are)

pub returns-clause-no_refusal : goal.returns-clause-no_refusal
returns-clause-no_refusal c table rows part files status are = c.published_parts_are_accepted.ensures.no_refusal table (sorted_rows table.sort rows) part files status (rows_writable table rows are)
