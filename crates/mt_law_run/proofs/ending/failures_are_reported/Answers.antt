use Rattle.mt_law_run.proofs.KnownLemmas.{fell_or_none, performs_of, refused_leaves, shelf_fault, sink_fault, source_fault}
use Rattle.mt_law_run.proofs.ending.failures_are_reported.Goals as goal

pub returns-clause-failures : goal.returns-clause-failures
returns-clause-failures c command old new status runs =
    let (plan, performs) = performs_of command old new status runs in
    fell_or_none plan old new status performs.1

pub returns-clause-words : goal.returns-clause-words
returns-clause-words c old new status runs = runs

pub returns-clause-source : goal.returns-clause-source
returns-clause-source c = source_fault

pub returns-clause-sink : goal.returns-clause-sink
returns-clause-sink c = sink_fault

pub returns-clause-shelf : goal.returns-clause-shelf
returns-clause-shelf c = shelf_fault

pub returns-clause-refusals : goal.returns-clause-refusals
returns-clause-refusals c command old new status runs inside other =
    let (plan, performs) = performs_of command old new status runs in
    refused_leaves plan old new status inside other performs.0.left
