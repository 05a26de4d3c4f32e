use Rattle.std.proofs.Common.{ap, ◌∙◌, arith}
use Rattle.mt_fault.specs.declared.fault.Why.TheVariants.{Columns}
use Rattle.mt_defs.specs.Metadata.{columns_name}
use Rattle.mt_types.specs.Steps.{ok_or}
use Rattle.mt_fault.specs.Faults.{blame, file_fault}
use Rattle.mt_fault.proofs.FaultLemmas.{fault_gives}
use Rattle.mt_meta.proofs.ColumnsLemmas.{reading_syntax, reading_is, reading_found, too_many}
use Rattle.mt_meta.proofs.columns.read_columns.Goals as goal

pub returns-in_default : goal.returns-in_default
returns-in_default c = fault_gives _ c.file_fault.result _ c.file_fault.ensures (ap (blame (file_fault columns_name)) (reading_syntax c.args.columns.now c.args.must.now c.args.text.now c.in_default.ensures))

pub returns-then-count-columns : goal.returns-then-count-columns
returns-then-count-columns c =
    let found = c.in-Some.ensures in
    let more = c.if-count-columns.true in
    let none = too_many c.args.columns.now c.args.must.now found.0 (omega (arith, more, found.3)) in
    fault_gives _ c.file_fault-then-count-columns.result _ c.file_fault-then-count-columns.ensures
    (ap (blame (file_fault columns_name)) (reading_is c.args.columns.now c.args.must.now c.args.text.now found.0 found.1 ∙ ap (ok_or Columns) none))

pub returns-in-Ok-Some : goal.returns-in-Ok-Some
returns-in-Ok-Some c =
    let found = c.in-Some.ensures in
    ap (blame (file_fault columns_name)) (reading_found c.args.columns.now c.args.must.now c.args.text.now found.0 c.in-Ok-Some.field-0 found.1 (c.in-Ok-Some.ensures found.0 found.2) ∙ ap (ok_or Columns) c.in-Ok-Some.field-0-is)

pub returns-in-Ok-None : goal.returns-in-Ok-None
returns-in-Ok-None c =
    let found = c.in-Some.ensures in
    fault_gives _ c.file_fault-in-Ok-None.result _ c.file_fault-in-Ok-None.ensures
    (ap (blame (file_fault columns_name)) (reading_found c.args.columns.now c.args.must.now c.args.text.now found.0 c.in-Ok-None.field-0 found.1 (c.in-Ok-None.ensures found.0 found.2) ∙ ap (ok_or Columns) c.in-Ok-None.field-0-is))
