use Rattle.std.proofs.Common.{◌≡◌, ◌∙◌, ap, sym, subst, List, ℕ}
use Rattle.mt_table.specs.declared.column.Column.{Column}
use Rattle.mt_plan_files.specs.Planned.{granules_name}
use Rattle.std.specs.Prelude.{IfSome, Some, Option}
use Rattle.mt_defs.specs.Folder.{folder_of}
use Rattle.mt_plan_known.specs.Known.{AreMarked}
use Rattle.mt_plan_known.proofs.GranuleLemmas.{few_granules, granules_told}
use Rattle.mt_plan_known.proofs.granules.read_granules.Goals as goal

pub returns-in-Some-2-clause-finds : goal.returns-in-Some-2-clause-finds
returns-in-Some-2-clause-finds c =
    granules_told c.args.definition.now (folder_of c.args.files.now) c.args.order.now c.args.count c.is_compact-compact.result c.marks_each.result c.as_slice-2.result.now c.in_ok-bytes.bytes.now c.is_compact-compact.ensures c.marks_each.ensures
    (c.as_slice-2.ensures ∙ c.in_ok-name.ensures ∙ ap (λ (columns : List Column). granules_name columns c.args.order.now c.is_compact-compact.result) c.as_slice.ensures) c.in_ok-bytes.ensures c.as_slice-in-Some.result.now c.in-Some-2.granules (ap (λ (rows : List ℕ). Some rows) c.as_slice-in-Some.ensures ∙ sym c.in-Some.is ∙ c.in_ok-rows.ensures) (subst (λ (o : Option (List ℕ)). IfSome o (AreMarked c.args.count c.as_slice-in-Some.result.now)) c.in-Some-2.is c.in_ok-granules-in-Some.ensures.found)

pub returns-in-Some-2-clause-few : goal.returns-in-Some-2-clause-few
returns-in-Some-2-clause-few c =
    few_granules c.args.count c.as_slice-in-Some.result.now c.in-Some-2.granules (subst (λ (o : Option (List ℕ)). IfSome o (AreMarked c.args.count c.as_slice-in-Some.result.now)) c.in-Some-2.is c.in_ok-granules-in-Some.ensures.found)
