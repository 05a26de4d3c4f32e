use Rattle.std.proofs.Common.{◌≡◌, ◌∙◌, ◌+◌, ◌≤◌, sym, ap, subst, arith, length, ℕ, List}
use Rattle.std.proofs.lemmas.Result.{err_from_is_err_and}
use Rattle.mt_defs.specs.Folder.{folder_of}
use Rattle.mt_defs.proofs.ListedColumns.{listed_few, listed_some}
use Rattle.std.specs.Prelude.{Err}
use Rattle.mt_plan_known.specs.Finding.{Finds}
use Rattle.mt_plan_known.specs.Known.{IsKnown, TellsGranules, TellsKeys}
use Rattle.mt_plan_known.proofs.FindingLemmas.{step_finds}
use Rattle.mt_plan_known.proofs.KnownLemmas.{known_granules, known_keys}
use Rattle.mt_plan_known.proofs.known.read_known.Goals as goal

pub read_granules-requires-clause-some : goal.read_granules-requires-clause-some
read_granules-requires-clause-some c =
    let size = ap length c.as_slice.ensures in
    let some = listed_some c.args.definition.now.columns c.args.definition.now.must c.in_ok-order.order c.in_ok-order.ensures.listed c.requires.listed in
    omega (arith, size, some)

pub read_granules-requires-clause-few : goal.read_granules-requires-clause-few
read_granules-requires-clause-few c =
    let size = ap length c.as_slice.ensures in
    let fewer = listed_few c.args.definition.now.columns c.args.definition.now.must c.in_ok-order.order c.in_ok-order.ensures.listed in
    let few = c.requires.columns.few in
    omega (arith, size, fewer, few)

pub returns-in_err-granules-clause-finds : goal.returns-in_err-granules-clause-finds
returns-in_err-granules-clause-finds c =
    let definition = c.args.definition.now in
    let folder = folder_of c.args.files.now in
    let p = err_from_is_err_and c.from_residual-in_err-granules.result c.from_residual-in_err-granules.ensures.1 in
    rw (p.1, p.2)
    (step_finds (TellsGranules definition folder c.in_ok-order.order c.in_ok-count.count) (IsKnown definition folder) c.in_err-granules.field-0.0
    (subst (λ (o : List ℕ). Finds (TellsGranules definition folder o c.in_ok-count.count) (Err c.in_err-granules.field-0.0)) c.as_slice.ensures c.in_err-granules.ensures.finds)
    (λ known is. (known.granules, known_granules definition folder c.in_ok-order.order c.in_ok-count.count c.in_ok-order.ensures.gives c.in_ok-count.ensures.gives known is)))

pub returns-in_err-keys-clause-finds : goal.returns-in_err-keys-clause-finds
returns-in_err-keys-clause-finds c =
    let definition = c.args.definition.now in
    let folder = folder_of c.args.files.now in
    let order = c.in_ok-order.order in
    let count = c.in_ok-count.count in
    let granules = c.in_ok-granules.granules in
    let p = err_from_is_err_and c.from_residual-in_err-keys.result c.from_residual-in_err-keys.ensures.1 in
    let told = subst (λ (o : List ℕ). TellsGranules definition folder o count granules) c.as_slice.ensures c.in_ok-granules.ensures.finds in
    rw (p.1, p.2)
    (step_finds (TellsKeys definition folder (c.len.result + 1)) (IsKnown definition folder) c.in_err-keys.field-0.0 c.in_err-keys.ensures
    (λ known is. (known.keys, subst (λ (n : ℕ). TellsKeys definition folder (n + 1) known.keys) (sym c.len.ensures) (known_keys definition folder order count c.in_ok-order.ensures.gives c.in_ok-count.ensures.gives granules told known is))))
