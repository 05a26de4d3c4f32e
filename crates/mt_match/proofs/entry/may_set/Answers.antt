use Rattle.std.proofs.Common.{◌^◌, ℕ, List, sym, subst}
use Rattle.std.specs.Prelude.{Option, Some, None, nat_lt}
use Rattle.std.specs.Borrow.{Bor}
use Rattle.std.specs.Option.{option_map}
use Rattle.std.proofs.lemmas.Result.{IfOk-weaker}
use Rattle.mt_types.specs.declared.ty.Ty.{Ty}
use Rattle.mt_table.specs.declared.skip.SkipKind.TheVariants.{Set}
use Rattle.mt_defs.specs.Marks.{u64_bytes}
use Rattle.mt_item.specs.Results.{IsFirst}
use Rattle.mt_skip.specs.Items.{ReadsItems}
use Rattle.mt_match.specs.Matching.{JudgesEntry}
use Rattle.mt_match.proofs.EntryLemmas.{no_count}
use Rattle.mt_match.proofs.entry.may_set.Goals as goal

-- the count that bytes begin with, as it was read
abbrev Counts : List ℕ → Option (ℕ × Bor (List ℕ)) → Type 0
Counts bytes read = IsFirst {V = ℕ} (λ n. nat_lt n (2 ^ 64)) u64_bytes bytes (option_map (λ (first : ℕ × Bor (List ℕ)). (first.0, first.1.now)) read)

pub returns-in_default : goal.returns-in_default
returns-in_default c = no_count c.args.cond.now c.args.column c.args.max_rows c.args.ty.now c.args.entry.now (subst (Counts c.args.entry.now) c.in_default.is c.read_count.ensures)

pub returns-in-Some-2 : goal.returns-in-Some-2
returns-in-Some-2 c =
    let ty = c.args.ty.now in
    let entry = c.args.entry.now in
    let count = c.in-Some.count in
    let items = c.in-Some.items.now in
    let first : IsFirst {V = ℕ} (λ n. nat_lt n (2 ^ 64)) u64_bytes entry (Some (count, items)) = subst (Counts entry) c.in-Some.is c.read_count.ensures in
    let read : ReadsItems ty count items (Some c.in-Some-2.values.items) = subst (λ r. ReadsItems ty count items (option_map (λ some. some.items) r)) c.in-Some-2.is c.in_ok-values.ensures in
    IfOk-weaker c.may_differing.result
    (λ may. (max_rows count : ℕ) (ty : Ty) (bytes items : List ℕ) → IsFirst {V = ℕ} (λ n. nat_lt n (2 ^ 64)) u64_bytes bytes (Some (count, items)) → ReadsItems ty count items (Some c.as_slice.result.now)
    → JudgesEntry c.args.cond.now c.args.column (Set max_rows) ty bytes may)
    (JudgesEntry c.args.cond.now c.args.column (Set c.args.max_rows) ty entry)
    (λ may judges. judges c.args.max_rows count ty entry items first (subst (λ l. ReadsItems ty count items (Some l)) (sym c.as_slice.ensures.value) read))
    c.may_differing.ensures
