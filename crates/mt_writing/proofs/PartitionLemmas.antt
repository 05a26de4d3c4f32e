-- The lines of one partition.
use Rattle.std.proofs.Common.{◌≡◌, ℕ, ◌+◌, Bool, true, false, cond, List, [], ◌∷◌, Option, Some, None, Ok, refl, sym, ap, ◌∙◌, arith}
use Rattle.std.specs.Prelude.{All, Contains, ◌↔◌}
use Rattle.std.specs.Str.{bytes_eq}
use Rattle.std.proofs.lemmas.List.Elements.{All-nil, All-cons}
use Rattle.std.proofs.lemmas.Slice.Eq.{bytes_eq-Decides}
use Rattle.mt_table.specs.declared.definition.Table.{Table}
use Rattle.mt_defs.specs.Partition.{HaveOnePartition, partition_bytes}
use Rattle.mt_defs.specs.Rows.{Row}
use Rattle.mt_defs.proofs.PartitionLemmas.{one_for_all}
use Rattle.mt_writing.specs.Partitions.{are_together, no_other, lines_partition, other_line}

-- what a comparison of two rows says
together : (table : Table) (a b : Row) (same : Bool) → same ≡ true → (same ≡ true) ↔ (partition_bytes table a ≡ partition_bytes table b) → are_together table a b ≡ true
together table a b same is both = (bytes_eq-Decides (partition_bytes table a) (partition_bytes table b)).1 (both.0 is)

apart_by : (table : Table) (a b : Row) (same eq : Bool) → bytes_eq (partition_bytes table a) (partition_bytes table b) ≡ eq → same ≡ false → (same ≡ true) ↔ (partition_bytes table a ≡ partition_bytes table b) → eq ≡ false
apart_by table a b same false e is both = refl
apart_by table a b same true e is both = let yes = both.1 ((bytes_eq-Decides (partition_bytes table a) (partition_bytes table b)).0 e) in cc

apart : (table : Table) (a b : Row) (same : Bool) → same ≡ false → (same ≡ true) ↔ (partition_bytes table a ≡ partition_bytes table b) → are_together table a b ≡ false
apart table a b same is both = apart_by table a b same (are_together table a b) refl is both

-- one more line
pub other_next : (table : Table) (first row : Row) (line : ℕ) (rest more : List Row) (found : Option ℕ) (same : Bool) → rest ≡ row ∷ more → same ≡ true → (same ≡ true) ↔ (partition_bytes table first ≡ partition_bytes table row)
    → other_line table first line rest ≡ found → other_line table first (line + 1) more ≡ found
unfolding other_line
other_next table first row line rest more found same e is both before =
    let yes = together table first row same is both in
    sym (ap (other_line table first line) e ∙ rw yes refl) ∙ before

pub other_here : (table : Table) (first row : Row) (line : ℕ) (rest more : List Row) (found : Option ℕ) (same : Bool) → rest ≡ row ∷ more → same ≡ false → (same ≡ true) ↔ (partition_bytes table first ≡ partition_bytes table row)
    → other_line table first line rest ≡ found → Some line ≡ found
unfolding other_line
other_here table first row line rest more found same e is both before =
    let no = apart table first row same is both in
    sym (ap (other_line table first line) e ∙ rw no refl) ∙ before

pub other_end : (table : Table) (first : Row) (line : ℕ) (rest : List Row) (found : Option ℕ) → rest ≡ [] → other_line table first line rest ≡ found → None ≡ found
unfolding other_line
other_end table first line rest found e before = sym (ap (other_line table first line) e) ∙ before

-- rows of one partition all have line 1's
none_other : (table : Table) (first : Row) (line : ℕ) (rows : List Row) → other_line table first line rows ≡ None → All (λ row. partition_bytes table first ≡ partition_bytes table row) rows
unfolding other_line
none_other table first line [] e = All-nil (λ row. partition_bytes table first ≡ partition_bytes table row)
none_other table first line (row ∷ rows) e = by_test (are_together table first row) refl e (λ later. none_other table first (line + 1) rows later)
  where
    by_test : (same : Bool) → are_together table first row ≡ same → cond same (other_line table first (line + 1) rows) (Some line) ≡ None → (other_line table first (line + 1) rows ≡ None → All (λ other. partition_bytes table first ≡ partition_bytes table other) rows)
        → All (λ other. partition_bytes table first ≡ partition_bytes table other) (row ∷ rows)
    by_test true is e later = All-cons (λ other. partition_bytes table first ≡ partition_bytes table other) row rows ((bytes_eq-Decides (partition_bytes table first) (partition_bytes table row)).0 is) (later e)
    by_test false is e later = cc

no_other_line : (found : Option ℕ) → no_other found ≡ Ok tt → found ≡ None
no_other_line None e = refl
no_other_line (Some line) e = cc

-- the step that refuses another partition lets rows of one pass
pub have_one : (table : Table) (rows : List Row) → lines_partition table rows ≡ Ok tt → HaveOnePartition table rows
have_one table [] e = λ a b in_rows also. absurd (nowhere a in_rows)
  where
    nowhere : (a : Row) → Contains [] a → ⊥
    nowhere a in_none = let inside = in_none.1 in omega (arith, inside)
have_one table (first ∷ rows) e = one_for_all table first (first ∷ rows) (none_other table first 1 (first ∷ rows) (no_other_line (other_line table first 1 (first ∷ rows)) e))
