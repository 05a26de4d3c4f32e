-- The columns that a folder lists.
use Rattle.std.proofs.Common.{ℕ, ◌<◌, List, length, map}
use Rattle.std.specs.Prelude.{All, IsTrue}
use Rattle.std.proofs.lemmas.List.Elements.{All-get_or, All-map, All-weaker}
use Rattle.mt_types.specs.Profile.{is_profile}
use Rattle.mt_table.specs.declared.column.Column.{Column}
use Rattle.mt_table.specs.Stored.{column_at, no_column}

-- they are of the profile, as all are
pub listed_profile : (columns : List Column) (order : List ℕ) → All (λ i. i < length columns) order → All (λ column. IsTrue (is_profile column.ty)) columns → All (λ column. IsTrue (is_profile column.ty)) (map (column_at columns) order)
listed_profile columns order known profile =
    All-map (λ (column : Column). IsTrue (is_profile column.ty)) (column_at columns) order
    (All-weaker (λ i. i < length columns) (λ i. IsTrue (is_profile (column_at columns i).ty)) (λ i h. All-get_or (λ (column : Column). IsTrue (is_profile column.ty)) columns i no_column h profile) order known)
