-- What a query needs of rows that are stored by groups.
use Rattle.std.specs.Prelude.{ℕ, Bool, ◌&&◌, List}
use Rattle.std.specs.List.{list_all, list_any}
use Rattle.mt_table.specs.declared.projection.Aggregate.{Aggregate}
use Rattle.mt_defs.specs.Projections.{is_same_aggregate}
use Rattle.mt_query.specs.declared.query.Query.{Query}
use Rattle.mt_fold.specs.Answer.{aggregates, is_grouped}
use Rattle.mt_query.specs.Named.{given_cond_passes}
use Rattle.mt_stored.specs.Placed.{is_stored_column}

-- the columns that a query tests and groups by pass, and so do the aggregates that it selects
abbrev pub groups_pass : (column_passes : ℕ → Bool) → (aggregate_passes : Aggregate → Bool) → Query → Bool
groups_pass column_passes aggregate_passes query =
    given_cond_passes column_passes query.cond
    && (list_all column_passes query.keys && list_all aggregate_passes (aggregates query.items))

-- the aggregate is one of these
abbrev pub is_aggregate_among : List Aggregate → Aggregate → Bool
is_aggregate_among aggs aggregate = list_any (λ a. is_same_aggregate a aggregate) aggs

-- an aggregate projection of a table of so many columns has all that the query needs
abbrev pub can_answer : (keys : List ℕ) → List Aggregate → (width : ℕ) → Query → Bool
can_answer keys aggs width query = is_grouped query && groups_pass (is_stored_column keys width) (is_aggregate_among aggs) query
