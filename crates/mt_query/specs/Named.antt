-- The columns that a query names, each put to a test.
use Rattle.std.specs.Prelude.{ℕ, Bool, true, ◌&&◌, Option, Some, None}
use Rattle.std.specs.List.{list_all}
use Rattle.mt_query.specs.declared.cond.Cond.{Cond}
use Rattle.mt_query.specs.declared.cond.Cond.TheOpen.{Cond-F}
use Rattle.mt_query.specs.declared.cond.Cond.TheFolds.{fold-Cond}
use Rattle.mt_query.specs.declared.query.Item.{Item}
use Rattle.mt_query.specs.declared.query.Item.TheVariants.{Column as Plain, Count, Of}
use Rattle.mt_query.specs.declared.query.Query.{Query}

-- one level of a condition, where the conditions inside it are given by their tests
abbrev pub columns_step : (ℕ → Bool) → Cond-F Bool → Bool
columns_step test (Cond-F.Cmp column op literal) = test column
columns_step test (Cond-F.OneOf column literals) = test column
columns_step test (Cond-F.IsNull column negated) = test column
columns_step test (Cond-F.Starts column prefix) = test column
columns_step test (Cond-F.Has column literal) = test column
columns_step test (Cond-F.And a b) = a && b
columns_step test (Cond-F.Or a b) = a && b
columns_step test (Cond-F.Not a) = a

-- every column that a condition names passes
abbrev pub cond_passes : (ℕ → Bool) → Cond → Bool
cond_passes test = fold-Cond Bool (columns_step test)

-- the same of a condition that may be left out
abbrev pub given_cond_passes : (ℕ → Bool) → Option Cond → Bool
given_cond_passes test None = true
given_cond_passes test (Some cond) = cond_passes test cond

-- the column of an item passes, if it names one
abbrev pub item_passes : (ℕ → Bool) → Item → Bool
item_passes test (Plain place) = test place
item_passes test Count = true
item_passes test (Of agg place) = test place

-- every column that a query names passes
abbrev pub query_passes : (ℕ → Bool) → Query → Bool
query_passes test query = list_all (item_passes test) query.items && (given_cond_passes test query.cond && list_all test query.keys)
