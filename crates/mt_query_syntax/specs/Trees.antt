-- The tree of a production, made of those of its parts.
use Rattle.std.specs.Prelude.{ℕ, List, [], Option, unwrap_or}
use Rattle.mt_phrases.specs.declared.selection.Selected.{Selected}
use Rattle.mt_cond_syntax.specs.declared.tree.CondText.{CondText}
use Rattle.mt_query_syntax.specs.declared.tree.QueryText.{QueryText}

-- a query of its items, its condition, GROUP BY and LIMIT
abbrev pub query_of : Selected × (Option CondText × (Option (List (List ℕ)) × Option ℕ)) → QueryText
query_of x = record { items = x.0; cond = x.1.0; group = unwrap_or x.1.1.0 []; limit = x.1.1.1 }
