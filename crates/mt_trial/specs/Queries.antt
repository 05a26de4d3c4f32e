-- The three queries of a trial, and what each asks: docs/CLI.md, "trial".
use Rattle.std.specs.Prelude.{ℕ, pos, List, [], ◌∷◌, codes, Some, None}
use Rattle.mt_types.specs.declared.ty.Agg.TheVariants.{Sum, Min, Max}
use Rattle.mt_types.specs.declared.value.Value.TheVariants.{Num}
use Rattle.mt_cond_syntax.specs.declared.op.Op.TheVariants.{Lt, Ge}
use Rattle.mt_query.specs.declared.cond.Cond.TheVariants.{Cmp}
use Rattle.mt_query.specs.declared.query.Item.TheVariants.{Column, Count, Of}
use Rattle.mt_query.specs.declared.query.Query.{Query}

-- ---- of all rows together

unfoldable pub totals_text : List ℕ
totals_text = codes "SELECT count(), sum(v), min(v), max(v) FROM part ORDER BY ALL"

-- the number of rows, and of v the sum, the least and the greatest
abbrev pub totals_query : Query
totals_query = record { items = Count ∷ Of Sum 2 ∷ Of Min 2 ∷ Of Max 2 ∷ []; cond = None; keys = []; limit = None }

-- ---- of the first groups

unfoldable pub groups_text : List ℕ
groups_text = codes "SELECT k, count(), sum(v) FROM part WHERE k < 30 GROUP BY k ORDER BY ALL LIMIT 3"

-- for each k below 30 the number of rows and the sum of v, of the first three
abbrev pub groups_query : Query
groups_query = record { items = Column 1 ∷ Count ∷ Of Sum 2 ∷ []; cond = Some (Cmp 1 Lt (Num (pos 30))); keys = 1 ∷ []; limit = Some 3 }

-- ---- of the first rows with a great v

unfoldable pub great_text : List ℕ
great_text = codes "SELECT k, v FROM part WHERE v >= 900 ORDER BY ALL LIMIT 2"

-- k and v of the first two rows whose v is at least 900
abbrev pub great_query : Query
great_query = record { items = Column 1 ∷ Column 2 ∷ []; cond = Some (Cmp 2 Ge (Num (pos 900))); keys = []; limit = Some 2 }
