-- Rows behind references.
use Rattle.std.specs.Prelude.{List, map}
use Rattle.std.specs.Borrow.{Bor}
use Rattle.mt_defs.specs.Rows.{Row}

-- the rows that references point to
abbrev pub rows_in : List (Bor Row) → List Row
rows_in rows = map (λ row. row.now) rows
