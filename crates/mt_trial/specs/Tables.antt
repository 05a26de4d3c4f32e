-- The table of a trial: docs/CLI.md, "trial".
use Rattle.std.specs.Prelude.{ℕ, List, [], ◌∷◌, codes}
use Rattle.mt_types.specs.declared.ty.Ty.TheVariants.{Date, Str, UInt}
use Rattle.mt_types.specs.declared.ty.Agg.TheVariants.{Sum}
use Rattle.mt_types.specs.declared.ty.Width.TheVariants.{W32, W64}
use Rattle.mt_table.specs.declared.column.Column.{Column}
use Rattle.mt_table.specs.declared.limits.TheConstants.{DEFAULT_GRANULE_BYTES, DEFAULT_GRANULE_ROWS, DEFAULT_WIDE_BYTES, DEFAULT_WIDE_ROWS}
use Rattle.mt_table.specs.declared.partition.PartExpr.{PartExpr}
use Rattle.mt_table.specs.declared.partition.PartExpr.TheVariants.{Month}
use Rattle.mt_table.specs.declared.projection.Aggregate.TheVariants as aggregate
use Rattle.mt_table.specs.declared.projection.Projection.{Projection}
use Rattle.mt_table.specs.declared.projection.Projection.TheVariants.{Grouped}
use Rattle.mt_table.specs.declared.settings.Settings.{Settings}
use Rattle.mt_table.specs.declared.skip.Skip.{Skip}
use Rattle.mt_table.specs.declared.skip.SkipKind.TheVariants.{Minmax}
use Rattle.mt_table.specs.Fields.{Fields, fields}

-- its text
unfoldable pub trial_table_text : List ℕ
trial_table_text = codes "CREATE TABLE trial (d Date, k UInt32, v UInt64, s String, INDEX iv v TYPE minmax GRANULARITY 2, PROJECTION pk (SELECT k, count(), sum(v) GROUP BY k)) ENGINE = MergeTree PARTITION BY toYYYYMM(d) ORDER BY (k, v)"

-- ---- what the text says

-- its columns
abbrev pub trial_columns : List Column
trial_columns =
    (record { name = codes "d"; ty = Date })
    ∷ (record { name = codes "k"; ty = UInt W32 })
    ∷ (record { name = codes "v"; ty = UInt W64 })
    ∷ (record { name = codes "s"; ty = Str })
    ∷ []

-- its partition key: the month of d
abbrev pub trial_partition : List PartExpr
trial_partition = Month 0 ∷ []

-- its index: the least and the greatest v of each two granules
abbrev pub trial_skip : Skip
trial_skip = record { name = codes "iv"; column = 2; kind = Minmax; granularity = 2 }

-- its projection: for each k, the number of rows and the sum of v
abbrev pub trial_projection : Projection
trial_projection = Grouped (codes "pk") (1 ∷ []) (aggregate.Count ∷ aggregate.Of Sum 2 ∷ [])

-- the settings of a table that names none
abbrev pub trial_settings : Settings
trial_settings = record { granule_rows = DEFAULT_GRANULE_ROWS; granule_bytes = DEFAULT_GRANULE_BYTES; wide_bytes = DEFAULT_WIDE_BYTES; wide_rows = DEFAULT_WIDE_ROWS }

-- all of it; the key is (k, v)
abbrev pub trial_fields : Fields
trial_fields = fields (codes "trial") trial_columns trial_partition (1 ∷ 2 ∷ []) 2 (trial_skip ∷ []) (trial_projection ∷ []) trial_settings
