-- The folders of projections: docs/FORMAT.md, "Projections".
use Rattle.std.specs.Prelude.{ℕ, List, ◌++◌, codes}
use Rattle.mt_table.specs.declared.projection.Projection.{Projection}
use Rattle.mt_defs.specs.Projections.{projection_name}

-- the folder of a projection, as a fault names it
abbrev pub projection_folder : Projection → List ℕ
projection_folder projection = projection_name projection ++ codes ".proj"
