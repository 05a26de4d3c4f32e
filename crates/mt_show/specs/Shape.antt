-- What a part's folder tells besides its rows: docs/CLI.md, "show".
use Rattle.std.specs.Prelude.{ℕ, Bool, List, [], ◌∷◌, length, map, Option, option_map, Result, Ok, Err}
use Rattle.mt_fault.specs.declared.fault.Fault.{Fault}
use Rattle.mt_table.specs.declared.definition.Table.{Table}
use Rattle.mt_table.specs.declared.projection.Projection.{Projection}
use Rattle.mt_defs.specs.Folder.{Folder}
use Rattle.mt_defs.specs.Part.{is_compact}
use Rattle.mt_defs.specs.Projections.{base_of, inner_of}
use Rattle.mt_definition.specs.declared.accepted.Accepted.{Accepted}
use Rattle.mt_definition.specs.DefinitionReading.{definition_reading}
use Rattle.mt_files.specs.PartTexts.{order_reading}
use Rattle.mt_check.specs.FolderChecks.{skip_is_there}
use Rattle.mt_show.specs.declared.shape.Shape.{Shape}
use Rattle.mt_show.specs.declared.shape.Size.{Size}

-- the order of columns that is read; an accepted part has one
abbrev pub order_or_none : Result (List ℕ) Fault → List ℕ
order_or_none (Ok order) = order
order_or_none (Err fault) = []

-- how much there is of the rows and granules that are read; a projection of an accepted part has some
abbrev pub size_or_none : Result Accepted Fault → Size
size_or_none (Ok stored) = record { rows = length stored.rows; granules = length stored.granules }
size_or_none (Err fault) = record { rows = 0; granules = 0 }

-- how much a projection's folder holds, if it is there
abbrev pub size_of_projection : Table → Projection → Option Folder → Option Size
size_of_projection table projection folder = option_map (λ found. size_or_none (definition_reading (inner_of table projection) found)) folder

-- the same of projections, each by its folder
abbrev pub sizes_in : Table → List Projection → List (Option Folder) → List (Option Size)
sizes_in table (projection ∷ projections) (folder ∷ folders) = size_of_projection table projection folder ∷ sizes_in table projections folders
sizes_in table _ _ = []

-- the columns in the order of a folder's files
abbrev pub order_in : Table → Folder → List ℕ
order_in table folder = order_or_none (order_reading (base_of table) folder)

-- which skip indexes are there
abbrev pub skips_in : Table → Folder → List Bool
skips_in table folder = map (skip_is_there folder) table.skips

-- the shape of a part by its own folder and those of its projections that are there
abbrev pub shape_in : Table → Folder → List (Option Folder) → Shape
shape_in table folder folders =
    record { compact = is_compact folder; order = order_in table folder; skips = skips_in table folder; projections = sizes_in table table.projections folders }
