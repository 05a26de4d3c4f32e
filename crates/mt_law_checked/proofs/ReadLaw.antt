-- What is read of a table's definitions is what their folders hold.
use Rattle.std.proofs.Common.{◌≡◌}
use Rattle.std.specs.Prelude.{All, ◌↔◌, Ok}
use Rattle.std.proofs.lemmas.List.Elements.{All-weaker}
use Rattle.mt_table.specs.declared.definition.PartDef.{PartDef}
use Rattle.mt_table.specs.declared.definition.Table.{Table}
use Rattle.mt_defs.specs.Folder.{Folder}
use Rattle.mt_defs.specs.Part.{HoldsRows}
use Rattle.mt_defs.specs.Projections.{base_of, inner_of}
use Rattle.mt_definition.specs.declared.accepted.Accepted.{Accepted}
use Rattle.mt_definition.specs.DefinitionReading.{definition_reading}
use Rattle.mt_law_checked.specs.Readable.{IsReadable}
use Rattle.mt_law_checked.proofs.ProjectionLaw.{IsProjectionRead, IsRead, below}

-- what is said of definitions: `definitions_are_read_exactly`
abbrev pub AreReadExactly : Type 0
AreReadExactly =
    (definition : PartDef) (folder : Folder) (accepted : Accepted) → IsReadable definition → (definition_reading definition folder ≡ Ok accepted) ↔ HoldsRows definition folder accepted.rows accepted.granules

pub part_read : AreReadExactly → (table : Table) (folder : Folder) → IsReadable (base_of table) → IsRead (base_of table) folder
part_read exactly table folder readable accepted = exactly (base_of table) folder accepted readable

pub projections_read : AreReadExactly → (table : Table) (folder : Folder) → All (λ projection. IsReadable (inner_of table projection)) table.projections → All (IsProjectionRead table folder) table.projections
projections_read exactly table folder readable =
    All-weaker (λ projection. IsReadable (inner_of table projection)) (IsProjectionRead table folder)
    (λ projection is accepted. exactly (inner_of table projection) (below folder projection) accepted is) table.projections readable
