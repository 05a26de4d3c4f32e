pub mod Cells
pub mod RowRefs
pub mod RowsReading
pub mod ListedPlaces
pub mod DataReading
pub mod DefinitionReading
