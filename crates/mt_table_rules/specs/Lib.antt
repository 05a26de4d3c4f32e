pub mod TypeTexts
pub mod Columns
pub mod SettingTexts
pub mod Projections
pub mod Rules
