pub mod Taking
pub mod CallErrors
