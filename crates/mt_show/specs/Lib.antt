pub mod Text
pub mod Shape
pub mod Show
