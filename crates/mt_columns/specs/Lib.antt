pub mod Leaves
pub mod Nesting
pub mod Shapes
