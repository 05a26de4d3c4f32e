pub mod Terminals
pub mod Trees
pub mod Grammar
pub mod Reading
pub mod Formed
