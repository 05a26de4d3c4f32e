pub mod Numbers
pub mod Terminals
pub mod Trees
pub mod Joins
pub mod Grammar
pub mod Reading
