pub mod list
