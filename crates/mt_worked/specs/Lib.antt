pub mod NumberColumns
pub mod WrongFolders
