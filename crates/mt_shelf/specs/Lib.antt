pub mod Paths
pub mod Files
pub mod Bytes
pub mod Causes
pub mod State
pub mod Held
pub mod Streams
pub mod KeptPaths
