pub mod FrameErrors
pub mod Touched
pub mod Held
pub mod Reading
