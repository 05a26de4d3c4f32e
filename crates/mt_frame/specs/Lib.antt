pub mod EndToEnd
pub mod FrameReading
pub mod Results
