pub mod Frames
pub mod Builders
