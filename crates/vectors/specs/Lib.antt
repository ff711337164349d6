pub mod Slices
pub mod Lines
pub mod Count
pub mod Payload
pub mod Spaces
