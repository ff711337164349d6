pub mod Bytes
pub mod Buffer
pub mod Tells
pub mod Runs
pub mod Counting
