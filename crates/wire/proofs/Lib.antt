pub mod Reading
pub mod Covered
