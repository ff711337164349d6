pub mod Written
pub mod Isolation
pub mod Ids
pub mod Promised
pub mod Worked
