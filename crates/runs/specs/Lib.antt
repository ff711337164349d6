pub mod Calls
pub mod Ids
