pub mod Calls
pub mod Trains
pub mod Meaning
