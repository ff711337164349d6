pub mod Built
pub mod OneAnswer
pub mod Changes
pub mod InBuffer
pub mod Fitting
pub mod Addresses
pub mod BuiltOf
