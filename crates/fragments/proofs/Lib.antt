pub mod Ruled
pub mod Storing
pub mod OneAnswer
