pub mod Framing
pub mod Decided
pub mod OneAnswer
