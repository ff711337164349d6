pub mod Digits
pub mod Blocks
pub mod WordsLeft
