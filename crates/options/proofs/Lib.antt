pub mod Sentences
pub mod Places
pub mod OneAnswer
pub mod CutShort
pub mod CutPlace
