-- What the proofs of several functions use, and that `read` answers once.
mod Answers
pub mod OneAnswer
