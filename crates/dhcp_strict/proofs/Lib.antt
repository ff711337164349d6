-- What the proofs of several functions use, and that `read_message` answers once.
mod Listing
mod MessageRead
pub mod OneAnswer
