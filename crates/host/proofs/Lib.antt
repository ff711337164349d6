pub mod OneAnswer
pub mod OneStore
pub mod Reassembling
pub mod Room
pub mod Stores
pub mod Telling
pub mod Promised
