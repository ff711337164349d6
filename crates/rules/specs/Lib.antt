pub mod Same
pub mod Rules
pub mod Seen
pub mod Room
