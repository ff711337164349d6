pub mod Answer
pub mod Outcomes
pub mod Promises
pub mod Handing
pub mod helpers
