pub mod Reported
pub mod helpers
