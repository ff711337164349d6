pub mod Folding
pub mod Rfc1071
pub mod helpers
