pub mod Rfc9293
pub mod Builders
