pub mod Rfc2132
pub mod Found
