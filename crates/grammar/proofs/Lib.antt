pub mod Items
pub mod Unique
pub mod Exact
pub mod Places
