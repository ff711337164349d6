pub mod AsCore
pub mod Orders
pub mod Ids
pub mod There
