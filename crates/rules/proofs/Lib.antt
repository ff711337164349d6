pub mod Same
pub mod Datagram
pub mod Says
pub mod Room
pub mod Settled
