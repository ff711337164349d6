pub mod Marked
pub mod Table
pub mod Derivations
pub mod OwnNetwork
