pub mod Exactly
pub mod Lent
pub mod Highest
pub mod Worked
