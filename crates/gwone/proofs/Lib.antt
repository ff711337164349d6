pub mod Adding
pub mod Decimal
pub mod FewestDigits
pub mod Called
pub mod Prints
