pub mod Back
pub mod Numbers
pub mod Changing
pub mod Placed
