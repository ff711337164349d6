pub mod Lengths
pub mod ReadBack
