pub mod Echo
pub mod ReadBack
