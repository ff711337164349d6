pub mod Pieces
pub mod ReadBack
pub mod RoundTrip
pub mod InBuffer
pub mod OneAnswer
