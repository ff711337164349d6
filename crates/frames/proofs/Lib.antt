pub mod Lengths
pub mod Framed
pub mod SumsRight
pub mod ReadBack
pub mod InBuffer
pub mod OneAnswer
