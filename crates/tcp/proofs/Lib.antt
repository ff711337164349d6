pub mod TcpLaws
pub mod Pieces
pub mod OneAnswer
pub mod SumsRight
pub mod ReadBack
pub mod InBuffer
