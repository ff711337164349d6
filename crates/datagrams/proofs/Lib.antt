pub mod Worked
pub mod Datagram
pub mod ReadBack
pub mod InBuffer
pub mod OneAnswer
