pub mod Listed
pub mod AllZero
