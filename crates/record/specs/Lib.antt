pub mod Network
pub mod Guest
pub mod Answer
