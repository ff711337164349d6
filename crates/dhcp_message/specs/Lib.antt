pub mod Message
pub mod helpers
