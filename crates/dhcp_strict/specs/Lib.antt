pub mod MessageRead
pub mod helpers
