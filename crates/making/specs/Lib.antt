pub mod Making
pub mod Over
