pub mod LowFirst
