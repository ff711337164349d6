pub mod Rfc894
pub mod Rfc826
pub mod Rfc791
pub mod Rfc792
pub mod Rfc768
pub mod Rfc9293
pub mod Rfc2131
