pub mod Rust
pub mod Frames
pub mod Backend
pub mod Dhcp
pub mod Udp
pub mod Slirp
pub mod Runs
