pub mod Exported
pub mod Parts
pub mod Reassembly
