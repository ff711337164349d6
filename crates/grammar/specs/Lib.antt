pub mod Grammar
pub mod Report
