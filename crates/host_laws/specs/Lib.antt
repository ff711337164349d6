pub mod Made
pub mod OnRecord
