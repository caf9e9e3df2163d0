pub mod Hours
pub mod Services
