pub mod Capping
pub mod Naming
pub mod Masking
pub mod Getting
pub mod Tables
