pub mod Peaking
pub mod Rounding
