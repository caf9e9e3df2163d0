pub mod Peaks
pub mod Charges
pub mod Determinants
pub mod Worked
