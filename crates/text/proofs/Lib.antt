pub mod Parts
pub mod Lines
pub mod Rejoin
pub mod Numbers
pub mod Room
pub mod Parting
