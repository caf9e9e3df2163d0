pub mod Numbers
pub mod Days
pub mod Points
pub mod Masks
pub mod Values
pub mod Said
pub mod Commands
pub mod Lines
