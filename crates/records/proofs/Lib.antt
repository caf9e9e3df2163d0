pub mod Steps
pub mod Entering
pub mod Shifting
pub mod Laws
pub mod Keeping
