pub mod Books
pub mod Entering
pub mod Histories
pub mod Soundness
