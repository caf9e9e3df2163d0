pub mod States
pub mod Answers
pub mod Journals
pub mod Books
pub mod Laws
pub mod Worked
