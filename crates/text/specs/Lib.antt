pub mod Format
pub mod Laws
pub mod Texts
pub mod Parting
pub mod Numbered
