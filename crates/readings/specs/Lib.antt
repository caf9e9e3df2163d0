pub mod Meaning
pub mod Options
pub mod Demands
pub mod Missing
