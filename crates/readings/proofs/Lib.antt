pub mod Bounds
pub mod Firsts
pub mod Found
pub mod Missing
pub mod Sums
