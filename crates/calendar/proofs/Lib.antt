pub mod Marked
pub mod Masks
pub mod Picked
pub mod Tables
pub mod Weekdays
pub mod Working
