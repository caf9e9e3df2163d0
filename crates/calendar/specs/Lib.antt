pub mod Dates
pub mod Marks
pub mod Calendars
