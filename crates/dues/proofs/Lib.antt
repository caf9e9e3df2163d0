pub mod Rooms
pub mod Making
pub mod Among
pub mod Soundness
pub mod Apart
pub mod Alike
pub mod Covering
pub mod Outcome
