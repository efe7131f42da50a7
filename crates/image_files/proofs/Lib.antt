pub mod Overlaid
pub mod Rooms
