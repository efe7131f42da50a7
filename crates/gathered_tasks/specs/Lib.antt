pub mod Bounds
pub mod Rooms
pub mod Held
pub mod Carried
pub mod Blocks
pub mod BlockLaws
